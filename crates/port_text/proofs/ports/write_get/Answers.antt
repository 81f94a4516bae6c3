use Rattle.port_text.proofs.ports.write_get.Goals as goal

pub returns-in-Lines : goal.returns-in-Lines
returns-in-Lines g c = rw c.in-Lines.is (rw c.from-channel.ensures at c.write_with_number.ensures)

pub returns-in-MayFire : goal.returns-in-MayFire
returns-in-MayFire g c = rw c.in-MayFire.is (rw c.from-channel.ensures at c.write_with_number-in-MayFire.ensures)

pub returns-in-Done : goal.returns-in-Done
returns-in-Done g c = rw c.in-Done.is (rw c.from-channel.ensures at c.write_with_number-in-Done.ensures)

pub returns-in-Clocked : goal.returns-in-Clocked
returns-in-Clocked g c = rw c.in-Clocked.is (rw c.from-channel.ensures at c.write_with_number-in-Clocked.ensures)
