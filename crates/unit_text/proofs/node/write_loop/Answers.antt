use Rattle.unit_text.proofs.node.write_loop.Goals as goal

pub returns-in-Gain : goal.returns-in-Gain
returns-in-Gain g c = rw c.in-Gain.is (rw c.from.ensures at c.write_with_number.ensures)
