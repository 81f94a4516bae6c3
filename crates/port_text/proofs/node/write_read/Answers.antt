use Rattle.port_text.proofs.node.write_read.Goals as goal

pub returns-in-Signal : goal.returns-in-Signal
returns-in-Signal g c = rw c.in-Signal.is (rw c.from-number.ensures at c.write_with_number.ensures)

pub returns-in-Line : goal.returns-in-Line
returns-in-Line g c = rw c.in-Line.is (rw c.from-number.ensures at c.write_with_number-in-Line.ensures)
