use Rattle.rtl_text.proofs.network.write_unit_part.Goals as goal

pub returns-in-DoneSignal : goal.returns-in-DoneSignal
returns-in-DoneSignal g c = rw c.in-DoneSignal.is (rw c.from-number.ensures at c.write_with_number.ensures)

pub returns-in-DoneTerm : goal.returns-in-DoneTerm
returns-in-DoneTerm g c = rw c.in-DoneTerm.is (rw c.from-number.ensures at c.write_with_number-in-DoneTerm.ensures)
