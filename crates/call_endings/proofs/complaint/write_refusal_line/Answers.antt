use Rattle.call_endings.proofs.complaint.write_refusal_line.Goals as goal

pub returns-in-Script : goal.returns-in-Script
returns-in-Script g c = rw c.in-Script.is (rw c.from.ensures at c.write_paired.ensures)

pub returns-in-UnknownArray : goal.returns-in-UnknownArray
returns-in-UnknownArray g c = rw c.in-UnknownArray.is c.write_numbered-in-UnknownArray.ensures

pub returns-in-Twice : goal.returns-in-Twice
returns-in-Twice g c = rw c.in-Twice.is c.write_numbered-in-Twice.ensures

pub returns-in-NotANumber : goal.returns-in-NotANumber
returns-in-NotANumber g c = rw c.in-NotANumber.is c.write_paired-in-NotANumber.ensures
