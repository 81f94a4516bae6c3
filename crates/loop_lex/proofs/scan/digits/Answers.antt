use Rattle.loop_lex.proofs.Longest.{digits_found}
use Rattle.loop_lex.proofs.scan.digits.Goals as goal

pub returns : goal.returns
returns c = let found = digits_found c.args.bytes.now c.requires in rw c.digits_length.ensures (found.long, found.kind)
