use Rattle.std.proofs.Common.{◌/◌, ◌%◌, eqb, get_or, ap}
use Rattle.std.proofs.lemmas.Nat.Bits.{shr_and_one}
use Rattle.channel_plan.proofs.token_marks.is_marked.Goals as goal

pub returns : goal.returns
returns c = ap (λ bit. eqb bit 1) (shr_and_one (get_or c.args.words.now (c.args.turn / 64) 0) (c.args.turn % 64))
