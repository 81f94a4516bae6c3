use Rattle.std.proofs.Common.{arith}
use Rattle.std.proofs.lemmas.Bool.Decides.{nat_tests}
use Rattle.reorder_slots.proofs.Uses.{gets_for-more}
use Rattle.reorder_slots.proofs.tokens.tokens_of.Goals as goal

pub loop-token-preserved : goal.loop-token-preserved
loop-token-preserved c =
    grind (arith, nat_tests, c.max-tokens.ensures, gets_for-more c.args.uses.now c.loop-token.token-index (omega arith))
