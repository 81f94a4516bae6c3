use Rattle.std.proofs.Common.{arith, refl}
use Rattle.std.proofs.lemmas.Int.{ints}
use Rattle.source_tree.specs.Checked.{at_dead}
use Rattle.last_writer.proofs.source.nowhere.Goals as goal

pub no_is_nowhere-requires-clause-divisor : goal.no_is_nowhere-requires-clause-divisor
no_is_nowhere-requires-clause-divisor c = omega (arith, ints, c.requires.test.1.divisor)

pub no_is_nowhere-requires-clause-small : goal.no_is_nowhere-requires-clause-small
no_is_nowhere-requires-clause-small c = c.requires.test.1.small

pub returns : goal.returns
returns c = λ n r cx quotient at.
    at_dead cx _ c.in_ok-proof.proof refl (c.in_ok-proof.ensures cx quotient at)
