use Rattle.std.proofs.Common.{◌≡◌, length}
use Rattle.loop_parse.specs.ExpressionMachine.{negated}
use Rattle.loop_parse.proofs.expression.negate.Given as goal

abbrev pub invariant-loop-token : goal.invariant-loop-token
invariant-loop-token l = negated l.fn.negations l.fn.factor ≡ negated l.signs l.value

abbrev pub decreases-loop-token : goal.decreases-loop-token
decreases-loop-token l = length l.signs
