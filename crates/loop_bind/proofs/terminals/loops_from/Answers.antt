use Rattle.std.proofs.Common.{◌≡◌, ◌+◌, ◌-◌, ◌++◌, ◌∷◌, [], ap, sym, ◌∙◌, arith}
use Rattle.std.specs.List.{range_with_len}
use Rattle.sanlp.proofs.Lists.{range_with_len_more}
use Rattle.loop_bind.proofs.terminals.loops_from.Goals as goal

pub loop-number-preserved : goal.loop-number-preserved
loop-number-preserved c =
    let first = c.args.first in
    let number = c.loop-number.number in
    let one_more : (number + 1) - first ≡ (number - first) + 1 = omega arith in
    c.in_ok-push.ensures.ok ∙ ap (λ loops. loops ++ number ∷ []) c.loop-number.invariant
    ∙ sym (ap (range_with_len first) one_more ∙ range_with_len_more first (number - first) number (omega arith))
