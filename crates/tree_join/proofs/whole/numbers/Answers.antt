use Rattle.std.proofs.Common.{◌≡◌, ◌+◌, ◌∷◌, ◌++◌, [], ap, ◌∙◌, sym, arith}
use Rattle.std.specs.List.{range_with_len}
use Rattle.sanlp.proofs.Lists.{range_with_len-append}
use Rattle.tree_join.proofs.whole.numbers.Goals as goal

pub loop-number-preserved : goal.loop-number-preserved
loop-number-preserved c =
    let here : 0 + c.loop-number.number ≡ c.loop-number.number = omega arith in
    c.in_ok-push.ensures.ok ∙ ap (λ xs. xs ++ c.loop-number.number ∷ []) c.loop-number.invariant
    ∙ ap (λ n. range_with_len 0 c.loop-number.number ++ n ∷ []) (sym here)
    ∙ sym (range_with_len-append 0 c.loop-number.number 1)

pub returns : goal.returns
returns c =
    let last : c.loop-number.number ≡ c.args.count = omega arith in
    c.loop-number.invariant ∙ ap (range_with_len 0) last
