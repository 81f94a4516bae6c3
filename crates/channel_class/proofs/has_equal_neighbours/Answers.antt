use Rattle.std.proofs.Common.{◌≡◌, suc, ◌+◌, ◌-◌, sym, ◌∙◌, ap, drop, get_or, arith}
use Rattle.std.proofs.lemmas.List.Sorted.{IsNonDecreasingBy-from_sort}
use Rattle.channel_class.specs.Classes.{has_repeat}
use Rattle.channel_class.proofs.Neighbours.{repeat_later, repeat_last}
use Rattle.channel_class.proofs.has_equal_neighbours.Goals as goal

pub loop-at-preserved : goal.loop-at-preserved
loop-at-preserved c =
    let xs = c.args.sorted.now in
    let at = c.loop-at.at in
    let next : suc (at - 1) ≡ at = omega arith in
    let here : (at + 1) - 1 ≡ at = omega arith in
    let later = repeat_later xs (at - 1) (IsNonDecreasingBy-from_sort (λ x. x) xs c.requires) (omega arith)
    (λ e. c.if-sorted-at.false (ap (λ i. get_or xs i 0) (sym next) ∙ sym e)) in
    ap (λ i. has_repeat (drop i xs)) (here ∙ sym next) ∙ sym later ∙ c.loop-at.invariant

pub returns : goal.returns
returns c = sym (repeat_last c.args.sorted.now (c.loop-at.at - 1) (omega arith)) ∙ c.loop-at.invariant
