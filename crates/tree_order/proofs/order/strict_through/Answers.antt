use Rattle.std.proofs.Common.{◌≡◌, ◌++◌, length, sym, subst, rules}
use Rattle.std.specs.Prelude.{None, Some, slice_get}
use Rattle.std.specs.Option.{option_map}
use Rattle.std.proofs.lemmas.Result.{IfOk-weaker}
use Rattle.tree_order.specs.Orders.{DecidesThrough}
use Rattle.tree_order.proofs.OrderChains.{through_both, through_inner, through_outer, through_text}
use Rattle.tree_order.proofs.order.strict_through.Goals as goal

pub returns-in-Some : goal.returns-in-Some
returns-in-Some c =
    let first = c.args.first.now in
    let second = c.args.second.now in
    let rest = c.in-Some.rest.now in
    let get : slice_get second.equal (length first.equal) ≡ Some rest = search rules in
    IfOk-weaker c.with_further.result (λ all. all ≡ option_map (λ ts. ts ++ rest.below) first.strict)
    (DecidesThrough first second)
    (λ all is. subst (DecidesThrough first second) (sym is) (through_outer first second rest get))
    c.with_further.ensures

pub returns-in-Some-get : goal.returns-in-Some-get
returns-in-Some-get c =
    let first = c.args.first.now in
    let second = c.args.second.now in
    let rest = c.in-Some-get.rest.now in
    let get : slice_get first.equal (length second.equal) ≡ Some rest = search rules in
    IfOk-weaker c.with_further-in-Some-get.result (λ all. all ≡ option_map (λ ts. ts ++ rest.below) second.strict)
    (DecidesThrough first second)
    (λ all is. subst (DecidesThrough first second) (sym is) (through_inner first second rest get))
    c.with_further-in-Some-get.ensures

pub returns-in-Some-strict : goal.returns-in-Some-strict
returns-in-Some-strict c =
    let first = c.args.first.now in
    let second = c.args.second.now in
    let terms = c.in-Some-strict.terms in
    let one : slice_get second.equal (length first.equal) ≡ None = search rules in
    let two : slice_get first.equal (length second.equal) ≡ None = search rules in
    let is : second.strict ≡ Some terms = search rules in
    IfOk-weaker c.with_further-in-Some-strict.result (λ all. all ≡ option_map (λ ts. ts ++ terms) first.strict)
    (DecidesThrough first second)
    (λ all e. subst (DecidesThrough first second) (sym e) (through_both first second terms one two is))
    c.with_further-in-Some-strict.ensures

pub returns-in-None : goal.returns-in-None
returns-in-None c =
    let first = c.args.first.now in
    let second = c.args.second.now in
    let one : slice_get second.equal (length first.equal) ≡ None = search rules in
    let two : slice_get first.equal (length second.equal) ≡ None = search rules in
    let is : second.strict ≡ None = search rules in
    through_text first second one two is
