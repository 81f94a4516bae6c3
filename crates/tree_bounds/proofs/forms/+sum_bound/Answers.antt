use Rattle.std.proofs.Common.{◌≡◌, ◌+◌, ◌*◌, ◌∙◌, ℕ, FitsSigned, rules, ap, arith}
use Rattle.std.specs.Int.{w128}
use Rattle.std.specs.Prelude.{unsigned_abs}
use Rattle.std.proofs.lemmas.Int.{to_z-of_z}
use Rattle.tree_bounds.proofs.Sums.{sum_more, sum_outside}
use Rattle.tree_bounds.proofs.forms.+sum_bound.Goals as goal

pub returns-then-size-ge-LEAST_OUTSIDE : goal.returns-then-size-ge-LEAST_OUTSIDE
returns-then-size-ge-LEAST_OUTSIDE t c = λ short. omega (arith, short, c.if-size-ge-LEAST_OUTSIDE)

pub returns-in_err-product : goal.returns-in_err-product
returns-in_err-product t c =
    let fits : FitsSigned w128 c.in-Some.coef.now = search rules in
    let size : c.unsigned_abs.result ≡ unsigned_abs c.in-Some.coef.now = simp to_z-of_z at c.unsigned_abs.ensures.value in
    sum_outside c.args.size c.in-Some.coef.now c.in-Some.coefs.now c.args.coefs.now c.args.limit c.from_residual.result
    c.from_residual.ensures c.in-Some.ensures.cases.0
    (omega (arith, c.in_err-product.ensures, ap (λ (u : ℕ). u * c.args.limit) size))

pub returns-in_err-next : goal.returns-in_err-next
returns-in_err-next t c =
    let fits : FitsSigned w128 c.in-Some.coef.now = search rules in
    let size : c.unsigned_abs.result ≡ unsigned_abs c.in-Some.coef.now = simp to_z-of_z at c.unsigned_abs.ensures.value in
    sum_outside c.args.size c.in-Some.coef.now c.in-Some.coefs.now c.args.coefs.now c.args.limit
    c.from_residual-in_err-next.result c.from_residual-in_err-next.ensures c.in-Some.ensures.cases.0
    (omega (arith, c.in_err-next.ensures, c.in_ok-product.ensures.1, ap (λ (u : ℕ). u * c.args.limit) size))

pub returns : goal.returns
returns t c =
    let fits : FitsSigned w128 c.in-Some.coef.now = search rules in
    let size : c.unsigned_abs.result ≡ unsigned_abs c.in-Some.coef.now = simp to_z-of_z at c.unsigned_abs.ensures.value in
    let next : c.in_ok-next.next ≡ c.args.size + unsigned_abs c.in-Some.coef.now * c.args.limit =
    c.in_ok-next.ensures.1
    ∙ ap (λ (p : ℕ). c.args.size + p) (c.in_ok-product.ensures.1 ∙ ap (λ (u : ℕ). u * c.args.limit) size) in
    sum_more c.args.size c.in-Some.coef.now c.in-Some.coefs.now c.args.coefs.now c.args.limit c.in_ok-next.next
    c.sum_bound.result c.in-Some.ensures.cases.0 next c.sum_bound.ensures
