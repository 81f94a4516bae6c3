use Rattle.std.proofs.Common.{◌≡◌, ◌%◌, ◌∙◌, ℕ, ℤ, pos, sym, ap, subst, rules, FitsSigned, to_z, of_z}
use Rattle.std.specs.Prelude.{unsigned_abs}
use Rattle.std.specs.Int.{IsGcd, w128}
use Rattle.std.proofs.lemmas.Int.{to_z-of_z}
use Rattle.stride_trees.proofs.EuclidSteps.{by_rest, whole}
use Rattle.stride_trees.proofs.common_divisors.+divisor_of_two.Goals as goal

-- the numbers as they are read
size_read : (first second rest : ℤ) → FitsSigned w128 first → FitsSigned w128 second
    → unsigned_abs rest
    ≡ unsigned_abs (to_z w128 (of_z w128 second)) % unsigned_abs (to_z w128 (of_z w128 first))
    → unsigned_abs rest ≡ unsigned_abs second % unsigned_abs first
size_read first second rest f s size =
    size
    ∙ ap (λ z. unsigned_abs z % unsigned_abs (to_z w128 (of_z w128 first))) (to_z-of_z w128 second s)
    ∙ ap (λ z. unsigned_abs second % unsigned_abs z) (to_z-of_z w128 first f)

pub returns-then-rest-eq0-clause-greatest : goal.returns-then-rest-eq0-clause-greatest
returns-then-rest-eq0-clause-greatest t c =
    let nothing : c.remainder-rest.result ≡ pos 0 = search rules in
    let fits : FitsSigned w128 c.args.first = search rules in
    let second : FitsSigned w128 c.args.second = search rules in
    subst (λ z. IsGcd (unsigned_abs c.args.first) (unsigned_abs c.args.second) (unsigned_abs z))
    (sym (to_z-of_z w128 c.args.first fits))
    (whole c.args.first c.args.second c.remainder-rest.result
    (size_read c.args.first c.args.second c.remainder-rest.result fits second c.remainder-rest.ensures.size) nothing)

pub returns-clause-greatest : goal.returns-clause-greatest
returns-clause-greatest t c =
    let fits : FitsSigned w128 c.args.first = search rules in
    let second : FitsSigned w128 c.args.second = search rules in
    let rest : FitsSigned w128 c.remainder-rest.result = search rules in
    let own : FitsSigned w128 c.divisor_of_two.result = search rules in
    let g : ℕ = unsigned_abs c.divisor_of_two.result in
    let step : IsGcd (unsigned_abs c.remainder-rest.result) (unsigned_abs c.args.first) g =
    subst (λ z. IsGcd (unsigned_abs c.remainder-rest.result) (unsigned_abs z) g) (to_z-of_z w128 c.args.first fits)
    (subst (λ z. IsGcd (unsigned_abs z) (unsigned_abs (to_z w128 (of_z w128 c.args.first))) g)
    (to_z-of_z w128 c.remainder-rest.result rest) c.divisor_of_two.ensures.greatest) in
    subst (λ z. IsGcd (unsigned_abs c.args.first) (unsigned_abs c.args.second) (unsigned_abs z))
    (sym (to_z-of_z w128 c.divisor_of_two.result own))
    (by_rest c.args.first c.args.second c.remainder-rest.result g
    (size_read c.args.first c.args.second c.remainder-rest.result fits second c.remainder-rest.ensures.size) step)
