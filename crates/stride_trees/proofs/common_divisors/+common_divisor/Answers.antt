use Rattle.std.proofs.Common.{◌≡◌, ℕ, ◌∷◌, sym, subst, rules, FitsSigned, to_z, of_z}
use Rattle.std.specs.Prelude.{unsigned_abs}
use Rattle.std.specs.Int.{IsGcd, w128}
use Rattle.std.proofs.lemmas.Int.{to_z-of_z}
use Rattle.std.proofs.lemmas.List.{nil_from_length}
use Rattle.stride_trees.specs.CommonDivisors.{IsGreatestCommonDivisor}
use Rattle.stride_trees.proofs.EuclidSteps.{greatest_of_more, greatest_of_none}
use Rattle.stride_trees.proofs.common_divisors.+common_divisor.Goals as goal

pub returns-in_default-clause-greatest : goal.returns-in_default-clause-greatest
returns-in_default-clause-greatest t c =
    let n : ℕ = unsigned_abs c.args.number in
    let fits : FitsSigned w128 c.args.number = search rules in
    subst (λ z. IsGreatestCommonDivisor n c.args.values.now (unsigned_abs z)) (sym (to_z-of_z w128 c.args.number fits))
    (greatest_of_none n c.args.values.now (nil_from_length c.args.values.now c.in_default.ensures.cases))

pub returns-clause-greatest : goal.returns-clause-greatest
returns-clause-greatest t c =
    let n : ℕ = unsigned_abs c.args.number in
    let first : c.args.values.now ≡ c.in-Some.value.now ∷ c.in-Some.values.now = search rules in
    let own : FitsSigned w128 c.common_divisor.result = search rules in
    let two : FitsSigned w128 c.divisor_of_two.result = search rules in
    let k : ℕ = unsigned_abs c.common_divisor.result in
    let g : ℕ = unsigned_abs c.divisor_of_two.result in
    let fits : FitsSigned w128 c.args.number = search rules in
    let value : FitsSigned w128 c.in-Some.value.now = search rules in
    let here : IsGcd n (unsigned_abs c.in-Some.value.now) g =
    subst (λ z. IsGcd n (unsigned_abs z) g) (to_z-of_z w128 c.in-Some.value.now value)
    (subst (λ z. IsGcd (unsigned_abs z) (unsigned_abs (to_z w128 (of_z w128 c.in-Some.value.now))) g)
    (to_z-of_z w128 c.args.number fits) c.divisor_of_two.ensures.greatest) in
    let rest : IsGreatestCommonDivisor g c.in-Some.values.now k =
    subst (λ z. IsGreatestCommonDivisor (unsigned_abs z) c.in-Some.values.now k) (to_z-of_z w128 c.divisor_of_two.result two)
    c.common_divisor.ensures.greatest in
    subst (λ z. IsGreatestCommonDivisor n c.args.values.now (unsigned_abs z)) (sym (to_z-of_z w128 c.common_divisor.result own))
    (subst (λ zs. IsGreatestCommonDivisor n zs k) (sym first)
    (greatest_of_more n g k c.in-Some.value.now c.in-Some.values.now here rest))
