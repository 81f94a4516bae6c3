use Rattle.std.proofs.Common.{◌≡◌, ◌≤ℤ◌, sym, subst, pos, rules, FitsSigned}
use Rattle.std.specs.Prelude.{unsigned_abs}
use Rattle.std.specs.Int.{w128}
use Rattle.std.proofs.lemmas.Int.{to_z-of_z}
use Rattle.stride_trees.specs.CommonDivisors.{IsGreatestCommonDivisor}
use Rattle.stride_trees.proofs.never.divisor_of.Goals as goal

pub common_divisor-requires : goal.common_divisor-requires
common_divisor-requires c =
    let fits : FitsSigned w128 c.args.test.now.divisor = search rules in
    subst (λ z. pos 1 ≤ℤ z) (sym (to_z-of_z w128 c.args.test.now.divisor fits)) c.requires.divisor

pub returns-clause-greatest : goal.returns-clause-greatest
returns-clause-greatest c =
    let test = c.args.test.now in
    let common = c.common_divisor.result in
    let divisor : FitsSigned w128 test.divisor = search rules in
    let fits : FitsSigned w128 common = search rules in
    let coefs : c.as_slice.result.now ≡ test.form.coefs = search rules in
    subst (λ z. IsGreatestCommonDivisor (unsigned_abs test.divisor) test.form.coefs (unsigned_abs z))
    (sym (to_z-of_z w128 common fits))
    (subst (λ zs. IsGreatestCommonDivisor (unsigned_abs test.divisor) zs (unsigned_abs common)) coefs
    (subst (λ z. IsGreatestCommonDivisor (unsigned_abs z) c.as_slice.result.now (unsigned_abs common))
    (to_z-of_z w128 test.divisor divisor) c.common_divisor.ensures.greatest))
