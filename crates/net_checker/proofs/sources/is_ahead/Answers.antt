use Rattle.std.proofs.Common.{◌≡◌, pos, ◌+ℤ◌, [], ◌∷◌, ◌++◌, rules, sym, ap, ◌∙◌, arith, FitsSigned, w64}
use Rattle.std.proofs.lemmas.Int.{ints, to_z-of_z}
use Rattle.std.proofs.lemmas.Slice.Eq.{slice_eq-Decides}
use Rattle.std.proofs.lemmas.Bool.Decides.{Decides-int_eq}
use Rattle.net_checker.proofs.sources.is_ahead.Goals as goal

pub returns : goal.returns
returns c equal =
    let front = c.in-Some.front.now in
    let value = c.in-Some.value.now in
    let greater = c.in-Some-split_last.greater.now in
    let short : FitsSigned w64 c.in-Some.value.now = search rules in
    let same : c.in-Some.front.now ≡ c.in-Some-split_last.same.now =
    (slice_eq-Decides Decides-int_eq _ _ c.eq.result c.eq.ensures).0 equal in
    let sum = (simp to_z-of_z at c.in-Some-checked_add.ensures).1 in
    let ahead : greater ≡ value +ℤ pos c.args.by = omega (arith, ints, c.if-sum-greater.false, sum, c.from.ensures) in
    record {
      front = front;
      value = value;
      is_first = sym c.as_slice.ensures.value ∙ c.in-Some.ensures.cases.0;
      is_second =
          sym c.as_slice-2.ensures.value ∙ c.in-Some-split_last.ensures.cases.0
          ∙ ap (λ o. o ++ greater ∷ []) (sym same) ∙ ap (λ v. front ++ v ∷ []) ahead;
    }
