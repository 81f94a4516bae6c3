use Rattle.std.proofs.Common.{rules, ◌≡◌, FitsSigned, w64, ◌+ℤ◌, ◌-ℤ◌, pos, get_or, subst, arith, inl, inr}
use Rattle.std.proofs.lemmas.Bool.{cases_lt}
use Rattle.std.proofs.lemmas.Int.{to_z-of_z}
use Rattle.net_checker.proofs.TagRows.{step_whole}
use Rattle.net_checker.proofs.sources.is_step.Goals as goal

pub loop-k-init : goal.loop-k-init
loop-k-init c k lt = absurd (omega (arith, lt))

pub loop-k-preserved : goal.loop-k-preserved
loop-k-preserved c k lt =
    let at = c.loop-k.k in
    let fits : FitsSigned w64 (get_or c.args.from.now at (pos 0)) = search rules in
    let fits_second : FitsSigned w64 (get_or c.args.second.now at (pos 0)) = search rules in
    let fits_at : FitsSigned w64 (get_or c.args.at.now at (pos 0)) = search rules in
    let fits_after : FitsSigned w64 (get_or c.args.after.now at (pos 0)) = search rules in
    let far = c.is_as_far.ensures c.if-not-is_as_far.false in
    let whole : get_or c.args.after.now at (pos 0)
    ≡ get_or c.args.at.now at (pos 0) +ℤ (get_or c.args.second.now at (pos 0) -ℤ get_or c.args.from.now at (pos 0)) =
    simp to_z-of_z at far in
    elim (cases_lt k at) [
      | inl before ↦ c.loop-k.invariant k before
      | inr last ↦
          let same : at ≡ k = omega (arith, lt, last) in
          subst
          (λ j. get_or c.args.after.now j (pos 0)
          ≡ get_or c.args.at.now j (pos 0) +ℤ (get_or c.args.second.now j (pos 0) -ℤ get_or c.args.from.now j (pos 0)))
          same whole
    ]

pub returns : goal.returns
returns c _ =
    step_whole c.args.from.now c.args.second.now c.args.at.now c.args.after.now (omega arith) (omega arith) (omega arith)
    (λ k lt. c.loop-k.invariant k (omega (arith, lt)))
