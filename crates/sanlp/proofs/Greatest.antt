-- The greatest number below another that passes.
use Rattle.std.proofs.Common.{◌≡◌, ℕ, zero, suc, List, Bool, true, false, cond, refl, ap, ◌∙◌, inl, inr, arith}
use Rattle.std.specs.Prelude.{Option, Some, None}
use Rattle.std.proofs.lemmas.Bool.{cases_lt}
use Rattle.sanlp.specs.declared.nest.Nest.{Nest}
use Rattle.sanlp.specs.declared.nest.Point.{Point}
use Rattle.sanlp.specs.Laws.{IsGreatestBelow, IsLastWriter}
use Rattle.sanlp.specs.Writers.{greatest_below, last_before, writes_at}

one_more : (f : ℕ → Bool) (t : ℕ) (o : Option ℕ) (b : Bool) → f t ≡ b → IsGreatestBelow f t o
    → IsGreatestBelow f (suc t) (cond b (Some t) o)
one_more f t o true e h = (omega arith, e, λ w l r. absurd (omega arith))
one_more f t None false e h =
    λ w lt. elim (cases_lt w t) [ inl k ↦ h w k | inr k ↦ (let s : w ≡ t = omega arith in ap f s ∙ e) ]
one_more f t (Some u) false e h = (
  omega (arith, h.0),
  h.1,
  λ w l r. elim (cases_lt w t) [ inl k ↦ h.2 w l k | inr k ↦ (let s : w ≡ t = omega arith in ap f s ∙ e) ],
)

greatest_below_is : (f : ℕ → Bool) (t : ℕ) → IsGreatestBelow f t (greatest_below f t)
greatest_below_is f zero = λ w lt. absurd (omega arith)
greatest_below_is f (suc t) = one_more f t (greatest_below f t) (f t) refl (greatest_below_is f t)

pub is_last_writer : (n : Nest) (points : List Point) → IsLastWriter n points
unfolding last_before
is_last_writer n points t cell = greatest_below_is (writes_at n points cell) t
