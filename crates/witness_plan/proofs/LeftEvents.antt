-- What a process has left of its script, and what one event more makes of it.
--
-- A process has left what the schedule so far left. The event that it makes next is the first of these, so one entry of it takes
-- one event off, and where there is no next event nothing is left.
use Rattle.std.proofs.Common.{◌≡◌, ℕ, zero, suc, Some, None, List, [], ◌∷◌, ◌++◌, drop, slice_get, refl, sym, ap, ◌∙◌}
use Rattle.net_core.specs.declared.network.Event.{Event}
use Rattle.net_core.specs.Cuts.{cut_after, opening}
use Rattle.net_core.specs.Machine.{Net}
use Rattle.net_core.proofs.CutOrder.{advanced_here}
use Rattle.plain_data.proofs.Lists.{drop-some}
use Rattle.witness_plan.specs.Records.{left_after}
use Rattle.witness_plan.proofs.AlongCuts.{cut_after-push}

-- No event is left

none_left : {X : Type 0} (xs : List X) (k : ℕ) → slice_get xs k ≡ None → drop k xs ≡ []
none_left [] zero is = refl
none_left [] (suc k) is = refl
none_left (y ∷ xs) zero is = cc
none_left (y ∷ xs) (suc k) is = none_left xs k is

module _ (net : Net) (schedule : List ℕ) (p : ℕ) where
  pub nothing_left : slice_get (net.script p) (cut_after opening schedule p) ≡ None → left_after net schedule p ≡ []
  nothing_left is = none_left (net.script p) (cut_after opening schedule p) is

-- One event more

module _ (net : Net) (schedule more : List ℕ) (p : ℕ) (grown : more ≡ schedule ++ p ∷ []) where
  pub left_next : (e : Event) → slice_get (net.script p) (cut_after opening schedule p) ≡ Some e
      → left_after net schedule p ≡ e ∷ left_after net more p
  left_next e is =
      drop-some (net.script p) (cut_after opening schedule p) e is
      ∙ ap (λ k. e ∷ drop k (net.script p))
      (sym (ap (λ cut. cut p) (cut_after-push schedule more p grown)
      ∙ advanced_here (cut_after opening schedule) p p refl))
