-- Whether an event of a window is due, looked at from the event back to the window's beginning.
--
-- The invariant is that the event is due at its place where it is due at the place up to which was looked. An
-- event between that has come, or on which it doesn't depend, is passed (`due_passed`): no more is asked of it. At
-- the window's beginning nothing is left to ask, since all before it have come (`due_start`). One that hasn't come
-- and on which the event depends decides that it isn't due (`due_stop`). Whether a channel lets it come isn't
-- asked.
use Rattle.std.proofs.Common.{◌≡◌, ◌⊎◌, ℕ, suc, ◌+◌, ◌<◌, Bool, true, false, not, ◌&&◌, ◌||◌, Some, List, slice_get}
use Rattle.std.proofs.Common.{ap, ◌∙◌, inl, inr, arith}
use Rattle.std.specs.Option.{option_map_or}
use Rattle.std.proofs.lemmas.Bool.{both_ways, false_from_ne_true, not_from_false, or_left, or_right}
use Rattle.net_core.specs.declared.network.Event.{Event}
use Rattle.port_runs.specs.Ports.{are_dependent, is_due}
use Rattle.port_runs.proofs.DueEvents.{due_before, due_from}
use Rattle.port_sim.specs.declared.window.Pending.{Pending}

module _ (events : List Pending) (script : List Event) (come : ℕ → Bool) (first : ℕ) (x : Pending)
    (before : (k : ℕ) → k < first → come k ≡ true)
    (here : (i : ℕ) (y : Pending) → slice_get events i ≡ Some y
    → (slice_get script (first + i) ≡ Some y.event) × (come (first + i) ≡ y.has_come)) where
  pub due_start : is_due script come x.event (first + 0) ≡ true
  due_start =
      due_from script come x.event (first + 0) (λ j f lt at dep. before j (omega (arith, lt)))

  -- an event that doesn't hinder is passed
  pub due_passed : (j : ℕ) (y : Pending) → slice_get events j ≡ Some y
      → (y.has_come ≡ true) ⊎ (are_dependent x.event y.event ≡ false)
      → is_due script come x.event (first + (j + 1)) ≡ is_due script come x.event (first + j)
  due_passed j y read free =
      let both = here j y read in
      let next : first + (j + 1) ≡ suc (first + j) = omega arith in
      let other = option_map_or (are_dependent x.event) (slice_get script (first + j)) false in
      let is_free : (come (first + j) || not other) ≡ true =
      elim free [
        | inl on ↦ or_left (come (first + j)) (not other) (both.1 ∙ on)
        | inr off ↦
            or_right (come (first + j)) (not other)
            (not_from_false other (ap (λ o. option_map_or (are_dependent x.event) o false) both.0 ∙ off))
      ] in
      ap (is_due script come x.event) next ∙ ap (λ b. b && is_due script come x.event (first + j)) is_free

  pub due_stop : (j at : ℕ) (y : Pending) → j < at → slice_get events j ≡ Some y → y.has_come ≡ false
      → are_dependent x.event y.event ≡ true → is_due script come x.event (first + at) ≡ false
  due_stop j at y lt read off dep =
      let both = here j y read in
      false_from_ne_true (is_due script come x.event (first + at))
      (λ due.
      both_ways (come (first + j)) (both.1 ∙ off)
      (due_before script come x.event (first + at) due (first + j) y.event (omega (arith, lt)) both.0 dep))
