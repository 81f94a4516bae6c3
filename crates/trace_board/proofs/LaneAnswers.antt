-- What the answers of an advance tell of a lane.
--
-- The states in which the three answers come exclude each other: an enabled process hasn't ended, and where none of
-- the lane is enabled none is the least. So each answer comes exactly in its state (`idle_exactly`, `done_exactly`).
use Rattle.std.proofs.Common.{◌≡◌, ℕ, ◌≤◌, false, List, slice_get, ap, sym, ◌∙◌, refl, subst, arith}
use Rattle.std.specs.Prelude.{◌↔◌}
use Rattle.std.proofs.lemmas.Bool.{both_ways}
use Rattle.net_core.specs.declared.network.Event.{Event}
use Rattle.net_core.specs.Cuts.{IsCounted, positions}
use Rattle.net_core.specs.Machine.{Net, State, can_come, enabled}
use Rattle.net_core.specs.Shape.{IsWired}
use Rattle.net_core.proofs.Positions.{enabled_as_cut, enabled_inside}
use Rattle.trace_board.specs.declared.lanes.Advance.{Advance}
use Rattle.trace_board.specs.declared.lanes.Advance.TheVariants.{Stepped, Idle, Done}
use Rattle.trace_board.specs.Lanes.{IsLeastEnabled, IsLaneIdle, HasLaneEnded}
use Rattle.trace_board.specs.Advances.{Tells}

-- a process that isn't there isn't enabled
pub enabled_past : {T : Type 0} (n : Net) → IsWired n → (s : State T) (p : ℕ) → n.processes ≤ p → enabled n s p ≡ false
enabled_past n wired s p past =
    ap (λ (script : List Event). can_come n s (slice_get script (s.local p).position)) (wired.bounded p past)

-- what is told is told of an equal answer
pub told_alike : {T : Type 0} (n : Net) (s : State T) (lane lanes : ℕ) (a b : Advance) → a ≡ b → Tells n s lane lanes a
    → Tells n s lane lanes b
told_alike n s lane lanes a b same told = subst (λ (x : Advance). Tells n s lane lanes x) same told

pub stepped_is_least : {T : Type 0} (n : Net) (s : State T) (lane lanes : ℕ) (a : Advance) → Tells n s lane lanes a
    → (p : ℕ) → a ≡ Stepped p
    → IsLeastEnabled n s lane lanes p
stepped_is_least n s lane lanes (Stepped q) told p is =
    let same : q ≡ p = cc in
    subst (λ r. IsLeastEnabled n s lane lanes r) same told
stepped_is_least n s lane lanes Idle told p is = absurd (cc)
stepped_is_least n s lane lanes Done told p is = absurd (cc)

pub idle_exactly : {T : Type 0} (n : Net) (s : State T) (lane lanes : ℕ) (a : Advance) → Tells n s lane lanes a
    → (a ≡ Idle) ↔ IsLaneIdle n s lane lanes
idle_exactly n s lane lanes (Stepped p) told =
    (λ is. absurd (cc), λ idle. absurd (both_ways (enabled n s p) (idle.0 p told.0) told.1))
idle_exactly n s lane lanes Idle told = (λ is. told, λ idle. refl)
idle_exactly n s lane lanes Done told =
    (λ is. absurd (cc), λ idle. absurd (omega (arith, told idle.1.0 idle.1.1.0, idle.1.1.1)))

pub done_exactly : {T : Type 0} (n : Net) (s : State T) → IsCounted n s → (lane lanes : ℕ) (a : Advance)
    → Tells n s lane lanes a
    → (a ≡ Done) ↔ HasLaneEnded n s lane lanes
done_exactly n s counted lane lanes (Stepped p) told = (
  λ is. absurd (cc),
  λ ended. (
      let on = sym (enabled_as_cut n s counted p) ∙ told.1 in
      absurd (omega (arith, ended p told.0, enabled_inside n (positions s) p on))),
)
done_exactly n s counted lane lanes Idle told =
    (λ is. absurd (cc), λ ended. absurd (omega (arith, ended told.1.0 told.1.1.0, told.1.1.1)))
done_exactly n s counted lane lanes Done told = (λ is. told, λ ended. refl)
