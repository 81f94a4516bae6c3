-- Whether an event of a window may come, and whether it comes in a part of a clock.
--
-- A window tells of each of its places the script's event and whether it has come (`window_here`). So whether an
-- event may come is told by the tests that the code makes, in its order: one that isn't due may not come
-- (`may_not_yet`), and of one that hasn't come and is due the channel decides (`may_if_can`). In a part of a clock
-- its kind and its channel at the clock's beginning are asked before. Each is one step of the definitions; of
-- places outside the window nothing is said.
use Rattle.std.proofs.Common.{◌≡◌, ℕ, ◌+◌, Bool, true, false, not, ◌&&◌, Some, slice_get, ap, ◌∙◌}
use Rattle.std.specs.Option.{option_map_or}
use Rattle.std.proofs.lemmas.Bool.{and_left, and_right, not_from_false}
use Rattle.sanlp.specs.declared.nest.Tag.{Tag}
use Rattle.net_core.specs.declared.network.Event.{Event}
use Rattle.net_core.specs.Machine.{Net, can_come}
use Rattle.port_runs.specs.Ports.{PortState, event_at, is_due, may_come, may_come_at}
use Rattle.port_sim.specs.declared.window.Pending.{Pending}
use Rattle.port_sim.specs.declared.window.Window.{Window}
use Rattle.port_clocks.specs.PortClocks.{comes}
use Rattle.port_sim.specs.Windows.{IsWindow}
use Rattle.port_sim.proofs.Rounds.{event_here}

module _ (n : Net) (s : PortState Tag) (p : ℕ) (w : Window) (is : IsWindow (n.script p) (s.has_come p) w) where
  pub window_here : (i : ℕ) (y : Pending) → slice_get w.events.items i ≡ Some y
      → (slice_get (n.script p) (w.first + i) ≡ Some y.event) × (s.has_come p (w.first + i) ≡ y.has_come)
  window_here i y read = (event_here (n.script p) (s.has_come p) w is i y read, is.here i y read)

  module _ (at : ℕ) (x : Pending) (read : slice_get w.events.items at ≡ Some x) where
    abbrev place : ℕ
    place = w.first + at

    abbrev due : Bool
    due = is_due (n.script p) (s.has_come p) x.event place

    abbrev can : Bool
    can = can_come n s.run (Some x.event)

    this : slice_get (n.script p) place ≡ Some x.event
    this = (window_here at x read).0

    may_is : may_come_at n s (p, place) ≡ (not (s.has_come p place) && (due && can))
    may_is = ap (may_come n s (p, place)) this

    pub may_not_yet : due ≡ false → may_come_at n s (p, place) ≡ false
    may_not_yet off = may_is ∙ and_right (not (s.has_come p place)) (due && can) (and_left due can off)

    pub may_if_can : x.has_come ≡ false → due ≡ true → may_come_at n s (p, place) ≡ can
    may_if_can off on =
        may_is
        ∙ ap (λ b. b && (due && can)) (not_from_false (s.has_come p place) ((window_here at x read).1 ∙ off))
        ∙ ap (λ b. b && can) on

    -- a part of a clock
    module _ (kind : Event → Bool) (clock : PortState Tag) where
      of_kind : option_map_or kind (event_at n (p, place)) false ≡ kind x.event
      of_kind = ap (λ o. option_map_or kind o false) this

      lets : can_come n clock.run (event_at n (p, place)) ≡ can_come n clock.run (Some x.event)
      lets = ap (can_come n clock.run) this

      pub comes_no_kind : kind x.event ≡ false → comes n kind clock s (p, place) ≡ false
      comes_no_kind off =
          and_left (option_map_or kind (event_at n (p, place)) false)
          (can_come n clock.run (event_at n (p, place)) && may_come_at n s (p, place)) (of_kind ∙ off)

      pub comes_no_chance : can_come n clock.run (Some x.event) ≡ false → comes n kind clock s (p, place) ≡ false
      comes_no_chance off =
          and_right (option_map_or kind (event_at n (p, place)) false)
          (can_come n clock.run (event_at n (p, place)) && may_come_at n s (p, place))
          (and_left (can_come n clock.run (event_at n (p, place))) (may_come_at n s (p, place)) (lets ∙ off))

      pub comes_if_may : kind x.event ≡ true → can_come n clock.run (Some x.event) ≡ true
          → comes n kind clock s (p, place) ≡ may_come_at n s (p, place)
      comes_if_may on chance =
          ap (λ b. b && (can_come n clock.run (event_at n (p, place)) && may_come_at n s (p, place))) (of_kind ∙ on)
          ∙ ap (λ b. b && may_come_at n s (p, place)) (lets ∙ chance)
