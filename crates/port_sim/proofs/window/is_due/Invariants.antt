use Rattle.std.proofs.Common.{◌≡◌, ◌<◌, ◌+◌, ◌-◌, ℕ, Some, List, Bool, true, slice_get}
use Rattle.net_core.specs.declared.network.Event.{Event}
use Rattle.port_runs.specs.Ports.{is_due}
use Rattle.port_sim.specs.declared.window.Pending.{Pending}
use Rattle.port_sim.proofs.window.is_due.Given as goal

-- None of those passed hinders the event: they may be left out.
abbrev pub invariant-loop-passed : goal.invariant-loop-passed
invariant-loop-passed l =
    (script : List Event) (has_come : ℕ → Bool) (first : ℕ) (x : Pending)
    → ((k : ℕ) → k < first → has_come k ≡ true)
    → ((i : ℕ) (y : Pending) → slice_get l.events i ≡ Some y
    → (slice_get script (first + i) ≡ Some y.event) × (has_come (first + i) ≡ y.has_come))
    → slice_get l.events l.at ≡ Some x
    → is_due script has_come x.event (first + (l.at - l.passed)) ≡ is_due script has_come x.event (first + l.at)
