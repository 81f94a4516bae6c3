use Rattle.std.proofs.Common.{◌≡◌, ℕ, ◌<◌, ◌++◌, None, length, slice_get}
use Rattle.net_core.specs.Machine.{net_of}
use Rattle.net_core.specs.Shape.{fires}
use Rattle.net_checker.specs.Firings.{event_firing}
use Rattle.net_checker.proofs.firings.first_misfire.Given as goal

abbrev pub invariant-loop-event : goal.invariant-loop-event
invariant-loop-event l = record {
  whole : l.yielded ++ l.event-iterator ≡ (net_of l.candidate.network.now).script l.process;
  place : l.place ≡ length l.yielded;
  fired : l.fired ≡ fires (net_of l.candidate.network.now) l.process l.place;
  fine : (k : ℕ) → k < l.place
      → event_firing l.candidate.nest.now (net_of l.candidate.network.now) l.process k (slice_get
      ((net_of l.candidate.network.now).script l.process) k) ≡ None;
}
