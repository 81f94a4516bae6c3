-- How many events and slots the network of a nest has at most, by the entries of the trace.
use Rattle.std.specs.Prelude.{◌≤◌, ◌*◌, ℕ, length, count_by}
use Rattle.std.specs.List.{sum_by}
use Rattle.net_core.specs.Machine.{net_of}
use Rattle.net_core.specs.Shape.{events_below, is_any_get}
use Rattle.sanlp.specs.declared.nest.Nest.{Nest}
use Rattle.sanlp.specs.Trace.{trace}
use Rattle.process_derive.specs.Derived.{net}

-- The network has at most 17 events for each entry of the trace: each point has one Fire and at most
-- eight uses, and no channel has more Gets or more Puts than uses.
abbrev pub HasFewEvents : Nest → Type 0
HasFewEvents n =
    let network = net_of (net n) in
    events_below network network.processes ≤ 17 * length (trace n)

-- No process has more slots than Gets. All processes together have at most eight slots for each entry
-- of the trace.
pub record HasFewSlots (n : Nest) : Type 0 where
  pub of_each : (p : ℕ) → (net_of (net n)).slots p ≤ count_by is_any_get ((net_of (net n)).script p)
  pub of_all : sum_by (λ process. process.slots) (net n).processes ≤ 8 * length (trace n)
