-- The fires of a network: one for each point of the nest, in order, with one reference for each read.
use Rattle.std.specs.Prelude.{ℕ, Bool, true, ◌==◌, ◌&&◌, nat_lt, if◌then◌else◌, Option, Some, None, length, slice_get, count_by}
use Rattle.std.specs.List.{list_all}
use Rattle.std.specs.Option.{option_or}
use Rattle.sanlp.specs.Access.{read_count}
use Rattle.sanlp.specs.declared.nest.Nest.{Nest}
use Rattle.sanlp.specs.Points.{points_of}
use Rattle.net_core.specs.declared.network.Event.{Event}
use Rattle.net_core.specs.declared.network.Event.TheVariants.{Get, Fire, Put}
use Rattle.net_core.specs.declared.network.Network.{Network}
use Rattle.net_core.specs.declared.refs.Ref.{Ref}
use Rattle.net_core.specs.declared.refs.Ref.TheVariants.{Zero, Slot}
use Rattle.net_core.specs.Machine.{Net, net_of}
use Rattle.net_core.specs.Shape.{fires, is_fire, turns}
use Rattle.net_checker.specs.declared.verdict.Refusal.{Refusal}
use Rattle.net_checker.specs.declared.verdict.Refusal.TheVariants as refusal
use Rattle.net_checker.specs.Choice.{first_below}

-- a reference is Zero, or a slot below this number
abbrev pub is_within : ℕ → Ref → Bool
is_within slots Zero = true
is_within slots (Slot k) = nat_lt k slots

-- A Put after so many fires has one before it. A Fire after so many fires has a point left, one reference for each read,
-- and no reference to a slot that isn't there.
abbrev pub may_stand : Nest → Net → ℕ → ℕ → Event → Bool
may_stand n net p before (Get c slot) = true
may_stand n net p before (Fire refs) =
    nat_lt before (turns (points_of n) p) && (length refs == read_count n p)
    && list_all (is_within (net.slots p)) refs
may_stand n net p before (Put c) = nat_lt 0 before

abbrev pub event_firing : Nest → Net → ℕ → ℕ → Option Event → Option Refusal
event_firing n net p k None = None
event_firing n net p k (Some e) =
    if may_stand n net p (fires net p k) e then None else Some (refusal.Fires p k)

-- the first event of p that may not stand there, or the end of a script with fewer fires than points
abbrev pub process_firing : Nest → Net → ℕ → Option Refusal
process_firing n net p =
    option_or
    (first_below (λ k. event_firing n net p k (slice_get (net.script p) k))
    (length (net.script p)))
    (if nat_lt (count_by is_fire (net.script p)) (turns (points_of n) p)
    then Some (refusal.Fires p (length (net.script p))) else None)

-- the least process whose fires aren't those of the nest's points, and where
unfoldable pub firing_refusal : Nest → Network → Option Refusal
firing_refusal n network =
    first_below (process_firing n (net_of network)) (length network.processes)
