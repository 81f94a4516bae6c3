-- The schedules of a nest's network, and the network with the capacities that a schedule needs.
use Rattle.std.specs.Prelude.{◌≡◌, ◌≤◌, ℕ, zero, suc, Bool, true, false, if◌then◌else◌, nat_lt, Option, Some, None, List, [], ◌∷◌, length, take, slice_get}
use Rattle.std.specs.Option.{option_map_or}
use Rattle.net_core.specs.declared.network.Event.{Event}
use Rattle.net_core.specs.declared.network.Event.TheVariants.{Get, Fire, Put}
use Rattle.net_core.specs.declared.network.Network.{Network}
use Rattle.net_core.specs.Cuts.{Cut, advanced, cut_after, gets_at, opening, puts_at}
use Rattle.net_core.specs.Machine.{Net, net_of}
use Rattle.net_core.specs.Shape.{events_below}
use Rattle.process_derive.specs.Derived.{net}
use Rattle.sanlp.specs.declared.nest.Nest.{Nest}
use Rattle.witness_plan.specs.declared.schedules.Policy.{Policy}
use Rattle.witness_plan.specs.declared.schedules.Policy.TheVariants.{Seq, Down}
use Rattle.witness_plan.specs.Sequential.{capacities, sequential_schedule, with_capacities}

-- Whether an event could come at a cut if no channel were ever full: a Get needs a token that was put and not got.
abbrev pub could_come_at : Net → Cut → Option Event → Bool
could_come_at net cut None = false
could_come_at net cut (Some (Get c slot)) = nat_lt (gets_at net cut c) (puts_at net cut c)
could_come_at net cut (Some (Fire refs)) = true
could_come_at net cut (Some (Put c)) = true

-- whether process p's next event could come
abbrev pub is_ready : Net → Cut → ℕ → Bool
is_ready net cut p = could_come_at net cut (slice_get (net.script p) (cut p))

-- the highest-numbered process below p that is ready, if there is one
abbrev pub highest_ready : Net → Cut → ℕ → Option ℕ
highest_ready net cut zero = None
highest_ready net cut (suc p) = if is_ready net cut p then Some p else highest_ready net cut p

-- the schedule that takes at each cut from this one on the highest-numbered ready process, until none is, for so many events at most
abbrev pub downward_from : Net → ℕ → Cut → List ℕ
downward_from net zero cut = []
downward_from net (suc many) cut =
    option_map_or (λ p. p ∷ downward_from net many (advanced cut p))
    (highest_ready net cut net.processes) []

-- The schedule takes at each cut the highest-numbered ready process, until none is. There are no more events than the scripts have.
unfoldable pub downward_schedule : Net → List ℕ
downward_schedule net = downward_from net (events_below net net.processes) opening

-- at each of its places a schedule has the highest-numbered process that is ready there, and at its end none is ready
abbrev pub IsDownward : Net → List ℕ → Type 0
IsDownward net schedule = (i : ℕ) → i ≤ length schedule
    → slice_get schedule i ≡ highest_ready net (cut_after opening (take i schedule)) net.processes

-- the schedule of a nest's network under a policy
abbrev pub schedule : Nest → Policy → List ℕ
schedule n Seq = sequential_schedule n
schedule n Down = downward_schedule (net_of (net n))

-- the network of a nest with the capacities that its schedule needs
abbrev pub planned_network : Nest → Policy → Network
planned_network n policy = with_capacities (net n) (capacities (net n) (schedule n policy))
