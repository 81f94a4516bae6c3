-- The schedule: each entry is a process that is enabled, each reference of a fire names what its read wants, and all end.
use Rattle.std.specs.Prelude.{ℕ, suc, ℤ, Bool, true, false, ◌==◌, ◌&&◌, nat_lt, if◌then◌else◌, Option, Some, None, List, [], ◌∷◌, length, slice_get}
use Rattle.std.specs.Option.{option_or}
use Rattle.sanlp.specs.declared.nest.Nest.{Nest}
use Rattle.sanlp.specs.declared.nest.Point.{Point}
use Rattle.sanlp.specs.declared.nest.Tag.{Tag}
use Rattle.sanlp.specs.Points.{points_of}
use Rattle.net_core.specs.declared.network.Event.{Event}
use Rattle.net_core.specs.declared.network.Event.TheVariants.{Get, Fire, Put}
use Rattle.net_core.specs.declared.network.Network.{Network}
use Rattle.net_core.specs.declared.refs.Ref.{Ref}
use Rattle.net_core.specs.Cuts.{Cut, enabled_at, advanced, cut_after, opening}
use Rattle.net_core.specs.Machine.{Net, net_of}
use Rattle.net_core.specs.Names.{Name, name_at}
use Rattle.net_core.specs.Names.Name.{zero_name, empty_name, token_name}
use Rattle.net_core.specs.Rules.{vector_at}
use Rattle.net_core.specs.Shape.{fires}
use Rattle.net_core.specs.Sound.{source_tag}
use Rattle.net_checker.specs.declared.verdict.Refusal.{Refusal}
use Rattle.net_checker.specs.declared.verdict.Refusal.TheVariants as refusal
use Rattle.net_checker.specs.declared.verdict.Seen.{Seen}
use Rattle.net_checker.specs.declared.verdict.Seen.TheVariants as seen
use Rattle.net_checker.specs.declared.verdict.Wanted.{Wanted}
use Rattle.net_checker.specs.declared.verdict.Wanted.TheVariants as wanted
use Rattle.net_checker.specs.Choice.{first_below}

-- the point of a tag, among the points of each process
abbrev pub point_of : List (List (List ℤ)) → Tag → Point
point_of points t = record { statement = t.process; at = vector_at points t.process t.turn }

-- what a reference was found to name, told by its point
abbrev pub seen_of : List (List (List ℤ)) → Name → Seen
seen_of points zero_name = seen.Zero
seen_of points empty_name = seen.Empty
seen_of points (token_name t) = seen.At (point_of points t)

-- what a read wants: its last writer's point, or zero where there is none
abbrev pub wanted_of : List (List (List ℤ)) → Option Tag → Wanted
wanted_of points None = wanted.Zero
wanted_of points (Some t) = wanted.At (point_of points t)

-- the name is what the read wants; a slot that was never filled is nothing that a read can want
abbrev pub is_wanted : Name → Option Tag → Bool
is_wanted zero_name None = true
is_wanted zero_name (Some t) = false
is_wanted empty_name source = false
is_wanted (token_name t) None = false
is_wanted (token_name t) (Some s) = (t.process == s.process) && (t.turn == s.turn)

-- why this name is refused at entry i, where the read has this source
abbrev pub name_refusal : List (List (List ℤ)) → ℕ → Name → Option Tag → Option Refusal
name_refusal points i name source =
    if is_wanted name source then None
    else Some (refusal.Tag i (seen_of points name) (wanted_of points source))

-- why reference j of the fire at place k of p's script is refused at entry i
abbrev pub reference_refusal : Nest → Net → ℕ → ℕ → ℕ → ℕ → Option Ref → Option Refusal
reference_refusal n net i p k j None = None
reference_refusal n net i p k j (Some r) =
    name_refusal (points_of n) i (name_at net p k r) (source_tag n p (fires net p k) j)

-- where entry i is a fire, its first reference that doesn't name what its read wants
abbrev pub event_refusal : Nest → Net → ℕ → ℕ → ℕ → Option Event → Option Refusal
event_refusal n net i p k None = None
event_refusal n net i p k (Some (Get c slot)) = None
event_refusal n net i p k (Some (Fire refs)) =
    first_below (λ j. reference_refusal n net i p k j (slice_get refs j)) (length refs)
event_refusal n net i p k (Some (Put c)) = None

-- why entry i, which is p, is refused at this cut: p isn't enabled, or it is a fire that is refused
abbrev pub entry_refusal : Nest → Net → Cut → ℕ → ℕ → Option Refusal
entry_refusal n net cut i p =
    if enabled_at net cut p then event_refusal n net i p (cut p) (slice_get (net.script p) (cut p))
    else Some (refusal.NotEnabled i)

-- the first of these entries that is refused; the first entry is number i, and stands at this cut
abbrev pub entries_refusal : Nest → Net → Cut → ℕ → List ℕ → Option Refusal
entries_refusal n net cut i [] = None
entries_refusal n net cut i (p ∷ schedule) =
    option_or (entry_refusal n net cut i p)
    (entries_refusal n net (advanced cut p) (suc i) schedule)

abbrev pub unended : Net → Cut → ℕ → Option Refusal
unended net cut p =
    if nat_lt (cut p) (length (net.script p)) then Some (refusal.Unended p) else None

-- the first entry that is refused, and else the least process that isn't at its script's end
unfoldable pub schedule_refusal : Nest → Network → List ℕ → Option Refusal
schedule_refusal n network schedule =
    let net = net_of network in
    option_or (entries_refusal n net opening 0 schedule)
    (first_below (unended net (cut_after opening schedule)) (length network.processes))
