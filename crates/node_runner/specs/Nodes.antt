-- What one process does with its ends.
use Rattle.std.specs.Prelude.{◌≡◌, ◌<◌, ◌^◌, ◌==◌, if◌then◌else◌, ℕ, ℤ, Option, Some, None, List, [], ◌∷◌, length, map, slice_get, All}
use Rattle.std.specs.Option.{option_and_then}
use Rattle.sanlp.specs.declared.nest.Inputs.{Inputs}
use Rattle.sanlp.specs.declared.nest.Nest.{Nest}
use Rattle.net_core.specs.declared.network.Event.{Event}
use Rattle.net_core.specs.declared.network.Event.TheVariants.{Get, Fire, Put}
use Rattle.net_core.specs.declared.network.Network.{Network}
use Rattle.net_core.specs.Machine.{Rule, net_of, last_of}
use Rattle.net_core.specs.Names.{tokens}
use Rattle.net_core.specs.Rooms.{Store, store_with_token, store_with_value}
use Rattle.net_core.specs.Rules.{Limits, KeepsTo}
use Rattle.net_core.specs.Shape.{IsWithin}
use Rattle.net_core.specs.Sound.{tag_value}
use Rattle.ruled_links.specs.Ports.{Port, fresh}
use Rattle.ruled_links.specs.Channels.{CanGet, IsNext, grown_at}
use Rattle.ruled_links.specs.declared.ends.Call.{Call}
use Rattle.ruled_links.specs.declared.ends.Call.TheVariants as Called

-- the stream of a channel: the values of its tokens, in order
abbrev pub stream : Nest → Network → Inputs → ℕ → List ℤ
stream nest network d c = map (tag_value nest d) (tokens (net_of network) c)

-- for each channel a port, where there is one
abbrev pub Ports : Type 0
Ports = ℕ → Option Port

-- The ports of a process through which nothing has gone: it gets from the channels that it reads, and puts to those that
-- it writes.
abbrev pub incoming : (ℕ → List ℤ) → Network → ℕ → Ports
incoming streams network p c =
    option_and_then (λ channel. if channel.reader == p then Some (fresh (streams c)) else None)
    (slice_get network.channels c)

-- the ports of the channels that a process writes, through which nothing has gone
abbrev pub outgoing : (ℕ → List ℤ) → Network → ℕ → Ports
outgoing streams network p c =
    option_and_then (λ channel. if channel.writer == p then Some (fresh (streams c)) else None)
    (slice_get network.channels c)

-- the Gets and Puts of a script, in order
abbrev pub calls_of : List Event → List Call
calls_of [] = []
calls_of (Get c slot ∷ events) = Called.Got c ∷ calls_of events
calls_of (Fire refs ∷ events) = calls_of events
calls_of (Put c ∷ events) = Called.Put c ∷ calls_of events

-- what one event of process p needs of its ports and its store
abbrev pub CanTurn : (ℕ → Option Limits) → ℕ → Event → Ports → Ports → Store ℤ → Type 0
CanTurn limits p (Get c slot) from to s = CanGet (from c) × (slot < length s.slots)
CanTurn limits p (Fire refs) from to s =
    KeepsTo (limits p) (length s.kept) (length refs) × All (IsWithin (length s.slots)) refs
    × (length s.kept < s.space) × (length s.kept < 2 ^ 32)
CanTurn limits p (Put c) from to s =
    (0 < length s.kept) × ((x : ℤ) → last_of s.kept ≡ x ∷ [] → IsNext (to c) x)

-- What one event of process p does: a Get takes the next value of its channel into its slot, a Fire keeps what the rule
-- gives, and a Put puts the value that was fired last.
abbrev pub Turns : Rule ℤ → ℕ → Event → Ports → Ports → Store ℤ → Ports → Ports → Store ℤ → Type 0
Turns rule p (Get c slot) from to s from' to' s' =
    (x : ℤ) × IsNext (from c) x × ((d : ℕ) → from' d ≡ grown_at from c x d)
    × ((d : ℕ) → to' d ≡ to d) × (s' ≡ store_with_token s slot x)
Turns rule p (Fire refs) from to s from' to' s' =
    ((d : ℕ) → from' d ≡ from d) × ((d : ℕ) → to' d ≡ to d)
    × (s' ≡ store_with_value s (rule p (length s.kept) refs s.slots))
Turns rule p (Put c) from to s from' to' s' =
    (x : ℤ) × (last_of s.kept ≡ x ∷ []) × ((d : ℕ) → from' d ≡ from d)
    × ((d : ℕ) → to' d ≡ grown_at to c x d) × (s' ≡ s)
