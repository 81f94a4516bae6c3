-- What a text keeps: a network and a certificate whose scripts and schedule are blocks, and the pair that it stands for.
use Rattle.std.specs.Prelude.{ℕ, zero, suc, ◌≤◌, ◌+◌, List, All, length, map, nat_lt, if◌then◌else◌, Bool, Option, Some, None, find, take}
use Rattle.std.specs.List.{range_with_len, sum_by}
use Rattle.std.specs.Option.{option_or}
use Rattle.net_core.specs.declared.network.Channel.{Channel}
use Rattle.net_core.specs.declared.network.Event.{Event}
use Rattle.net_core.specs.declared.network.Network.{Network}
use Rattle.net_core.specs.declared.network.Process.{Process}
use Rattle.script_blocks.specs.declared.blocks.Blocks.{Blocks}
use Rattle.script_blocks.specs.declared.blocks.BlockPart.{BlockPart, out-BlockPart}
use Rattle.script_blocks.specs.declared.blocks.BlockPart.TheOpen.{BlockPart-F, Item, Repeat}
use Rattle.script_blocks.specs.Expansion.{expansion}
use Rattle.source_tree.specs.declared.cert.Cert.{Cert}
use Rattle.source_tree.specs.declared.cert.Origin.{Origin}
use Rattle.cert_lines.specs.Words.{IsInRange}

-- a process with blocks for its script
pub record FoldedProcess : Type 0 where
  pub slots : ℕ
  pub script : Blocks Event

-- a network and a certificate with blocks for each script and for the schedule
pub record Folded : Type 0 where
  pub processes : List FoldedProcess
  pub channels : List Channel
  pub sources : List Origin
  pub schedule : Blocks ℕ

-- the pair

abbrev pub process_of : FoldedProcess → Process
process_of folded = record { slots = folded.slots; script = expansion folded.script }

-- the network that one with blocks for its scripts stands for, in which these are expanded
abbrev pub network_of : Folded → Network
network_of folded =
    record { processes = map process_of folded.processes; channels = folded.channels }

-- the certificate that one with blocks for its schedule stands for, in which these are expanded
abbrev pub cert_of : Folded → Cert
cert_of folded = record { sources = folded.sources; schedule = expansion folded.schedule }

-- which pairs are too long

-- the most events of all scripts together, and the most entries of a schedule: 17 for each entry of a trace
abbrev pub most_events : ℕ
most_events = 142606336

abbrev pub scripts : Network → List (List Event)
scripts network = map (λ process. process.script) network.processes

-- the scripts up to number p have too many events together
abbrev pub are_long_to : List (List Event) → ℕ → Bool
are_long_to scripts p = nat_lt most_events (sum_by length (take (p + 1) scripts))

-- the least process up to which they have
abbrev pub long_script : List (List Event) → Option ℕ
long_script scripts = find (are_long_to scripts) (range_with_len 0 (length scripts))

-- That process. Where there is none, but the schedule has too many entries, it is the number of processes.
abbrev pub too_long : List (List Event) → List ℕ → Option ℕ
too_long scripts schedule =
    option_or (long_script scripts)
    (if nat_lt most_events (length schedule) then Some (length scripts) else None)

-- which blocks have a text

-- a count from 2, and a body with a part
pub record IsRepeat (count parts : ℕ) : Type 0 where
  pub twice : 2 ≤ count
  pub count_in_range : IsInRange count
  pub some : 1 ≤ parts
  pub parts_in_range : IsInRange parts

abbrev pub LayerIsInRange : {T : Type 0} → (T → Type 0) → (BlockPart T → Type 0)
    → BlockPart-F T (BlockPart T) (Blocks T) → Type 0
LayerIsInRange P inner (Item x) = P x
LayerIsInRange P inner (Repeat count body) =
    IsRepeat count (length body.parts) × All inner body.parts

-- a part whose repeats nest at most so many levels deep, and of whose items P holds
unfoldable pub PartIsInRange : {T : Type 0} → (T → Type 0) → ℕ → BlockPart T → Type 0
PartIsInRange {T} P zero part = LayerIsInRange P (λ _. ⊥) (out-BlockPart T part)
PartIsInRange {T} P (suc levels) part =
    LayerIsInRange P (PartIsInRange P levels) (out-BlockPart T part)

-- so many parts
pub record BlocksAreInRange {T : Type 0} (P : T → Type 0) (levels : ℕ) (blocks : Blocks T)
    : Type 0 where
  pub count : IsInRange (length blocks.parts)
  pub parts : All (PartIsInRange P levels) blocks.parts
