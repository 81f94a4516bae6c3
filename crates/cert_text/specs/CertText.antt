-- The text of a network with its certificate: lines of words. What it keeps is folded: scripts and schedule as blocks.
use Rattle.std.specs.Prelude.{◌≤◌, ℕ, List, [], ◌∷◌, ◌++◌, All, codes, decimal, length, map}
use Rattle.std.specs.List.{flat_map}
use Rattle.net_core.specs.declared.refs.Ref.{Ref}
use Rattle.net_core.specs.declared.refs.Ref.TheVariants.{Zero, Slot}
use Rattle.net_core.specs.declared.network.Channel.{Channel}
use Rattle.net_core.specs.declared.network.Event.{Event}
use Rattle.net_core.specs.declared.network.Event.TheVariants.{Get, Fire, Put}
use Rattle.script_blocks.specs.declared.blocks.BlockPart.{BlockPart}
use Rattle.script_blocks.specs.declared.blocks.BlockPart.TheOpen.{BlockPart-F, Blocks-F, Item, Repeat}
use Rattle.script_blocks.specs.declared.blocks.BlockPart.TheFolds.{fold-BlockPart}
use Rattle.source_tree.specs.declared.cert.Origin.{Origin}
use Rattle.source_tree.specs.declared.cert.Origin.TheVariants.{Sweep, Tree}
use Rattle.text_out.specs.Words.{line_text}
use Rattle.net_text.specs.NetworkText.{class_word}
use Rattle.cert_lines.specs.Words.{IsInRange}
use Rattle.tree_text.specs.TreeText.{TreeIsInRange, tree_text}
use Rattle.cert_text.specs.declared.places.Version.{Version}
use Rattle.cert_text.specs.declared.places.Version.TheVariants.{One, Two}
use Rattle.cert_text.specs.Folding.{BlocksAreInRange, Folded, FoldedProcess}

-- Events and entries

-- a slot by its number, and no token by `z`
abbrev pub ref_word : Ref → List ℕ
ref_word Zero = codes "z"
ref_word (Slot slot) = decimal slot

abbrev pub event_words : Event → List (List ℕ)
event_words (Get channel slot) = codes "g" ∷ decimal channel ∷ decimal slot ∷ []
event_words (Fire refs) = codes "f" ∷ map ref_word refs
event_words (Put channel) = codes "p" ∷ decimal channel ∷ []

abbrev pub event_text : Event → List ℕ
event_text event = line_text (event_words event)

-- an entry of the schedule: a process number
abbrev pub entry_text : ℕ → List ℕ
entry_text process = line_text (decimal process ∷ [])

-- Parts

abbrev pub repeat_text : ℕ → ℕ → List ℕ
repeat_text count parts = line_text (codes "r" ∷ decimal count ∷ decimal parts ∷ [])

abbrev pub part_lines : {T : Type 0} → (T → List ℕ) → BlockPart-F T (List ℕ) (List (List ℕ))
    → List ℕ
part_lines item (Item x) = item x
part_lines item (Repeat count body) =
    repeat_text count (length body) ++ flat_map (λ part. part) body

abbrev pub body_lines : {T : Type 0} → Blocks-F T (List ℕ) (List (List ℕ)) → List (List ℕ)
body_lines blocks = blocks.parts

-- an item is its line; a repeat is a line with its count and its number of parts, and then these
abbrev pub part_text : {T : Type 0} → (T → List ℕ) → BlockPart T → List ℕ
part_text {T} item = fold-BlockPart T (List ℕ) (List (List ℕ)) (part_lines item) body_lines

-- the lines of the parts of a list, one after the other
abbrev pub parts_text : {T : Type 0} → (T → List ℕ) → List (BlockPart T) → List ℕ
parts_text item parts = flat_map (part_text item) parts

-- Processes

-- a process with its numbers of slots and of parts
abbrev pub process_head : FoldedProcess → List ℕ
process_head process = line_text (
    codes "process" ∷ decimal process.slots ∷ decimal (length process.script.parts) ∷ [])

-- the same, and then its parts
abbrev pub process_text : FoldedProcess → List ℕ
process_text process = process_head process ++ parts_text event_text process.script.parts

-- Channels

-- a channel with its ends, the read that it serves, its capacity and its class
abbrev pub channel_text : Channel → List ℕ
channel_text channel = line_text (
    codes "channel" ∷ decimal channel.writer ∷ decimal channel.reader ∷ decimal channel.read
    ∷ decimal channel.capacity
    ∷ class_word channel.class ∷ [])

-- Sources

-- a source: `sweep`, or `tree` and the lines of the tree
abbrev pub source_text : Origin → List ℕ
source_text Sweep = line_text (codes "sweep" ∷ [])
source_text (Tree tree) = line_text (codes "tree" ∷ []) ++ tree_text tree

-- The text

abbrev pub version_word : Version → List ℕ
version_word One = codes "1"
version_word Two = codes "2"

-- the first line of a text: `cert` and its version
abbrev pub head_text : Version → List ℕ
head_text version = line_text (codes "cert" ∷ version_word version ∷ [])

-- how many processes, channels, sources and parts of the schedule follow
abbrev pub sizes_text : Folded → List ℕ
sizes_text folded = line_text (
    codes "sizes" ∷ decimal (length folded.processes) ∷ decimal (length folded.channels)
    ∷ decimal (length folded.sources)
    ∷ decimal (length folded.schedule.parts) ∷ [])

abbrev pub end_text : List ℕ
end_text = line_text (codes "end" ∷ [])

-- the text in a version: the sizes, each process with its parts, each channel, each source, the parts of the schedule,
-- `end`
abbrev pub folded_text : Version → Folded → List ℕ
folded_text version folded =
    head_text version
    ++ (sizes_text folded
    ++ (flat_map process_text folded.processes
    ++ (flat_map channel_text folded.channels
    ++ (flat_map source_text folded.sources
    ++ (parts_text entry_text folded.schedule.parts
    ++ end_text)))))

-- What has a text of a version: each number is at most 4,294,967,295, a fire has at most eight references, each tree is one
-- whose text can be read, and repeats nest at most 512 deep; version 1 has none.

abbrev pub most_levels : Version → ℕ
most_levels One = 0
most_levels Two = 512

abbrev pub RefIsInRange : Ref → Type 0
RefIsInRange Zero = Unit {0}
RefIsInRange (Slot slot) = IsInRange slot

abbrev pub EventIsInRange : Event → Type 0
EventIsInRange (Get channel slot) = IsInRange channel × IsInRange slot
EventIsInRange (Fire refs) = (length refs ≤ 8) × All RefIsInRange refs
EventIsInRange (Put channel) = IsInRange channel

pub record ProcessIsInRange (levels : ℕ) (process : FoldedProcess) : Type 0 where
  pub slots : IsInRange process.slots
  pub script : BlocksAreInRange EventIsInRange levels process.script

pub record ChannelIsInRange (channel : Channel) : Type 0 where
  pub writer : IsInRange channel.writer
  pub reader : IsInRange channel.reader
  pub read : IsInRange channel.read
  pub capacity : IsInRange channel.capacity

abbrev pub OriginIsInRange : Origin → Type 0
OriginIsInRange Sweep = Unit {0}
OriginIsInRange (Tree tree) = TreeIsInRange tree

-- each number is within 32 bits, no fire has more than eight references, each tree is one whose text can be read, and
-- repeats nest as deep as the version lets them
pub record IsInRangeOf (version : Version) (folded : Folded) : Type 0 where
  pub process_count : IsInRange (length folded.processes)
  pub channel_count : IsInRange (length folded.channels)
  pub source_count : IsInRange (length folded.sources)
  pub processes : All (ProcessIsInRange (most_levels version)) folded.processes
  pub channels : All ChannelIsInRange folded.channels
  pub sources : All OriginIsInRange folded.sources
  pub schedule : BlocksAreInRange IsInRange (most_levels version) folded.schedule
