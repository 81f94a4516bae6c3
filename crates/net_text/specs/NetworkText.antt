-- The text of a network.
use Rattle.std.specs.Prelude.{ℕ, suc, ◌-◌, ◌==◌, min, max, if◌then◌else◌, Option, Some, List, [], ◌∷◌, ◌++◌, codes, count_by, decimal, fold, length, slice_get}
use Rattle.std.specs.List.{flat_map, enumerate_from}
use Rattle.std.specs.Option.{option_map, option_and_then, option_map_or}
use Rattle.channel_class.specs.declared.ChannelClass.{ChannelClass}
use Rattle.channel_class.specs.declared.UseOrder.{UseOrder}
use Rattle.channel_class.specs.declared.UseOrder.TheVariants.{InOrder, Reorder}
use Rattle.sanlp.specs.declared.nest.Nest.{Nest}
use Rattle.sanlp.specs.declared.nest.Role.{Role}
use Rattle.sanlp.specs.declared.nest.Role.TheVariants.{Source, Assign, Sink}
use Rattle.sanlp.specs.declared.nest.Statement.{Statement}
use Rattle.net_core.specs.declared.network.Channel.{Channel}
use Rattle.net_core.specs.declared.network.Event.{Event}
use Rattle.net_core.specs.declared.network.Event.TheVariants.{Get, Fire, Put}
use Rattle.net_core.specs.declared.network.Network.{Network}
use Rattle.net_core.specs.declared.network.Process.{Process}
use Rattle.net_core.specs.Machine.{Net, net_of}
use Rattle.net_core.specs.Shape.{is_fire, put_count, events_below}
use Rattle.net_text.specs.declared.numbers.ChannelNumbers.{ChannelNumbers}
use Rattle.net_text.specs.declared.numbers.ProcessNumbers.{ProcessNumbers}
use Rattle.text_out.specs.Words.{line_text}

-- Processes

-- what a process does with its array, by its statement's role
abbrev pub role_word : Role → List ℕ
role_word (Source array) = codes "source"
role_word Assign = codes "assign"
role_word (Sink array) = codes "sink"

-- the number of the array that a statement is given, assigns or prints
abbrev pub array_by_role : Role → Statement → Option ℕ
array_by_role (Source array) statement = Some array
array_by_role Assign statement = option_map (λ access. access.array) statement.write
array_by_role (Sink array) statement = Some array

-- the array's name; it is empty where there is no such array
abbrev pub array_name : Nest → Statement → List ℕ
array_name nest statement =
    option_map_or (λ array. array.name)
    (option_and_then (slice_get nest.arrays) (array_by_role statement.role statement)) []

-- the kind of process p, and the name of its array; each is empty where there is no such statement
abbrev pub kind_word : Nest → ℕ → List ℕ
kind_word nest p =
    option_map_or (λ statement. role_word statement.role) (slice_get nest.statements p) []

-- the name of the array that process p gives, takes or assigns to
abbrev pub name_word : Nest → ℕ → List ℕ
name_word nest p = option_map_or (array_name nest) (slice_get nest.statements p) []

-- how often a process fires, and its slots
abbrev pub process_numbers : Process → ProcessNumbers
process_numbers process =
    record { fires = count_by is_fire process.script; slots = process.slots }

-- process p with these numbers of fires and of slots
abbrev pub process_text : Nest → ℕ → ProcessNumbers → List ℕ
process_text nest p numbers = line_text (
    codes "process" ∷ decimal p ∷ kind_word nest p ∷ name_word nest p
    ∷ codes "fires" ∷ decimal numbers.fires
    ∷ codes "slots" ∷ decimal numbers.slots ∷ [])

-- a line for each of these processes, the first having number 0
abbrev pub process_lines : Nest → List Process → List ℕ
process_lines nest processes =
    flat_map (λ numbered. process_text nest numbered.0 (process_numbers numbered.1))
    (enumerate_from 0 processes)

-- Channels

-- the slot to which an event gets a token of channel c
abbrev pub slot_got : ℕ → Event → List ℕ
slot_got c (Get channel slot) = if c == channel then slot ∷ [] else []
slot_got c (Fire refs) = []
slot_got c (Put channel) = []

-- how many numbers there are from the least of these to the greatest
abbrev pub span : List ℕ → ℕ
span [] = 0
span (first ∷ others) = suc (fold max first others - fold min first others)

-- how many slots there are from the least to the greatest that the reader's Gets of channel c name; where the channel's
-- slots lie side by side and each is used, these are all that it has
abbrev pub hold : Net → ℕ → ℕ
hold n c = span (flat_map (slot_got c) (n.script (n.reader c)))

-- how the reader uses the tokens
abbrev pub order_word : UseOrder → List ℕ
order_word InOrder = codes "inorder"
order_word Reorder = codes "reorder"

-- the word of a class: in order or not, with a plus where some token is used more than once
abbrev pub class_word : ChannelClass → List ℕ
class_word class = order_word class.order ++ (if class.multiplicity then codes "+" else [])

-- channel c's ends, the read that it serves, its tokens, its capacity, its hold and its class
abbrev pub channel_numbers : Network → ℕ → Channel → ChannelNumbers
channel_numbers network c channel =
    record {
      writer = channel.writer;
      reader = channel.reader;
      read = channel.read;
      tokens = put_count (net_of network) c;
      capacity = channel.capacity;
      hold = hold (net_of network) c;
      class = channel.class;
    }

-- channel c with these numbers
abbrev pub channel_text : ℕ → ChannelNumbers → List ℕ
channel_text c numbers = line_text (
    codes "channel" ∷ decimal c ∷ codes "from" ∷ decimal numbers.writer ∷ codes "to"
    ∷ decimal numbers.reader
    ∷ codes "read" ∷ decimal numbers.read
    ∷ codes "tokens" ∷ decimal numbers.tokens
    ∷ codes "capacity" ∷ decimal numbers.capacity
    ∷ codes "hold" ∷ decimal numbers.hold
    ∷ codes "class" ∷ class_word numbers.class ∷ [])

-- a line for each channel
abbrev pub channel_lines : Network → List ℕ
channel_lines network =
    flat_map (λ numbered. channel_text numbered.0 (channel_numbers network numbered.0 numbered.1))
    (enumerate_from 0 network.channels)

-- The text

-- the number of events of all scripts together
abbrev pub event_count : Network → ℕ
event_count network = events_below (net_of network) (length network.processes)

-- the line of the version
abbrev pub version_line : List ℕ
version_line = line_text (codes "net" ∷ codes "1" ∷ [])

-- the lines behind those of the channels, with this number of events
abbrev pub end_text : ℕ → List ℕ
end_text events =
    line_text (codes "events" ∷ decimal events ∷ []) ++ line_text (codes "end" ∷ [])

-- the version of the text, the processes, the channels and the number of events
abbrev pub net_text : Nest → Network → List ℕ
net_text nest network =
    version_line
    ++ (process_lines nest network.processes ++ (channel_lines network ++ end_text (event_count network)))
