-- When a network is sound for a nest.
use Rattle.std.specs.Prelude.{◌≡◌, ◌<◌, ℕ, ◌+◌, ◌-◌, ℤ, List, [], ◌∷◌, length, slice_get, slice_index_or, Option, Some, None, if◌then◌else◌}
use Rattle.std.specs.Option.{option_and_then}
use Rattle.sanlp.specs.Access.{read_count}
use Rattle.sanlp.specs.declared.nest.ArrayDecl.{ArrayDecl}
use Rattle.sanlp.specs.declared.nest.Inputs.{Inputs}
use Rattle.sanlp.specs.declared.nest.Nest.{Nest}
use Rattle.sanlp.specs.declared.nest.Role.TheVariants.{Sink}
use Rattle.sanlp.specs.declared.nest.Tag.{Tag}
use Rattle.sanlp.specs.Cells.{is_output}
use Rattle.sanlp.specs.Laws.{entries_of, values_of, HasRole}
use Rattle.sanlp.specs.Meaning.{arrays}
use Rattle.sanlp.specs.Points.{points_of}
use Rattle.sanlp.specs.Tags.{tag_at}
use Rattle.sanlp.specs.Trace.{trace}
use Rattle.sanlp.specs.WellFormed.{output_numbers}
use Rattle.sanlp.specs.Writers.{last_writer, value_at}
use Rattle.net_core.specs.declared.refs.Ref.{Ref}
use Rattle.net_core.specs.declared.network.Channel.{Channel}
use Rattle.net_core.specs.declared.network.Event.TheVariants.{Fire}
use Rattle.net_core.specs.declared.network.Network.{Network}
use Rattle.net_core.specs.Machine.{Net, State, net_of}
use Rattle.net_core.specs.Names.{Name, name_at}
use Rattle.net_core.specs.Names.Name.{zero_name, token_name}
use Rattle.net_core.specs.Orders.{EndsAll, EndsAlways, reached}
use Rattle.net_core.specs.Rules.{values}
use Rattle.net_core.specs.Shape.{IsShaped, fires}

-- the entry of the trace that a tag names
abbrev pub entry_at : Nest → Tag → Option ℕ
entry_at n t = slice_get (entries_of (trace n) t.process) t.turn

-- the value that the nest gives a tag's entry
abbrev pub tag_value : Nest → Inputs → Tag → ℤ
tag_value n d t = value_at n d (trace n) (slice_index_or (entries_of (trace n) t.process) t.turn 0)

-- the tag of the last writer of what a process has as this read at this turn, or none
abbrev pub source_tag : Nest → ℕ → ℕ → ℕ → Option Tag
source_tag n p turn read =
    option_and_then (tag_at (trace n))
    (option_and_then (λ t. last_writer n t read)
    (entry_at n (record { process = p; turn = turn })))

-- a read without a last writer wants Zero
abbrev pub name_of_source : Option Tag → Name
name_of_source None = zero_name
name_of_source (Some t) = token_name t

-- every reference of every fire names the last writer of what it reads, or Zero where there is none
abbrev pub NamesLastWriters : Nest → Net → Type 0
NamesLastWriters n net =
    (p k : ℕ) (refs : List Ref) → slice_get (net.script p) k ≡ Some (Fire refs)
    → (read : ℕ) (r : Ref) → slice_get refs read ≡ Some r
    → name_at net p k r ≡ name_of_source (source_tag n p (fires net p k) read)

-- the lists that the sinks have kept, one for each declared array, empty where it is no output; the first sink is process s
abbrev pub sink_lists_from : (ℕ → List ℤ) → ℕ → List ArrayDecl → List (List ℤ)
sink_lists_from kept s [] = []
sink_lists_from kept s (array ∷ declared) =
    if is_output array.kind then kept s ∷ sink_lists_from kept (s + 1) declared
    else [] ∷ sink_lists_from kept s declared

-- the lists that the sinks have kept, one for each declared array, empty where it is no output
abbrev pub sink_lists : Nest → State ℤ → List (List ℤ)
sink_lists n s =
    sink_lists_from (λ p. (s.local p).kept)
    (length n.statements - length (output_numbers n.arrays)) n.arrays

-- the network's shape is that of the nest's points and reads
pub record FitsNest (n : Nest) (network : Network) : Type 0 where
  pub shaped : IsShaped (net_of network) (points_of n)
  -- every fire has one reference for each read of its statement
  pub references : (p k : ℕ) (refs : List Ref)
      → slice_get ((net_of network).script p) k ≡ Some (Fire refs) → length refs ≡ read_count n p
  -- the read of every channel exists
  pub reads : (c : ℕ) (channel : Channel) → slice_get network.channels c ≡ Some channel
      → channel.read < read_count n channel.reader

-- The network is sound for the nest: in every order of events it computes what the nest computes.
pub record IsSound (n : Nest) (network : Network) : Type 0 where
  pub fits : FitsNest n network
  -- every run can go on until all have ended, keeps the capacities, and has all events once ended; and the law of cuts
  pub ends : (d : Inputs) → EndsAlways (net_of network) (values n d)
  -- once ended, each sink has kept the values of its points in order
  pub kept : (d : Inputs) (run : List ℕ) → EndsAll (net_of network) (values n d) run
      → (s a : ℕ) → HasRole n s (Sink a)
      → ((reached (net_of network) (values n d) run).local s).kept ≡ values_of n d s
  -- and these lists are the arrays after the nest
  pub arrays : (d : Inputs) (run : List ℕ) → EndsAll (net_of network) (values n d) run
      → sink_lists n (reached (net_of network) (values n d) run) ≡ arrays n d
  pub names : NamesLastWriters n (net_of network)
