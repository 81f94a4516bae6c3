-- The shape of a network: whether it agrees with the nest, and which process is the least of which a rule is broken.
use Rattle.std.specs.Prelude.{ℕ, Bool, true, ◌==◌, ◌&&◌, nat_lt, nat_le, if◌then◌else◌, Option, Some, None, length, count_by}
use Rattle.std.specs.List.{sum_by, list_all}
use Rattle.std.specs.Option.{option_or}
use Rattle.sanlp.specs.Access.{read_count}
use Rattle.sanlp.specs.declared.nest.Nest.{Nest}
use Rattle.source_tree.specs.declared.cert.Cert.{Cert}
use Rattle.net_core.specs.declared.network.Channel.{Channel}
use Rattle.net_core.specs.declared.network.Event.{Event}
use Rattle.net_core.specs.declared.network.Event.TheVariants.{Get, Fire, Put}
use Rattle.net_core.specs.declared.network.Network.{Network}
use Rattle.net_core.specs.Machine.{Net, net_of}
use Rattle.net_core.specs.Shape.{is_any_get}
use Rattle.net_checker.specs.declared.verdict.Refusal.{Refusal}
use Rattle.net_checker.specs.declared.verdict.Refusal.TheVariants as refusal
use Rattle.net_checker.specs.Choice.{first_below}

-- how many reads the statements have together
abbrev pub read_total : Nest → ℕ
read_total n = sum_by (λ s. length s.reads) n.statements

-- a channel's writer and reader are statements of the nest, and its read is one of its reader's
abbrev pub channel_agrees : Nest → Channel → Bool
channel_agrees n channel =
    nat_lt channel.writer (length n.statements) && nat_lt channel.reader (length n.statements)
    && nat_lt channel.read (read_count n channel.reader)

-- there are as many processes as statements and as many sources as reads, and every channel agrees
abbrev pub agrees : Nest → Network → Cert → Bool
agrees n network cert =
    (length network.processes == length n.statements) && (length cert.sources == read_total n)
    && list_all (channel_agrees n) network.channels

-- An event of process p names a channel that is there, of which p is the reader or the writer, and a slot of p.
abbrev pub is_own_event : Net → ℕ → Event → Bool
is_own_event n p (Get c slot) = nat_lt c n.channels && (n.reader c == p) && nat_lt slot (n.slots p)
is_own_event n p (Fire refs) = true
is_own_event n p (Put c) = nat_lt c n.channels && (n.writer c == p)

-- every event is the process's own, and it has no more slots than Gets
abbrev pub keeps_shape : Net → ℕ → Bool
keeps_shape n p =
    list_all (is_own_event n p) (n.script p)
    && nat_le (n.slots p) (count_by is_any_get (n.script p))

abbrev pub process_shape : Net → ℕ → Option Refusal
process_shape n p = if keeps_shape n p then None else Some (refusal.Shape p)

-- where the network doesn't agree with the nest, the number of the nest's processes, and else the least process that
-- doesn't keep to the shape
unfoldable pub shape_refusal : Nest → Network → Cert → Option Refusal
shape_refusal n network cert =
    option_or (if agrees n network cert then None else Some (refusal.Shape (length n.statements)))
    (first_below (process_shape (net_of network)) (length network.processes))
