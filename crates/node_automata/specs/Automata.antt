-- The automaton of each process of a network.
use Rattle.std.specs.Prelude.{ℕ, List, [], ◌==◌, map, slice_index_or, length}
use Rattle.std.specs.List.{enumerate_from, filter, range_with_len}
use Rattle.sanlp.specs.declared.nest.Nest.{Nest}
use Rattle.sanlp.specs.declared.nest.Statement.{Statement}
use Rattle.sanlp.specs.Points.{points_of}
use Rattle.net_core.specs.declared.network.Network.{Network}
use Rattle.net_core.specs.Machine.{Net, net_of}
use Rattle.node_automata.specs.declared.node.NodeAuto.{NodeAuto}

-- the channels whose reader is process p, ascending, and those whose writer it is
abbrev pub incoming : Net → ℕ → List ℕ
incoming n p = filter (λ c. n.reader c == p) (range_with_len 0 n.channels)

-- the channels whose writer process p is, ascending
abbrev pub outgoing : Net → ℕ → List ℕ
outgoing n p = filter (λ c. n.writer c == p) (range_with_len 0 n.channels)

-- Process p of a nest's network, whose statement is this one: its events are its script, and its values its points.
abbrev pub automaton_of : Nest → Network → ℕ → Statement → NodeAuto
automaton_of nest network p statement = record {
  process = p;
  role = statement.role;
  depth = length statement.loops;
  reads = length statement.reads;
  gets = incoming (net_of network) p;
  puts = outgoing (net_of network) p;
  slots = (net_of network).slots p;
  events = (net_of network).script p;
  values = slice_index_or (points_of nest) p [];
  expr = statement.expr;
}

-- the automata of all processes, in order
abbrev pub automata : Nest → Network → List NodeAuto
automata nest network =
    map (λ numbered. automaton_of nest network numbered.0 numbered.1)
    (enumerate_from 0 nest.statements)
