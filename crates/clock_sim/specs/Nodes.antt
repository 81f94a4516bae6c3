-- The automata that a clocked run goes over.
use Rattle.std.specs.Prelude.{◌≡◌, ℕ, Some, List, length, slice_get}
use Rattle.net_core.specs.Machine.{Net}
use Rattle.node_automata.specs.declared.node.NodeAuto.{NodeAuto}

-- one for each process of a network, in order
pub record AreNodesOf (n : Net) (autos : List NodeAuto) : Type 0 where
  pub number : length autos ≡ n.processes
  pub process : (i : ℕ) (auto : NodeAuto) → slice_get autos i ≡ Some auto → auto.process ≡ i
