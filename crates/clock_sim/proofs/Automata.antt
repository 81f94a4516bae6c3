-- The automata of a nest's network are those of its processes in order.
use Rattle.std.proofs.Common.{◌≡◌, ℕ, zero, suc, ◌+◌, Some, List, [], ◌∷◌, map, length, slice_get, ap, sym, ◌∙◌, arith}
use Rattle.std.specs.List.{enumerate_from}
use Rattle.sanlp.specs.declared.nest.Nest.{Nest}
use Rattle.sanlp.specs.Points.{points_of}
use Rattle.sanlp.proofs.NestFacts.{points_length}
use Rattle.net_core.specs.declared.network.Network.{Network}
use Rattle.net_core.specs.Machine.{net_of}
use Rattle.net_core.specs.Shape.{IsShaped}
use Rattle.node_automata.specs.declared.node.NodeAuto.{NodeAuto}
use Rattle.node_automata.specs.Automata.{automata, automaton_of}
use Rattle.node_automata.proofs.Places.{length_made}
use Rattle.clock_sim.specs.Nodes.{AreNodesOf}

-- the item at a place of a list that was made from a numbered one
made_from : {X Y : Type 0} (f : ℕ × X → Y) (a : ℕ) (xs : List X) (i k : ℕ) (y : Y) → a + i ≡ k
    → slice_get (map f (enumerate_from a xs)) i ≡ Some y
    → (x : X) × (y ≡ f (k, x))
made_from f a [] i k y sum e = absurd (cc)
made_from f a (x ∷ xs) zero k y sum e =
    let same : f (a, x) ≡ y = cc in
    let number : a ≡ k = omega arith in
    (x, rw (← number) (cc))
made_from f a (x ∷ xs) (suc i) k y sum e = made_from f (a + 1) xs i k y (omega arith) e

module _ (nest : Nest) (network : Network) (shaped : IsShaped (net_of network) (points_of nest)) where
  pub processes_are : (net_of network).processes ≡ length nest.statements
  processes_are = shaped.processes ∙ points_length nest

  pub are_nodes : AreNodesOf (net_of network) (automata nest network)
  are_nodes = record {
    number =
        length_made (λ numbered. automaton_of nest network numbered.0 numbered.1) 0 nest.statements ∙ sym processes_are;
    process = λ i auto e.
        ap (λ (auto : NodeAuto). auto.process)
        (made_from (λ numbered. automaton_of nest network numbered.0 numbered.1) 0 nest.statements i i auto
        (omega arith) e).1;
  }
