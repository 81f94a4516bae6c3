use Rattle.std.proofs.Common.{◌≡◌, take}
use Rattle.node_automata.proofs.node.copied_vectors.Given as goal

abbrev pub invariant-loop-vector : goal.invariant-loop-vector
invariant-loop-vector l = l.copies ≡ take l.vector-index l.vectors
