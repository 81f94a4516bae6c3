-- A graph is that of its writes, and its bounds are closed.
use Rattle.lex_max.specs.Choices.{AreReady}
use Rattle.tree_graphs.specs.declared.graph.Graph.{Graph}

pub ready_of : (g : Graph) → AreReady g.writes g.edges.now g.bounds.now
ready_of g = record { graph = g.graph; closed = g.closed }
