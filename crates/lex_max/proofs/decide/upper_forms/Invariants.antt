use Rattle.std.proofs.Common.{◌≡◌, map, take}
use Rattle.tree_graphs.specs.Asked.{depth_of_write}
use Rattle.lex_max.specs.Choices.{upper_of}
use Rattle.lex_max.proofs.decide.upper_forms.Given as goal

abbrev pub invariant-loop-edge : goal.invariant-loop-edge
invariant-loop-edge l = l.forms
    ≡ map (upper_of (depth_of_write l.graph.writes) l.graph.bounds.now l.variable) (take l.edge-index l.edges)
