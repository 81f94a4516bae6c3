use Rattle.std.proofs.Common.{◌≡◌}
use Rattle.tree_graphs.specs.Asked.{depth_of_write}
use Rattle.lex_max.specs.Choices.{uppers_from}
use Rattle.lex_max.proofs.decide.all_upper_forms.Given as goal

abbrev pub invariant-loop-variable : goal.invariant-loop-variable
invariant-loop-variable l = l.all ≡ uppers_from (depth_of_write l.graph.writes) l.graph.bounds.now l.graph.edges.now 0
    l.variable
