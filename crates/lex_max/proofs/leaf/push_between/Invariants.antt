use Rattle.lex_max.specs.Choices.{chosen_place}
use Rattle.lex_max.proofs.LevelProofs.{AreBetween}
use Rattle.lex_max.proofs.leaf.push_between.Given as goal

abbrev pub invariant-loop-level : goal.invariant-loop-level
invariant-loop-level l = AreBetween l.graph.writes l.graph.edges.now l.here (chosen_place l.choices) l.level l.fn.proofs
    l.proofs
