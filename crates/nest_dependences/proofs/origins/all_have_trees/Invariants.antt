use Rattle.std.proofs.Common.{ℕ, ◌<◌}
use Rattle.sanlp.specs.Access.{read_count}
use Rattle.deps_text.specs.Dependences.{HasTree}
use Rattle.nest_dependences.proofs.origins.all_have_trees.Given as goal

-- the reads of the statements so far have trees
abbrev pub invariant-loop-statement : goal.invariant-loop-statement
invariant-loop-statement l =
    (s : ℕ) → s < l.statement → (k : ℕ) → k < read_count l.nest s → HasTree l.nest s k
