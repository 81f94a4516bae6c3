use Rattle.std.proofs.Common.{ℕ, ◌<◌}
use Rattle.deps_text.specs.Dependences.{HasTree}
use Rattle.nest_dependences.proofs.origins.reads_have_trees.Given as goal

-- the reads so far have trees
abbrev pub invariant-loop-read : goal.invariant-loop-read
invariant-loop-read l = (k : ℕ) → k < l.read → HasTree l.nest l.statement k
