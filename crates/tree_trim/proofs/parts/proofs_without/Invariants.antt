use Rattle.std.proofs.Common.{◌≡◌}
use Rattle.tree_trim.specs.Trees.{proofs_without}
use Rattle.tree_trim.proofs.parts.proofs_without.Given as goal

abbrev pub invariant-loop-proof : goal.invariant-loop-proof
invariant-loop-proof l = l.others ≡ proofs_without l.row l.yielded
