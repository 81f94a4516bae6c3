-- How many tests a tree has on its longest path, whether Tests or Divides.
use Rattle.std.specs.Prelude.{ℕ, ◌+◌, max}
use Rattle.source_tree.specs.declared.tree.Tree.{Tree}
use Rattle.source_tree.specs.declared.tree.Tree.TheOpen.{Tree-F, Test, Divides, Writer, Zero, Dead}
use Rattle.source_tree.specs.declared.tree.Tree.TheFolds.{fold-Tree}

-- the height of a tree from those of its branches
abbrev pub height_step : Tree-F ℕ → ℕ
height_step (Test form above below) = 1 + max above below
height_step (Divides form d above below) = 1 + max above below
height_step (Writer s forms proofs) = 0
height_step (Zero proofs) = 0
height_step (Dead proof) = 0

-- the most Tests and Divides on a path of a tree; a leaf has height 0
unfoldable pub height_of : Tree → ℕ
height_of = fold-Tree ℕ height_step
