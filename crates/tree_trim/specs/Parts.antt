-- A tree taken apart.
use Rattle.std.specs.Prelude.{◌≡◌, ℕ}
use Rattle.source_tree.specs.declared.tree.Tree.{Tree}
use Rattle.source_tree.specs.declared.tree.Tree.TheViews.{Test, Divides}
use Rattle.tree_trim.specs.declared.parts.Parts.{Parts}
use Rattle.tree_trim.specs.declared.parts.Parts.TheVariants as parts
use Rattle.tree_trim.specs.Trees.{tree_without}

-- the parts are a test and its trees, or a leaf once row k is away
abbrev pub ArePartsOf : ℕ → Tree → Parts → Type 0
ArePartsOf k tree (parts.Test form above below) = tree ≡ Test form above below
ArePartsOf k tree (parts.Divides form divisor above below) = tree ≡ Divides form divisor above below
ArePartsOf k tree (parts.Leaf leaf) = leaf ≡ tree_without k tree
