-- A joined tree on the way to one of the nest: what is left to convert.
use Rattle.std.specs.Prelude.{◌≡◌, ◌≤◌, ◌+◌, ◌^◌, ℕ, List, [], ◌∷◌, ◌++◌, length, sum_by}
use Rattle.tree_graphs.specs.Heights.{height_of}
use Rattle.stride_trees.specs.Leaves.{Converts, IsJoinedBelow}
use Rattle.stride_trees.specs.declared.leaves.Answered.{Answered}
use Rattle.stride_trees.specs.declared.leaves.Open.{Open}
use Rattle.stride_trees.specs.declared.leaves.Open.TheVariants.{First, Second}
use Rattle.stride_trees.specs.declared.leaves.Part.{Part}
use Rattle.stride_trees.specs.declared.leaves.Part.TheVariants.{Joined, Own}
use Rattle.source_tree.specs.declared.tree.Tree.{Tree}
use Rattle.source_tree.specs.declared.tree.Tree.TheViews.{Test}
use Rattle.source_tree.specs.declared.tree.Tree.TheOpen as open_
use Rattle.source_tree.specs.declared.tree.Tree.TheFolds.{fold-Tree}

-- a tree that is joined in a context of so many rows: with the Tests on a path they are at most 2 ^ 30
pub record IsLow (w : Answered) (here : ℕ) (tree : Tree) : Type 0 where
  pub joined : IsJoinedBelow w here tree
  pub few : here + height_of tree ≤ 2 ^ 30

-- What is left of a Test in a context of so many rows, where this tree of it is under way.
abbrev pub IsOpenAt : Answered → ℕ → Tree → Tree → Open → Type 0
IsOpenAt w here tree part (First form lower) = tree ≡ Test form part lower
IsOpenAt w here tree part (Second form own) =
    (above : Tree) × (tree ≡ Test form above part) × Converts w (here + 1) above own

-- the Tests above lead from the whole tree down to this one
pub data AreOpens (w : Answered) (rows : ℕ) (whole : Tree) : List Open → Tree → Type 0 where
  none : (opens : List Open) (tree : Tree) → opens ≡ [] → tree ≡ whole
      → AreOpens w rows whole opens tree
  below : (opens all : List Open) (tree part : Tree) (last : Open)
      → AreOpens w rows whole opens tree
      → IsOpenAt w (rows + length opens) tree part last
      → all ≡ opens ++ last ∷ [] → AreOpens w rows whole all part

-- How far the conversion of the whole tree is: a joined tree of it is the next to be converted, or one is converted.
abbrev pub IsConverting : Answered → ℕ → Tree → List Open → Part → Type 0
IsConverting w rows whole opens (Joined tree) =
    IsLow w rows whole × AreOpens w rows whole opens tree
IsConverting w rows whole opens (Own own) =
    IsLow w rows whole × ((tree : Tree) × AreOpens w rows whole opens tree
    × Converts w (rows + length opens) tree own)

-- How many turns are left: three for each Test, and one for each leaf

-- four for each test: its own three turns, and one of a leaf, of which there is one more
abbrev pub size_step : open_.Tree-F ℕ → ℕ
size_step (open_.Test form upper lower) = 4 + (upper + lower)
size_step (open_.Divides form d upper lower) = 4 + (upper + lower)
size_step (open_.Writer s forms proofs) = 0
size_step (open_.Zero proofs) = 0
size_step (open_.Dead proof) = 0

-- one less than the turns that a tree takes
unfoldable pub size_of : Tree → ℕ
size_of = fold-Tree ℕ size_step

-- the turns that are left at a Test above, those of its second tree among them
abbrev pub turns_of_open : Open → ℕ
turns_of_open (First form lower) = size_of lower + 3
turns_of_open (Second form own) = 1

-- the turns that are left of the whole
abbrev pub turns_left : List Open → Part → ℕ
turns_left opens (Joined tree) = size_of tree + 1 + sum_by turns_of_open opens
turns_left opens (Own own) = sum_by turns_of_open opens
