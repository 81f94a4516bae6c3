-- The text of a tree alone: that of a certificate's tree without the proofs and without their numbers.
use Rattle.std.specs.Prelude.{ℕ, List, [], ◌∷◌, ◌++◌, codes, decimal, length}
use Rattle.std.specs.List.{flat_map}
use Rattle.source_tree.specs.declared.tree.Tree.{Tree}
use Rattle.source_tree.specs.declared.tree.Tree.TheOpen.{Tree-F, Test, Divides, Writer, Zero, Dead}
use Rattle.source_tree.specs.declared.tree.Tree.TheFolds.{fold-Tree}
use Rattle.text_out.specs.Words.{line_text}
use Rattle.tree_text.specs.TreeText.{dead_text, divides_text, map_text, test_text}

-- a statement, and how many forms follow
abbrev pub writer_line : ℕ → ℕ → List ℕ
writer_line statement forms =
    line_text (codes "w" ∷ decimal statement ∷ decimal forms ∷ [])

abbrev pub zero_line : List ℕ
zero_line = line_text (codes "z" ∷ [])

abbrev pub node_lines : Tree-F (List ℕ) → List ℕ
node_lines (Test form above below) = test_text form ++ (above ++ below)
node_lines (Divides form divisor above below) = divides_text form divisor ++ (above ++ below)
node_lines (Writer statement place proofs) =
    writer_line statement (length place) ++ flat_map map_text place
node_lines (Zero proofs) = zero_line
node_lines (Dead proof) = dead_text

-- a line for each node; behind a test its two trees, and behind a Writer leaf its map
abbrev pub lines_of_tree : Tree → List ℕ
lines_of_tree = fold-Tree (List ℕ) node_lines
