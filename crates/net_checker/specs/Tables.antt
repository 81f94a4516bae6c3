-- How the table of sources is made of trees.
use Rattle.std.specs.Prelude.{◌≡◌, ◌<◌, ◌+◌, ◌+ℤ◌, ◌++◌, ◌∷◌, ◌≤◌, ◌*◌, ℕ, ℤ, pos, negsuc, Bool, true, false, List, [], Some, length, slice_get, slice_index_or}
use Rattle.std.specs.Cmp.Lexicographic.{slice_cmp}
use Rattle.std.specs.Ordering.{int_cmp}
use Rattle.std.specs.declared.cmp.Ordering.TheVariants.{Less}
use Rattle.sanlp.specs.declared.nest.Tag.{Tag}
use Rattle.source_tree.specs.declared.cert.Origin.{Origin}
use Rattle.source_tree.specs.declared.cert.Origin.TheVariants.{Sweep, Tree}
use Rattle.source_tree.specs.declared.tree.Found.TheVariants as found
use Rattle.source_tree.specs.declared.tree.Tree.{Tree as SourceTree}
use Rattle.source_tree.specs.Walk.{outcome_of}
use Rattle.tree_eval.specs.Stretches.{values_at}
use Rattle.net_checker.specs.declared.known_rows.KnownRows.{KnownRows}
use Rattle.net_checker.specs.declared.known_rows.Row.{Row}
use Rattle.net_checker.specs.declared.sources.ToldTags.{ToldTags}

abbrev pub is_tree : Origin → Bool
is_tree Sweep = false
is_tree (Tree tree) = true

-- the tag is that of the point which a tree gives at these loop values, among these points of each statement
pub record GivesTag (points : List (List (List ℤ))) (tree : SourceTree) (at : List ℤ) (tag : Tag)
    : Type 0 where
  pub point : List ℤ
  pub there : slice_get (slice_index_or points tag.process []) tag.turn ≡ Some point
  pub is : outcome_of tree at
      ≡ Some (found.At (record { statement = tag.process; at = point }))

-- from this turn of its reader on, the tree gives the points of the tags that are left, one at each turn
abbrev pub AreTold : List (List (List ℤ)) → SourceTree → List (List ℤ) → ℕ → ToldTags → Type 0
AreTold points tree vectors turn told =
    (i : ℕ) (at : List ℤ) → i < told.left → slice_get vectors (turn + i) ≡ Some at
    → GivesTag points tree at
    (record { process = told.statement; turn = told.next + i * told.step })

-- the second list differs from the first in its last number alone, which is greater by so much
pub record IsAhead (by : ℕ) (first second : List ℤ) : Type 0 where
  pub front : List ℤ
  pub value : ℤ
  pub is_first : first ≡ front ++ value ∷ []
  pub is_second : second ≡ front ++ (value +ℤ pos by) ∷ []

-- so many vectors later stands one that is so much ahead
pub record GoesOn (vectors : List (List ℤ)) (turn by : ℕ) : Type 0 where
  pub at : List ℤ
  pub later : List ℤ
  pub there : slice_get vectors turn ≡ Some at
  pub there_later : slice_get vectors (turn + by) ≡ Some later
  pub ahead : IsAhead by at later

-- each number of the second vector less that of the first
abbrev pub differences : List ℤ → List ℤ → List ℤ
differences from to = values_at (negsuc 0) to from

-- the vectors at this place and at so many behind it, each by a step from the last, are an arithmetic
-- progression, number by number
pub record IsProgression (vectors : List (List ℤ)) (first step turns : ℕ) : Type 0 where
  pub from : List ℤ
  pub steps : List ℤ
  pub are : (i : ℕ) → i ≤ turns
      → slice_get vectors (first + i * step) ≡ Some (values_at (pos i) from steps)

-- the vectors at the row's places are an arithmetic progression
abbrev pub IsRow : List (List (List ℤ)) → Row → Type 0
IsRow points row =
    IsProgression (slice_index_or points row.statement []) row.first row.step row.turns

-- so is each row that is known
abbrev pub AreProgressions : List (List (List ℤ)) → KnownRows → Type 0
AreProgressions points known =
    (k : ℕ) (row : Row) → slice_get known.rows k ≡ Some (Some row) → IsRow points row

-- iteration vectors in lexicographic order, each once
abbrev pub AreInOrder : List (List ℤ) → Type 0
AreInOrder vectors =
    (f g : ℕ) (a b : List ℤ) → f < g → slice_get vectors f ≡ Some a → slice_get vectors g ≡ Some b
    → slice_cmp int_cmp a b ≡ Less
