-- What a tree gives along its innermost loop. Turns of that loop are counted from the first value of a stretch on, which is
-- turn 0.
use Rattle.std.specs.Prelude.{◌≡◌, ◌≤◌, ℕ, ℤ, pos, ◌+ℤ◌, ◌-ℤ◌, ◌*ℤ◌, ◌≤ℤ◌, List, [], ◌∷◌, ◌++◌, Option, Some, unsigned_abs, IfSome, IsSomeAnd}
use Rattle.std.specs.Option.{option_map}
use Rattle.source_tree.specs.declared.tree.Found.{Found}
use Rattle.source_tree.specs.declared.tree.Found.TheVariants as found
use Rattle.source_tree.specs.declared.tree.Tree.{Tree}
use Rattle.source_tree.specs.Walk.{outcome_of}
use Rattle.tree_eval.specs.declared.follower.Follower.{Follower}
use Rattle.tree_eval.specs.declared.follower.Stretch.{Stretch}
use Rattle.tree_eval.specs.declared.leaf.Leaf.{Leaf}
use Rattle.tree_eval.specs.declared.leaf.Leaf.TheVariants.{Writer, Zero, Dead}
use Rattle.tree_eval.specs.declared.line.Line.{Line}
use Rattle.tree_eval.specs.declared.row.Row.{Row}

-- how many turns come after the first one at most
abbrev pub turn_limit : ℕ
turn_limit = 1073741824

-- how large the step from turn to turn is at most
abbrev pub step_limit : ℕ
step_limit = 1073741824

-- how large a value of a map is at the first turn at most
abbrev pub start_limit : ℕ
start_limit = 2305843009213693952

-- the value of a line at a turn
abbrev pub line_at : Line → ℤ → ℤ
line_at line turn = line.value +ℤ (turn *ℤ line.step)

-- what is there at each turn is the value of the line, whose step is small
pub record IsLine (there : ℤ → Option ℤ) (line : Line) : Type 0 where
  pub small : unsigned_abs line.step ≤ step_limit
  pub is : (turn : ℤ) → pos 0 ≤ℤ turn → turn ≤ℤ pos turn_limit
      → there turn ≡ Some (line_at line turn)

-- the values of a map at a turn, by their values at the first turn and their steps
abbrev pub values_at : ℤ → List ℤ → List ℤ → List ℤ
values_at turn [] steps = []
values_at turn (start ∷ starts) [] = []
values_at turn (start ∷ starts) (step ∷ steps) =
    (start +ℤ (turn *ℤ step)) ∷ values_at turn starts steps

-- there are as many steps as values at the first turn, and all of them are small
abbrev pub AreSmall : List ℤ → List ℤ → Type 0
AreSmall [] [] = Unit {0}
AreSmall [] (step ∷ steps) = ⊥
AreSmall (start ∷ starts) [] = ⊥
AreSmall (start ∷ starts) (step ∷ steps) =
    (unsigned_abs start ≤ start_limit) × (unsigned_abs step ≤ step_limit) × AreSmall starts steps

-- the values that are there at each turn were added to those of a map, which stays small
pub record AddsLines (there : ℤ → Option (List ℤ)) (starts steps new_starts new_steps : List ℤ)
    : Type 0 where
  pub small : AreSmall new_starts new_steps
  pub are : (turn : ℤ) → pos 0 ≤ℤ turn → turn ≤ℤ pos turn_limit
      → option_map (λ values. values_at turn starts steps ++ values) (there turn)
      ≡ Some (values_at turn new_starts new_steps)

-- what a leaf gives at a turn
abbrev pub found_at : Leaf → ℤ → Found
found_at (Writer s starts steps) turn =
    found.At (record { statement = s; at = values_at turn starts steps })
found_at Zero turn = found.Zero
found_at Dead turn = found.Dead

-- the values of a writer's map at the first turn, and their steps, are small
abbrev pub IsSmall : Leaf → Type 0
IsSmall (Writer s starts steps) = AreSmall starts steps
IsSmall Zero = Unit {0}
IsSmall Dead = Unit {0}

-- from the first value on, at each turn up to this one, the tree gives what the leaf gives; these turns are few, and the
-- leaf's numbers small
pub record GivesAlong (tree : Tree) (outer : List ℤ) (first turns : ℤ) (leaf : Leaf) : Type 0 where
  pub small : IsSmall leaf
  pub few : turns ≤ℤ pos turn_limit
  pub gives : (turn : ℤ) → pos 0 ≤ℤ turn → turn ≤ℤ turns
      → outcome_of tree (outer ++ (first +ℤ turn) ∷ []) ≡ Some (found_at leaf turn)

-- the row goes on for at most so many turns after its first, and the tree gives along it what its leaf gives
pub record IsRow (tree : Tree) (outer : List ℤ) (first limit : ℤ) (row : Row) : Type 0 where
  pub not_negative : pos 0 ≤ℤ row.turns
  pub few : row.turns ≤ℤ limit
  pub along : GivesAlong tree outer first row.turns row.leaf

-- from the first value of the stretch to the last the tree gives what the stretch's leaf gives
abbrev pub IsStretch : Tree → Stretch → Type 0
IsStretch tree stretch =
    GivesAlong tree stretch.outer stretch.first (stretch.last -ℤ stretch.first) stretch.leaf

-- along the stretch that is known, if there is one, the tree gives what the stretch's leaf gives
abbrev pub IsStretchOf : Tree → Follower → Type 0
IsStretchOf tree follower = IfSome follower.stretch (IsStretch tree)

-- the loops round the innermost one have the stretch's values, and the innermost one a value from its first to its last
pub record LiesIn (at : List ℤ) (stretch : Stretch) : Type 0 where
  pub value : ℤ
  pub is : at ≡ stretch.outer ++ value ∷ []
  pub first : stretch.first ≤ℤ value
  pub last : value ≤ℤ stretch.last

-- a stretch is known, and these loop values lie in it
abbrev pub IsKnownAt : Follower → List ℤ → Type 0
IsKnownAt follower at = IsSomeAnd follower.stretch (LiesIn at)
