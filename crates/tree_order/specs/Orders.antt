-- One point before another, by what a context shows.
use Rattle.std.specs.Prelude.{◌≡◌, ◌≤◌, ◌<◌, ℕ, ◌+◌, negsuc, ◌+ℤ◌, ◌-ℤ◌, List, [], ◌∷◌, ◌++◌, length, min, map, Option, Some, None, slice_get}
use Rattle.affine_core.specs.declared.form.Form.{Form}
use Rattle.int_polyhedra.specs.declared.system.System.{System}
use Rattle.int_polyhedra.specs.declared.system.Term.{Term}
use Rattle.tree_order.specs.Reads.{StandsInLoopsOf}
use Rattle.tree_order.specs.declared.order.Equality.{Equality}
use Rattle.tree_order.specs.declared.order.Order.{Order}
use Rattle.tree_graphs.specs.Closed.{number_parts}
use Rattle.tree_graphs.specs.Facts.{form_parts, IsFact}
use Rattle.tree_graphs.specs.Level.{common_of}
use Rattle.tree_sums.specs.Shown.{RowParts}
use Rattle.sanlp.specs.declared.nest.Nest.{Nest}
use Rattle.source_tree.specs.Systems.{Occurrence}

-- a - b
abbrev pub difference_parts : Form → Form → RowParts
difference_parts a b part = form_parts a part -ℤ form_parts b part

-- a - b - 1
abbrev pub strict_parts : Form → Form → RowParts
strict_parts a b part = difference_parts a b part +ℤ number_parts (negsuc 0) part

-- the first loops of z and y are equal: terms show the differences both ways
abbrev pub AreEqual : System → ℕ → List Form → List Form → List Equality → Type 0
AreEqual context most z y [] = Unit {0}
AreEqual context most [] y (e ∷ equal) = ⊥
AreEqual context most (a ∷ z) [] (e ∷ equal) = ⊥
AreEqual context most (a ∷ z) (b ∷ y) (e ∷ equal) =
    (IsFact context most (difference_parts a b) e.above
    × IsFact context most (difference_parts b a) e.below)
    × AreEqual context most z y equal

-- terms show that the value of a loop is less at z than at y
pub record IsLessAt (context : System) (most : ℕ) (z y : List Form) (l : ℕ) (ts : List Term)
    : Type 0 where
  pub a : Form
  pub b : Form
  pub first : slice_get z l ≡ Some a
  pub second : slice_get y l ≡ Some b
  pub fact : IsFact context most (strict_parts b a) ts

-- At a loop of this number, which is common to both, z is less than y; or there is no further common loop,
-- and z's statement comes first in the text, or both are the same point.
abbrev pub DecidesAt : System → ℕ → Occurrence → Occurrence → List Form → List Form → ℕ
    → Option (List Term) → Type 0
DecidesAt context most u w z y l (Some ts) =
    (l < common_of u w) × IsLessAt context most z y l ts
DecidesAt context most u w z y l None = (l ≡ common_of u w) × (u.number ≤ w.number)

-- the equalities of y and z
abbrev pub turned_equal : List Equality → List Equality
turned_equal equal = map (λ e. record { above = e.below; below = e.above }) equal

-- three writes in the loops of a nest
pub record AreWritesOf (n : Nest) (u v w : Occurrence) : Type 0 where
  pub first : StandsInLoopsOf n u
  pub second : StandsInLoopsOf n v
  pub third : StandsInLoopsOf n w

-- point z of writer u stands before point y of writer w
pub record IsOrder (context : System) (most : ℕ) (u w : Occurrence) (z y : List Form)
    (order : Order) : Type 0 where
  pub equal : AreEqual context most z y order.equal
  pub decides : DecidesAt context most u w z y (length order.equal) order.strict

-- the loops that are equal at z, x and y
abbrev pub equal_both : List Equality → List Equality → List Equality
equal_both [] second = []
equal_both (e ∷ first) [] = []
equal_both (e ∷ first) (f ∷ second) =
    record { above = e.above ++ f.above; below = e.below ++ f.below } ∷ equal_both first second

-- what decides between a first point and a third behind the loops that are equal at all three
abbrev pub DecidesThrough : Order → Order → Option (List Term) → Type 0
DecidesThrough first second strict =
    (n : Nest) (context : System) (one two : ℕ) (u v w : Occurrence) (z x y : List Form)
    → AreWritesOf n u v w
    → IsOrder context one u v z x first → IsOrder context two v w x y second
    → DecidesAt context (one + two) u w z y (min (length first.equal) (length second.equal)) strict

-- An order from a first point to a third, by one from the first to a second and one from this to the third.
abbrev pub Composes : Order → Order → Order → Type 0
Composes first second order =
    (n : Nest) (context : System) (one two : ℕ) (u v w : Occurrence) (z x y : List Form)
    → AreWritesOf n u v w
    → IsOrder context one u v z x first → IsOrder context two v w x y second
    → IsOrder context (one + two) u w z y order
