-- Two points, the best and a new one, compared loop by loop.
use Rattle.std.specs.Prelude.{◌≡◌, ◌≤◌, ◌<◌, ◌^◌, ◌+◌, ◌*◌, ℕ, List, length, All, Option, Some, slice_get, IfSome}
use Rattle.std.specs.Option.{option_map_or}
use Rattle.affine_core.specs.declared.form.Form.{Form}
use Rattle.int_polyhedra.specs.declared.system.System.{System}
use Rattle.int_polyhedra.specs.declared.system.Term.{Term}
use Rattle.int_polyhedra.specs.Steps.{negation_of}
use Rattle.tree_order.specs.Orders.{difference_parts, AreEqual, IsOrder}
use Rattle.tree_order.specs.declared.compare.Compared.{Compared}
use Rattle.tree_order.specs.declared.compare.Comparison.{Comparison}
use Rattle.tree_order.specs.declared.compare.Comparison.TheVariants.{Earlier, Later, Open}
use Rattle.tree_order.specs.declared.compare.Pair.{Pair}
use Rattle.tree_order.specs.declared.compare.Question.{Question}
use Rattle.tree_graphs.specs.Facts.{form_parts, with_form, IsFact}
use Rattle.tree_graphs.specs.Level.{common_of}
use Rattle.tree_sums.specs.Parts.{Part, IsWithin}
use Rattle.source_tree.specs.Systems.{Occurrence}

-- forms over so many variables with small numbers
pub record AreForms (vars : ℕ) (forms : List Form) : Type 0 where
  pub over : All (λ form. length form.coefs ≡ vars) forms
  pub within : All (IsWithin (2 ^ 48)) forms

-- a point of writer w and one of writer u
pub record ArePoints (vars : ℕ) (w u : Occurrence) (pair : Pair) : Type 0 where
  pub best_writer : pair.best_writer ≡ w.number
  pub new_writer : pair.new_writer ≡ u.number
  pub common : pair.common ≡ common_of w u
  pub best_deep : length pair.best.now ≡ length w.statement.loops
  pub new_deep : length pair.new.now ≡ length u.statement.loops
  pub best_forms : AreForms vars pair.best.now
  pub new_forms : AreForms vars pair.new.now

-- the difference of two points at a loop
pub record IsGap (vars : ℕ) (a b : List Form) (l : ℕ) (form : Form) : Type 0 where
  pub over : length form.coefs ≡ vars
  pub within : IsWithin (2 ^ 49) form
  pub parts : (f g : Form) → slice_get a l ≡ Some f → slice_get b l ≡ Some g
      → (part : Part) → form_parts form part ≡ difference_parts f g part

-- terms, if they are had, show the difference of the points at this loop
abbrev pub IsHad : System → ℕ → List Form → List Form → Option (List Term) → Type 0
IsHad context l a b had =
    IfSome had (λ ts. (f : Form) (g : Form) → slice_get a l ≡ Some f → slice_get b l ≡ Some g
    → IsFact context 65536 (difference_parts f g) ts)

-- the first loops are equal, and what is had of the next one is shown
pub record IsComparedSoFar (context : System) (pair : Pair) (c : Compared) : Type 0 where
  pub few : length c.equal ≤ pair.common
  pub equal : AreEqual context 65536 pair.new.now pair.best.now c.equal
  pub upper : IsHad context (length c.equal) pair.best.now pair.new.now c.upper
  pub lower : IsHad context (length c.equal) pair.new.now pair.best.now c.lower

-- how the points stand in the context
abbrev pub IsComparison : System → Occurrence → Occurrence → Pair → Comparison → Type 0
IsComparison context w u pair (Earlier order) =
    IsOrder context 65536 u w pair.new.now pair.best.now order
IsComparison context w u pair (Later order) =
    IsOrder context 65536 w u pair.best.now pair.new.now order
IsComparison context w u pair (Open c) = IsComparedSoFar context pair c

-- 1 where a half of the next loop is told, and else 0
abbrev pub count_had : Option (List Term) → ℕ
count_had had = option_map_or (λ ts. 1) had 0

-- how many halves of equal loops are told: two of each that is equal, and those that are had of the next
abbrev pub facts_had : Compared → ℕ
facts_had c = 2 * length c.equal + (count_had c.upper + count_had c.lower)

-- where it is open, there is a next loop, and no fewer halves are told, but not both of that loop
abbrev pub HasNextLoop : Pair → ℕ → Comparison → Type 0
HasNextLoop pair had (Earlier order) = Unit {0}
HasNextLoop pair had (Later order) = Unit {0}
HasNextLoop pair had (Open c) =
    (length c.equal < pair.common) × (had ≤ facts_had c) × (facts_had c ≤ 2 * length c.equal + 1)

-- where it is open, more halves are told
abbrev pub TellsMore : ℕ → Comparison → Type 0
TellsMore had (Earlier order) = Unit {0}
TellsMore had (Later order) = Unit {0}
TellsMore had (Open c) = had < facts_had c

-- the Test's form is over the variables, and both sides of it are told
pub record IsQuestion (context : System) (w u : Occurrence) (pair : Pair) (q : Question)
    : Type 0 where
  pub over : length q.form.coefs ≡ context.vars
  pub within : IsWithin (2 ^ 49 + 1) q.form
  pub above : IsComparison (with_form context q.form) w u pair q.above
  pub below : (other : Form) → negation_of q.form ≡ Some other
      → IsComparison (with_form context other) w u pair q.below
