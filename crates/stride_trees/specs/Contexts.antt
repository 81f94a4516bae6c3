-- Contexts that have the tests of divisibility of a write, and places in them.
use Rattle.std.specs.Prelude.{◌≡◌, ◌≤◌, ◌<◌, ◌^◌, ℕ, ◌+◌, ◌*◌, ℤ, List, [], ◌∷◌, ◌++◌, length, map, All, Some, slice_get}
use Rattle.std.specs.List.{range_with_len}
use Rattle.affine_core.specs.declared.form.Form.{Form}
use Rattle.affine_core.specs.Affine.{widened_form}
use Rattle.int_polyhedra.specs.declared.system.Proof.{Proof}
use Rattle.int_polyhedra.specs.declared.system.System.{System}
use Rattle.lex_max.specs.Answer.{IsAnswer}
use Rattle.tree_graphs.specs.Asked.{read_of as asked_read, write_of as asked_write}
use Rattle.tree_graphs.specs.Simple.{IsLightSum}
use Rattle.tree_graphs.specs.declared.writes.Writes.{Writes}
use Rattle.tree_sums.specs.Parts.{IsWithin}
use Rattle.source_tree.specs.Checked.{AreRefuted, HaveVariables}
use Rattle.source_tree.specs.Places.{at_place, differ_rows}
use Rattle.source_tree.specs.Rows.{RowExpr, RowSystem, Take, below_zero, minus, row_forms}
use Rattle.source_tree.specs.Systems.{Context, Occurrence, cell_systems, multiple, outside_systems, undivided_rows, with_rows, with_write_at}
use Rattle.source_tree.specs.declared.tree.Tree.{Tree}
use Rattle.stride_trees.specs.Candidates.{AreCutSums}
use Rattle.tree_cuts.specs.Class.{stride_of}
use Rattle.stride_trees.specs.Divisions.{division_of}
use Rattle.stride_trees.specs.Problem.{told_read, told_write}
use Rattle.tree_cuts.specs.Sources.{next_place, places_behind}
use Rattle.stride_trees.specs.Strides.{depth_of_read, read_of, root_of, tests_of, write_of, IsSmallContext}
use Rattle.stride_trees.specs.declared.divisions.Division.{Division}
use Rattle.stride_trees.specs.declared.strides.Strides.{Strides}

-- the two rows of a test that says yes stand in the context from this row on, for the quotient that is this variable
pub record IsTestIn (c : Context) (row quotient : ℕ) (form : Form) (divisor : ℤ) : Type 0 where
  pub inside : quotient < c.vars
  pub low : slice_get c.rows row
      ≡ Some (minus (Take (widened_form quotient form)) (multiple divisor quotient))
  pub high : slice_get c.rows (row + 1)
      ≡ Some (minus (multiple divisor quotient) (Take (widened_form quotient form)))

-- one test for each subscript of the write with a stride, at these places behind so many loops and domain rows of
-- the reader
abbrev pub AreTestsIn : Context → ℕ → ℕ → List ℕ → List Form → List Form → Type 0
AreTestsIn c depth root places [] reads = Unit {0}
AreTestsIn c depth root places (write ∷ writes) [] = Unit {0}
AreTestsIn c depth root places (write ∷ writes) (read ∷ reads) =
    ((stride : ℤ) → stride_of write ≡ Some stride
    → IsTestIn c (root + 2 * next_place places) (depth + next_place places)
    (division_of 0 write read stride).form (division_of 0 write read stride).divisor)
    × AreTestsIn c depth root (places_behind write places) writes reads

-- a context with so many small rows over the reader's loops and more variables, that has the tests at their places
pub record IsTestedContext (s : Strides) (places : List ℕ) (here : ℕ) (c : Context) : Type 0 where
  pub small : IsSmallContext c here
  pub reader : depth_of_read s ≤ c.vars
  pub tests : AreTestsIn c (depth_of_read s) (root_of s) places (write_of s).access.subscripts
      (read_of s).access.subscripts

-- the two rows of a test that says no at a place
abbrev pub no_rows : Strides → Division → ℕ → List RowExpr
no_rows s d place =
    let quotient = depth_of_read s + place in
    undivided_rows quotient (widened_form quotient d.form) d.divisor

-- a context with so many small rows, where one test of the write says no: its two rows stand at this place
pub record IsUndividedContext (s : Strides) (d : Division) (place here : ℕ) (c : Context)
    : Type 0 where
  pub small : IsSmallContext c here
  pub inside : depth_of_read s + place < c.vars
  pub first : slice_get c.rows (root_of s + 2 * place)
      ≡ slice_get (no_rows s d place) 0
  pub second : slice_get c.rows (root_of s + 2 * place + 1)
      ≡ slice_get (no_rows s d place) 1

-- so many small rows, the two rows of a test that says no among them: they stand from this row on, for the quotient
-- that is this variable
pub record IsNoIn (d : Division) (row quotient here : ℕ) (c : Context) : Type 0 where
  pub small : IsSmallContext c here
  pub first : slice_get c.rows row
      ≡ slice_get (undivided_rows quotient (widened_form quotient d.form) d.divisor) 0
  pub second : slice_get c.rows (row + 1)
      ≡ slice_get (undivided_rows quotient (widened_form quotient d.form) d.divisor) 1

-- the system of a write before the read, with these order rows, and the same over quotients
abbrev pub own_system : Strides → Context → List RowExpr → RowSystem
own_system s c order = with_rows (with_write_at (read_of s) c (write_of s)) order

-- a write before the read with these order rows, over quotients
abbrev pub told_system : Strides → List ℕ → Context → List RowExpr → RowSystem
told_system s places c order =
    with_rows
    (with_write_at (told_read c.vars places (read_of s) (write_of s)) c (told_write (write_of s)))
    order

-- rows that can be made, with small numbers
pub record AreMadeSmall (vars : ℕ) (rows : List RowExpr) : Type 0 where
  pub forms : List Form
  pub are_made : row_forms vars rows ≡ Some forms
  pub within : All (IsWithin (2 ^ 90)) forms

-- a place of a writer, one form over the variables of a context for each of so many loops
pub record IsPlaceIn (c : Context) (depth : ℕ) (place : List Form) : Type 0 where
  pub deep : length place ≡ depth
  pub over : HaveVariables c.vars place
  pub within : All (IsWithin (2 ^ 48)) place

-- Proofs were added for these systems, made from those of the systems that are told: where those refute their
-- systems, these refute theirs. They are Cuts and a Sum where those are light and the numbers small.
pub record AddsConverted (order : ℕ) (small : Type 0) (told own : List RowSystem)
    (from old new : List Proof) : Type 0 where
  pub added : List Proof
  pub is : new ≡ old ++ added
  pub refuted : AreRefuted told from → AreRefuted own added
  pub cuts : small → AreRefuted told from → All IsLightSum from → AreCutSums order own added

-- the system with one row behind the context's
abbrev pub last_system : Context → RowExpr → RowSystem
last_system c row = with_rows c (row ∷ [])

-- a place is outside a domain of these rows
abbrev pub outside_of : Context → List Form → List Form → List RowSystem
outside_of c rows place = map (λ row. last_system c (below_zero (at_place row place))) rows

-- a place writes another cell
abbrev pub differing : Context → List Form → List Form → List Form → List RowSystem
differing c writes reads place = map (last_system c) (differ_rows writes reads place)

-- a place is outside the domain, or writes another cell
abbrev pub outside_cell_systems : Occurrence → Occurrence → Context → List Form → List RowSystem
outside_cell_systems r w c place = outside_systems c w place ++ cell_systems r c w place

-- the places of its tests where no other tests are: 0, 1, 2 and so on
abbrev pub first_places : Strides → List ℕ
first_places s = range_with_len 0 (length (tests_of s))

-- the answer of the problem over quotients in a context
pub record IsToldTree (s : Strides) (places : List ℕ) (context : System) (tree : Tree)
    : Type 0 where
  pub w : Writes
  pub vars : w.vars ≡ context.vars
  pub read : asked_read w ≡ told_read context.vars places (read_of s) (write_of s)
  pub write : asked_write w ≡ told_write (write_of s)
  pub level : w.level ≡ s.level
  pub answer : IsAnswer w context 3584 tree
