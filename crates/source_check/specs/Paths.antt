-- The context of a part of a tree, from the tests on the way to it.
use Rattle.std.specs.Prelude.{◌≡◌, ◌≤◌, ℕ, ℤ, Bool, List, [], ◌∷◌, ◌++◌, map, length, if◌then◌else◌}
use Rattle.std.specs.List.{flat_map}
use Rattle.affine_core.specs.declared.form.Form.{Form}
use Rattle.sanlp.specs.declared.nest.Statement.{Statement}
use Rattle.source_check.specs.declared.path.Path.{Path}
use Rattle.source_check.specs.declared.path.Path.TheOpen.{Path-F, Root, Test, Divides}
use Rattle.source_check.specs.declared.path.Path.TheFolds.{fold-Path}
use Rattle.source_check.specs.declared.reference.After.{After}
use Rattle.source_check.specs.declared.reference.After.TheVariants.{Nothing, Point}
use Rattle.source_check.specs.declared.reference.Read.{Read}
use Rattle.source_tree.specs.declared.reference.Reference.{Reference}
use Rattle.source_check.specs.declared.tested.Leaf.{Leaf}
use Rattle.source_tree.specs.Places.{before_rows}
use Rattle.source_tree.specs.Rows.{RowExpr, RowSystem, Take, below_zero}
use Rattle.source_tree.specs.Systems.{Occurrence, Context, every, writes_from, reader_place, writer_place, write_systems, divided_rows, undivided_rows, outside_systems, cell_systems, after_systems}
use Rattle.source_tree.specs.References.{occurrence_of}

-- the rows of a Test, and those of a Divides whose quotient is variable q
abbrev pub test_rows : Form → Bool → List RowExpr
test_rows form answer = if answer then Take form ∷ [] else below_zero (Take form) ∷ []

abbrev pub quotient_rows : ℕ → Form → ℤ → Bool → List RowExpr
quotient_rows q form d answer = if answer then divided_rows q form d else undivided_rows q form d

abbrev pub path_step : List Form → Path-F (List RowExpr) → List RowExpr
path_step reader Root = map Take reader
path_step reader (Test above form answer) = above.now ++ test_rows form.now answer
path_step reader (Divides above form d q answer) = above.now ++ quotient_rows q form.now d answer

-- the rows of the context at the end of a path, for a reader with these domain rows
abbrev pub path_rows : List Form → Path → List RowExpr
path_rows reader = fold-Path (List RowExpr) (path_step reader)

-- the context at the end of a path, over so many variables
abbrev pub context_of : Reference → ℕ → Path → Context
context_of r vars path = record { vars = vars; rows = path_rows r.statement.now.rows path }

-- the context of a leaf
abbrev pub context_at : Read → Leaf → Context
context_at r leaf = context_of r.reference leaf.vars leaf.path.now

-- a read of a statement of at most 6 loops, with the place of these loops
pub record IsRead (r : Read) : Type 0 where
  pub short : length r.reference.statement.now.loops ≤ 6
  pub place : r.place.now ≡ reader_place (occurrence_of r.reference)

-- what is asked further of a write before the read
abbrev pub further_rows : Context → After → Occurrence → List (List RowExpr)
further_rows c Nothing u = [] ∷ []
further_rows c (Point named place) u =
    before_rows named.now.number named.now.statement.now place.now u.number u.statement
    (writer_place c u)

-- the systems of the writes of these statements before the read; the first statement has number u
abbrev pub writes_before : Occurrence → Context → After → ℕ → List Statement → List RowSystem
writes_before r c after u statements =
    flat_map (write_systems r every c (further_rows c after))
    (writes_from r.access.array u statements)

-- the systems of a Writer leaf but those of a write between
abbrev pub map_systems : Occurrence → Context → Occurrence → List Form → List RowSystem
map_systems r c w place =
    outside_systems c w place ++ (cell_systems r c w place ++ after_systems r c w place)
