-- The rows of a system and those that the steps of a proof added.
use Rattle.std.specs.Prelude.{List, [], ◌∷◌, ◌++◌}
use Rattle.affine_core.specs.declared.form.Form.{Form}
use Rattle.int_polyhedra.specs.declared.rows.Rows.{Rows}
use Rattle.int_polyhedra.specs.declared.rows.Rows.TheOpen.{Rows-F, Given, More}
use Rattle.int_polyhedra.specs.declared.rows.Rows.TheFolds.{fold-Rows}

abbrev pub rows_step : Rows-F (List Form) → List Form
rows_step (Given given) = given.now
rows_step (More above row) = above.now ++ row.now ∷ []

-- the rows of a chain, in the order of their numbers
abbrev pub rows_of : Rows → List Form
rows_of = fold-Rows (List Form) rows_step
