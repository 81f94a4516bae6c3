-- The rows of a chain, and rows by number.
use Rattle.std.proofs.Common.{◌≡◌, List, [], ◌∷◌, ◌++◌, sym, ap, ◌∙◌, Bor}
use Rattle.affine_core.specs.declared.form.Form.{Form}
use Rattle.int_polyhedra.specs.declared.rows.Rows.TheOpen as layer
use Rattle.int_polyhedra.specs.declared.rows.Rows.{Rows}
use Rattle.int_polyhedra.specs.declared.rows.Rows.TheViews.{More, rolls-More, rolls-Given}
use Rattle.int_polyhedra.specs.declared.rows.Rows.TheVariants.{Given}
use Rattle.int_polyhedra.specs.declared.rows.Rows.TheFolds.{fold-roll-Rows}
use Rattle.int_polyhedra.specs.Chain.{rows_of, rows_step}

pub rows_of_more : (above : Bor Rows) (row : Bor Form) → rows_of (More above row) ≡ rows_of above.now ++ row.now ∷ []
rows_of_more above row =
    ap rows_of (sym (rolls-More above row)) ∙ fold-roll-Rows (List Form) rows_step (layer.More above row)

pub rows_of_given : (given : Bor (List Form)) → rows_of (Given given) ≡ given.now
rows_of_given given = ap rows_of (sym (rolls-Given given)) ∙ fold-roll-Rows (List Form) rows_step (layer.Given given)
