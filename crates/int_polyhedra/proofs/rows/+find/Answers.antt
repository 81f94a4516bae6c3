use Rattle.std.proofs.Common.{◌∙◌, ap, arith, length}
use Rattle.std.specs.Prelude.{slice_get}
use Rattle.std.proofs.lemmas.Option.{slice_get-get_or}
use Rattle.std.proofs.lemmas.List.{length_push}
use Rattle.int_polyhedra.specs.Chain.{rows_of}
use Rattle.int_polyhedra.proofs.RowsOf.{rows_of_more, rows_of_given}
use Rattle.int_polyhedra.proofs.rows.+find.Goals as goal
use Rattle.plain_data.proofs.Lists.{slice_get_push_at, slice_get-append_some}

pub returns-then-number-given : goal.returns-then-number-given
returns-then-number-given t c =
    ap (λ rows. slice_get (rows_of rows) c.args.number) c.in-Given.is
    ∙ ap (λ rows. slice_get rows c.args.number) (rows_of_given c.in-Given.given)
    ∙ slice_get-get_or c.in-Given.given.now c.args.number c.index-given-number.result c.if-number-given.true

pub returns-in-Ok : goal.returns-in-Ok
returns-in-Ok t c =
    ap (λ rows. slice_get (rows_of rows) c.args.number) c.in-More.is
    ∙ ap (λ rows. slice_get rows c.args.number) (rows_of_more c.in-More.above c.in-More.row)
    ∙ slice_get-append_some (rows_of c.in-More.above.now) _ c.args.number c.in-Ok.found.now c.in-Ok.ensures

pub returns-in-Err-eq0 : goal.returns-in-Err-eq0
returns-in-Err-eq0 t c =
    ap (λ rows. slice_get (rows_of rows) c.args.number) c.in-More.is
    ∙ ap (λ rows. slice_get rows c.args.number) (rows_of_more c.in-More.above c.in-More.row)
    ∙ slice_get_push_at (rows_of c.in-More.above.now) c.in-More.row.now c.args.number (omega (arith, c.in-Err-eq0.ensures))

pub returns-in-Err : goal.returns-in-Err
returns-in-Err t c =
    omega (
      arith,
      c.in-Err.ensures,
      ap (λ rows. length (rows_of rows)) c.in-More.is,
      ap length
          (rows_of_more c.in-More.above c.in-More.row),
      length_push (rows_of c.in-More.above.now) c.in-More.row.now,
    )
