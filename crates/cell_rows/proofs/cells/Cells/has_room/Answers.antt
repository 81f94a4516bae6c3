use Rattle.std.proofs.Common.{◌≤◌, ◌∙◌, sym, ap, length, arith}
use Rattle.std.proofs.lemmas.Bool.{ltb-false}
use Rattle.cell_rows.specs.Rows.{kept_at}
use Rattle.cell_rows.proofs.CellPlaces.{past_rows, no_rows}
use Rattle.cell_rows.proofs.cells.Cells.has_room.Goals as goal

pub returns-in-Some-clause-full : goal.returns-in-Some-clause-full
returns-in-Some-clause-full g c =
    let lookup = c.in-Some.ensures.lookup in
    λ h.
    let past = ltb-false c.args.place c.saturating_add.result h in
    let within : length c.in-Some.rows.now.values ≤ c.args.place =
    omega (arith, past, c.saturating_add.ensures, c.len.ensures, c.len.type_inv) in
    ap (λ list. kept_at list c.args.array c.args.place) (sym c.deref.ensures.value)
    ∙ past_rows c.deref.result.now c.args.array c.args.place c.in-Some.rows.now lookup.3.0 lookup.1 within

pub returns-in-None-clause-full : goal.returns-in-None-clause-full
returns-in-None-clause-full g c =
    λ h.
    ap (λ list. kept_at list c.args.array c.args.place) (sym c.deref.ensures.value)
    ∙ no_rows c.deref.result.now c.args.array c.args.place c.in-None.ensures.lookup.3
