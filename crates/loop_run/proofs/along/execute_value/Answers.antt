use Rattle.std.proofs.Common.{◌≡◌, ◌+◌, ◌-ℤ◌, ℕ, length, refl, ap, ◌∙◌, arith, FitsSigned, length-append}
use Rattle.std.specs.Int.{w64}
use Rattle.std.proofs.lemmas.Int.{fits_signed_from_abs, to_z-of_z}
use Rattle.std.proofs.lemmas.Result.{on_ok_weaker}
use Rattle.cell_rows.specs.CellMap.{places_in}
use Rattle.cell_rows.specs.ShortAccesses.{statement_short}
use Rattle.cell_lines.proofs.LineCells.{if_some_from, lines_kept, statement_placed, turn_is_short}
use Rattle.loop_run.proofs.along.execute_value.Goals as goal
use Rattle.plain_data.proofs.Options.{IfSome-some}

pub execute_turn-requires-clause-short : goal.execute_turn-requires-clause-short
execute_turn-requires-clause-short c =
    let longer : length c.as_slice-values.result.now ≡ length c.args.at.now + 1 =
    ap length c.as_slice-values.ensures.value ∙ ap length c.set_last.ensures ∙ length-append c.args.at.now _ in
    ap (λ (depth : ℕ). statement_short depth c.args.statement.now) longer ∙ c.requires.short

pub execute_turn-requires-clause-placed : goal.execute_turn-requires-clause-placed
execute_turn-requires-clause-placed c =
    let f : FitsSigned w64 c.args.first = c.ranges.first in
    let g : FitsSigned w64 c.args.last = c.ranges.last in
    let h : FitsSigned w64 c.args.value = c.ranges.value in
    let along = IfSome-some _ c.args.lines.now c.in-Some.lines c.in-Some.is c.requires.lines in
    let short =
    turn_is_short
    (places_in c.args.cells.now) c.args.at.now c.args.first c.args.last c.args.value c.args.accesses.now c.in-Some.lines
    along c.requires.from c.requires.to in
    let fits : FitsSigned w64 (c.args.value -ℤ c.args.first) =
    fits_signed_from_abs w64 (c.args.value -ℤ c.args.first) (omega arith) in
    let longer = simp to_z-of_z at c.set_last.ensures in
    simp to_z-of_z
    (statement_placed
    (places_in c.args.cells.now) c.args.at.now c.as_slice-values.result.now c.args.first c.args.last c.args.value
    (c.args.value -ℤ c.args.first)
    c.args.accesses.now c.in-Some.lines along c.requires.from c.requires.to
    (c.as_slice-values.ensures.value ∙ longer) refl)

pub execute_statement-requires-clause-short : goal.execute_statement-requires-clause-short
execute_statement-requires-clause-short c =
    let longer : length c.as_slice-values.result.now ≡ length c.args.at.now + 1 =
    ap length c.as_slice-values.ensures.value ∙ ap length c.set_last.ensures ∙ length-append c.args.at.now _ in
    ap (λ (depth : ℕ). statement_short depth c.args.statement.now) longer ∙ c.requires.short

pub returns-in-Some-clause-lines : goal.returns-in-Some-clause-lines
returns-in-Some-clause-lines c =
    let along = IfSome-some _ c.args.lines.now c.in-Some.lines c.in-Some.is c.requires.lines in
    on_ok_weaker c.execute_turn.result
    (λ places. if_some_from _ c.args.lines.now c.in-Some.lines c.in-Some.is
    (lines_kept (places_in c.args.cells.now)
    (places_in c.execute_turn.new.cells) c.args.at.now c.args.first c.args.last c.args.accesses.now c.in-Some.lines
    places along))
    c.execute_turn.ensures.places
