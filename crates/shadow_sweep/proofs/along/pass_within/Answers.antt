use Rattle.std.proofs.Common.{◌-ℤ◌, refl, arith, FitsSigned}
use Rattle.std.specs.Int.{w64}
use Rattle.std.proofs.lemmas.Int.{fits_signed_from_abs, to_z-of_z}
use Rattle.cell_rows.specs.CellMap.{places_in}
use Rattle.cell_rows.proofs.FormSums.{small_size}
use Rattle.cell_lines.proofs.LineCells.{statement_placed, turn_is_short}
use Rattle.plain_data.proofs.Options.{IfSome-some}
use Rattle.shadow_sweep.proofs.along.pass_within.Goals as goal

pub pass_turn-requires-clause-placed : goal.pass_turn-requires-clause-placed
pass_turn-requires-clause-placed c =
    let s = c.args.stretch.now in
    let h : FitsSigned w64 c.args.value = c.ranges.value in
    let along = IfSome-some _ s.lines c.in-Some.lines c.in-Some.is c.requires.known in
    let g : FitsSigned w64 s.first =
    fits_signed_from_abs w64 s.first (omega (arith, small_size s.first along.first_small)) in
    let short =
    turn_is_short
    (places_in c.args.cells.now) s.outer s.first s.last c.args.value c.args.accesses.now c.in-Some.lines
    along c.requires.from c.requires.to in
    let fits : FitsSigned w64 (c.args.value -ℤ s.first) =
    fits_signed_from_abs w64 (c.args.value -ℤ s.first) (omega arith) in
    simp to_z-of_z
    (statement_placed
    (places_in c.args.cells.now) s.outer c.args.at.now s.first s.last c.args.value (c.args.value -ℤ s.first)
    c.args.accesses.now c.in-Some.lines along c.requires.from c.requires.to c.requires.inner refl)
