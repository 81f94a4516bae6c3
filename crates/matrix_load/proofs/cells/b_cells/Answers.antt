use Rattle.std.proofs.Common.{◌≡◌, ℤ, List, [], ◌∷◌, ◌++◌, ap, sym, ◌∙◌, arith, to_z, of_z, w64}
use Rattle.std.proofs.lemmas.Int.{ints}
use Rattle.std.proofs.lemmas.List.FromFn.{map-range_with_len_more}
use Rattle.matrix_load.specs.Cells.{b_cell}
use Rattle.matrix_load.proofs.cells.b_cells.Goals as goal

pub loop-number-preserved : goal.loop-number-preserved
loop-number-preserved c =
    let number = c.loop-number.number in
    let cell : to_z w64 (of_z w64 c.b_cell.result) ≡ c.b_cell.result = omega (arith, ints) in
    c.in_ok-push.ensures.ok
    ∙ ap (λ (value : ℤ). c.loop-number.list ++ value ∷ []) (cell ∙ c.b_cell.ensures)
    ∙ ap (λ (list : List ℤ). list ++ b_cell number ∷ []) c.loop-number.invariant
    ∙ sym (map-range_with_len_more b_cell 0 number number (omega arith))
