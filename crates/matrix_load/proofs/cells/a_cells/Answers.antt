use Rattle.std.proofs.Common.{◌≡◌, ℤ, List, [], ◌∷◌, ◌++◌, ap, sym, ◌∙◌, arith, to_z, of_z, w64}
use Rattle.std.proofs.lemmas.Int.{ints}
use Rattle.std.proofs.lemmas.List.FromFn.{map-range_with_len_more}
use Rattle.matrix_load.specs.Cells.{a_cell}
use Rattle.matrix_load.proofs.cells.a_cells.Goals as goal

pub loop-number-preserved : goal.loop-number-preserved
loop-number-preserved c =
    let number = c.loop-number.number in
    let cell : to_z w64 (of_z w64 c.a_cell.result) ≡ c.a_cell.result = omega (arith, ints) in
    c.in_ok-push.ensures.ok
    ∙ ap (λ (value : ℤ). c.loop-number.list ++ value ∷ []) (cell ∙ c.a_cell.ensures)
    ∙ ap (λ (list : List ℤ). list ++ a_cell number ∷ []) c.loop-number.invariant
    ∙ sym (map-range_with_len_more a_cell 0 number number (omega arith))
