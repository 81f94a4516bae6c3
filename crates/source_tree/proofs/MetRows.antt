-- Rows that a point meets, before they are made: those of equal values and of a cell.
use Rattle.std.proofs.Common.{◌≡◌, ◌∙◌, ℤ, pos, ◌≤ℤ◌, List, [], ◌∷◌, ◌++◌, arith}
use Rattle.std.proofs.lemmas.Int.{ints}
use Rattle.affine_core.specs.declared.form.Form.{Form}
use Rattle.affine_core.specs.Affine.{form_at}
use Rattle.plain_data.proofs.Lists.{same_head, same_tail}
use Rattle.source_tree.specs.Gives.{values}
use Rattle.source_tree.specs.Places.{at_place, cell_rows}
use Rattle.source_tree.specs.Rows.{RowExpr, Take, equal_rows, row_at}
use Rattle.source_tree.proofs.Gives.{row_at-at_place}

-- every row is at least 0
abbrev pub AreMet : List RowExpr → List ℤ → Type 0
AreMet [] at = Unit {0}
AreMet (e ∷ es) at = (pos 0 ≤ℤ row_at e at) × AreMet es at

pub AreMet-append : (xs ys : List RowExpr) (at : List ℤ) → AreMet xs at → AreMet ys at → AreMet (xs ++ ys) at
AreMet-append [] ys at h k = k
AreMet-append (x ∷ xs) ys at h k = (h.0, AreMet-append xs ys at h.1 k)

pub AreMet-equal_rows : (a b : RowExpr) (at : List ℤ) → row_at a at ≡ row_at b at → AreMet (equal_rows a b) at
AreMet-equal_rows a b at e = (omega (arith, ints, e), (omega (arith, ints, e), tt))

pub AreMet-cell_rows : (writes reads place : List Form) (at : List ℤ) → values writes (values place at) ≡ values reads at
    → AreMet (cell_rows writes reads place) at
AreMet-cell_rows [] reads place at e = tt
AreMet-cell_rows (w ∷ writes) [] place at e = tt
AreMet-cell_rows (w ∷ writes) (r ∷ reads) place at e =
    let h = same_head (form_at w (values place at)) (form_at r at) (values writes (values place at)) (values reads at) e
    in
    AreMet-append (equal_rows (at_place w place) (Take r)) (cell_rows writes reads place) at
    (AreMet-equal_rows (at_place w place) (Take r) at (row_at-at_place w place at ∙ h))
    (AreMet-cell_rows writes reads place at
    (same_tail (form_at w (values place at)) (form_at r at) (values writes (values place at)) (values reads at) e))
