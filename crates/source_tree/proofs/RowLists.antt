-- How many rows there are of a domain and of cells, the row of a number, and forms that are over their variables.
use Rattle.std.proofs.Common.{◌≡◌, ◌==◌, ◌-◌, ◌*◌, ◌≤◌, ℕ, suc, ℤ, pos, List, [], ◌∷◌, length, replicate, true, cond}
use Rattle.std.proofs.Common.{refl, ap, ◌∙◌, arith, le-leb, eq-eqb}
use Rattle.std.specs.Prelude.{Some, None}
use Rattle.std.proofs.lemmas.Bool.{and_from}
use Rattle.std.proofs.lemmas.List.Elements.{All-head, All-tail}
use Rattle.affine_core.specs.declared.form.Form.{Form}
use Rattle.affine_core.specs.Affine.{constant_form, widened_form}
use Rattle.source_tree.specs.Checked.{HaveVariables}
use Rattle.source_tree.specs.Places.{cell_rows, domain_rows}
use Rattle.source_tree.specs.Rows.{number, row_form}
use Rattle.source_tree.specs.Walk.{are_over}

pub length-domain_rows : (rows place : List Form) → length (domain_rows rows place) ≡ length rows
length-domain_rows [] place = refl
length-domain_rows (row ∷ rows) place = ap suc (length-domain_rows rows place)

pub length-cell_rows : (writes reads place : List Form) → length writes ≡ length reads
    → length (cell_rows writes reads place) ≡ 2 * length writes
length-cell_rows [] reads place e = refl
length-cell_rows (write ∷ writes) [] place e = absurd (omega arith)
length-cell_rows (write ∷ writes) (read ∷ reads) place e =
    omega (arith, length-cell_rows writes reads place (omega (arith, e)))

pub row_form-number : (vars : ℕ) (k : ℤ) → row_form vars (number k) ≡ Some (constant_form vars k)
row_form-number vars k =
    let le : 0 ≤ vars = omega arith in
    let m : vars - 0 ≡ vars = omega arith in
    ap (λ b. cond b (Some (widened_form vars (record { constant = k; coefs = [] }))) None) (le-leb 0 vars le)
    ∙ ap (λ n. Some (record { constant = k; coefs = replicate n (pos 0) })) m

pub are_over-HaveVariables : (vars : ℕ) (forms : List Form) → HaveVariables vars forms → are_over vars forms ≡ true
are_over-HaveVariables vars [] h = refl
are_over-HaveVariables vars (f ∷ forms) h =
    and_from (length f.coefs == vars) (are_over vars forms)
    (eq-eqb (length f.coefs) vars (All-head (λ form. length form.coefs ≡ vars) f forms h))
    (are_over-HaveVariables vars forms (All-tail (λ form. length form.coefs ≡ vars) f forms h))
