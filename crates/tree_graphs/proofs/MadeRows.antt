-- The rows of a Test, as they are made.
--
-- A row is made of an expression over a context's variables, by widening and by sums in 128 bits. A form over just
-- these variables is made as it is, since nothing is widened, and its opposite is made as `negation` makes it. So
-- a context that is made as some rows and has a Test's row behind is made as these rows and that one. Nothing is
-- said of forms over fewer variables, whose rows are longer than they.
use Rattle.std.proofs.Common.{◌≡◌, ◌-◌, ◌^◌, ◌≤◌, ◌==◌, ℕ, pos, negsuc, List, [], ◌∷◌, ◌++◌}
use Rattle.std.proofs.Common.{length, map, replicate, true, cond, eqb-true, refl, sym, ap, ◌∙◌, arith}
use Rattle.std.specs.Prelude.{Some, None, All}
use Rattle.std.specs.List.{list_all}
use Rattle.std.specs.Option.{option_and_then}
use Rattle.std.proofs.lemmas.Bool.{le-leb, eq-eqb, and_parts, and_from}
use Rattle.std.proofs.lemmas.List.{append-nil}
use Rattle.std.proofs.lemmas.List.Elements.{All-nil, All-cons}
use Rattle.affine_core.specs.declared.form.Form.{Form}
use Rattle.affine_core.specs.Affine.{constant_form, form_product, form_sum, widened_form}
use Rattle.affine_core.specs.Within.{form_in_128_bits}
use Rattle.tree_graphs.proofs.ProblemBounds.{form_is, FormFits}
use Rattle.tree_graphs.proofs.RowBounds.{forms_append}
use Rattle.int_polyhedra.specs.Steps.{negation_of}
use Rattle.int_polyhedra.specs.Systems.{all_over, AreOver}
use Rattle.tree_sums.specs.Parts.{IsWithin}
use Rattle.tree_sums.proofs.Within.{IsWithin-weaker}
use Rattle.sanlp.specs.WellFormed.{form_fits}
use Rattle.source_tree.specs.Rows.{RowExpr, Take, below_zero, number, row_form, row_forms}
use Rattle.source_tree.specs.Systems.{Context}
use Rattle.source_tree.proofs.RowLists.{row_form-number}

pub widened_same : (vars : ℕ) (f : Form) → length f.coefs ≡ vars → widened_form vars f ≡ f
widened_same vars f e =
    let none : vars - length f.coefs ≡ 0 = omega (arith, e) in
    ap (λ n. record f { coefs = f.coefs ++ replicate n (pos 0) }) none
    ∙ ap (λ cs. record f { coefs = cs }) (append-nil f.coefs)

pub taken_made : (vars : ℕ) (f : Form) → length f.coefs ≡ vars → row_form vars (Take f) ≡ Some f
taken_made vars f e =
    let le : length f.coefs ≤ vars = omega (arith, e) in
    ap (λ b. cond b (Some (widened_form vars f)) None) (le-leb (length f.coefs) vars le)
    ∙ ap Some (widened_same vars f e)

pub opposite_made : (vars : ℕ) (f other : Form) → length f.coefs ≡ vars → negation_of f ≡ Some other
    → row_form vars (below_zero (Take f)) ≡ Some other
opposite_made vars f other e is =
    ap (λ o. option_and_then
    (λ left. option_and_then (λ right. form_in_128_bits (form_sum left right)) (row_form vars (number (negsuc 0))))
    (option_and_then (λ form. form_in_128_bits (form_product (negsuc 0) form)) o)) (taken_made vars f e)
    ∙ ap (λ o. option_and_then (λ left. option_and_then (λ right. form_in_128_bits (form_sum left right)) o)
    (form_in_128_bits (form_product (negsuc 0) f))) (row_form-number vars (negsuc 0))
    ∙ ap (λ n. option_and_then (λ left. form_in_128_bits (form_sum left (constant_form n (negsuc 0))))
    (form_in_128_bits (form_product (negsuc 0) f))) (sym e)
    ∙ is

one_form : (vars : ℕ) (e : RowExpr) (f : Form) → row_form vars e ≡ Some f → row_forms vars (e ∷ []) ≡ Some (f ∷ [])
one_form vars e f is = ap (option_and_then (λ row. option_and_then (λ rest. Some (row ∷ rest)) (Some []))) is

pub taken_all : (vars : ℕ) (rows : List Form) → AreOver vars rows → row_forms vars (map Take rows) ≡ Some rows
taken_all vars [] h = refl
taken_all vars (row ∷ rows) h =
    let b = and_parts (length row.coefs == vars) (all_over vars rows) h in
    ap (option_and_then (λ row. option_and_then (λ rest. Some (row ∷ rest)) (row_forms vars (map Take rows))))
    (taken_made vars row (eqb-true (length row.coefs) vars b.0))
    ∙ ap (option_and_then (λ rest. Some (row ∷ rest))) (taken_all vars rows b.1)

pub more_made : (c : Context) (rows : List Form) (e : RowExpr) (f : Form) → row_forms c.vars c.rows ≡ Some rows
    → row_form c.vars e ≡ Some f → row_forms c.vars (c.rows ++ e ∷ []) ≡ Some (rows ++ f ∷ [])
more_made c rows e f is one = forms_append c.vars c.rows (e ∷ []) rows (f ∷ []) is (one_form c.vars e f one)

-- the rows of a statement, as they are made
pub record AreRoot (depth : ℕ) (rows : List Form) : Type 0 where
  pub made : row_forms depth (map Take rows) ≡ Some rows
  pub over : AreOver depth rows
  pub within : All (IsWithin (2 ^ 41)) rows

pub are_root : (depth : ℕ) (rows : List Form) → list_all (form_fits depth) rows ≡ true → AreRoot depth rows
are_root depth [] e = record { made = refl; over = refl; within = All-nil _ }
are_root depth (row ∷ rows) e =
    let b = and_parts (form_fits depth row) (list_all (form_fits depth) rows) e in
    let f : FormFits depth row = form_is depth row b.0 in
    let rest : AreRoot depth rows = are_root depth rows b.1 in
    record {
      made = ap (option_and_then (λ row. option_and_then (λ rest. Some (row ∷ rest)) (row_forms depth (map Take rows))))
          (taken_made depth row f.over)
          ∙ ap (option_and_then (λ rest. Some (row ∷ rest))) rest.made;
      over = and_from (length row.coefs == depth) (all_over depth rows)
          (eq-eqb (length row.coefs) depth f.over) rest.over;
      within = All-cons (IsWithin (2 ^ 41)) row rows (IsWithin-weaker (2 ^ 32) (2 ^ 41) row (omega arith) f.within) rest.within;
    }
