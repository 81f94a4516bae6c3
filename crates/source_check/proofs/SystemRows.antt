-- The steps of the code make the rows of a system, one after the other.
--
-- A form that can't be made is none, and so is what is made of it; a system is none from the first row on that is none.
-- So rows that are added to a system one by one give what is made of the rows before followed by these, and none
-- exactly where one of all these rows can't be made. What was made is over all variables. The rows of the code are
-- those of the systems since its sums and multiples come in the order in which the rows are written.
use Rattle.std.proofs.Common.{◌≡◌, ℕ, ℤ, negsuc, List, [], ◌∷◌, ◌++◌, length, Bool, true}
use Rattle.std.proofs.Common.{false, cond, refl, sym, ap, ◌∙◌, subst, append_assoc}
use Rattle.std.specs.Prelude.{Option, Some, None}
use Rattle.std.specs.Option.{option_and_then, option_map}
use Rattle.std.proofs.lemmas.Option.{same_Some}
use Rattle.std.proofs.lemmas.List.{append-nil}
use Rattle.affine_core.specs.declared.form.Form.{Form}
use Rattle.affine_core.specs.Affine.{form_sum, constant_form}
use Rattle.affine_core.specs.Within.{form_fits_128_bits, form_in_128_bits}
use Rattle.affine_core.proofs.Linear.{length-sums}
use Rattle.int_polyhedra.specs.declared.system.System.{System}
use Rattle.int_polyhedra.proofs.Variables.{over_more}
use Rattle.source_check.specs.Making.{with_terms, plus_of, one_less_of, below_zero_of, less_of, system_with}
use Rattle.source_check.specs.Making.{system_with_all, forms_of, IsMadeOver, FormIsOver}
use Rattle.source_check.specs.Verdict.{made_system}
use Rattle.source_check.proofs.RowValues.{made_is, all_made_is}
use Rattle.source_tree.specs.Places.{plus_terms, at_place}
use Rattle.source_tree.specs.Rows.{RowExpr, Take, Plus, Times, row_form, row_forms, number, below_zero, minus, one_less}
use Rattle.source_tree.proofs.RowLists.{row_form-number}

-- the terms are added one after the other
with_terms_made : (vars : ℕ) (e : RowExpr) (cs : List ℤ) (place : List Form)
    → with_terms vars (row_form vars e) cs place ≡ row_form vars (plus_terms e cs place)
with_terms_made vars e [] place = refl
with_terms_made vars e (c ∷ cs) [] = refl
with_terms_made vars e (c ∷ cs) (form ∷ place) = with_terms_made vars (Plus e (Times c (Take form))) cs place

pub at_place_made : (vars : ℕ) (row : Form) (place : List Form)
    → with_terms vars (Some (constant_form vars row.constant)) row.coefs place ≡ row_form vars (at_place row place)
at_place_made vars row place =
    ap (λ o. with_terms vars o row.coefs place) (sym (row_form-number vars row.constant))
    ∙ with_terms_made vars (number row.constant) row.coefs place

-- the sums and multiples of the code are those of the rows
pub at_place_is : (vars : ℕ) (k : ℤ) (row : Form) (place : List Form) (cs : List ℤ) (first end : Option Form)
    → first ≡ Some (constant_form vars k) → cs ≡ row.coefs
    → end ≡ with_terms vars first cs place → k ≡ row.constant → end ≡ row_form vars (at_place row place)
at_place_is vars k row place cs first end first_is cs_is end_is k_is =
    end_is ∙ ap (λ f. with_terms vars f cs place) (first_is ∙ ap (λ k. Some (constant_form vars k)) k_is)
    ∙ ap (λ cs. with_terms vars (Some (constant_form vars row.constant)) cs place) cs_is ∙ at_place_made vars row place

pub one_less_made : (vars : ℕ) (e : RowExpr) → row_form vars (one_less e) ≡ one_less_of vars (row_form vars e)
one_less_made vars e = ap (plus_of (row_form vars e)) (row_form-number vars (negsuc 0))

pub below_zero_made : (vars : ℕ) (e : RowExpr) → row_form vars (below_zero e) ≡ below_zero_of vars (row_form vars e)
below_zero_made vars e = one_less_made vars (Times (negsuc 0) e)

pub less_made : (vars : ℕ) (least most : RowExpr)
    → row_form vars (one_less (minus most least)) ≡ less_of vars (row_form vars least) (row_form vars most)
less_made vars least most = one_less_made vars (minus most least)

-- forms over so many variables give such a form
in_bits_over : (vars : ℕ) (f : Form) → length f.coefs ≡ vars → FormIsOver vars (form_in_128_bits f)
in_bits_over vars f h = go (form_fits_128_bits f) where
  go : (b : Bool) → FormIsOver vars (cond b (Some f) None)
  go true = h
  go false = tt

pub plus_over : (vars : ℕ) (a b : Option Form) → FormIsOver vars a → FormIsOver vars b → FormIsOver vars (plus_of a b)
plus_over vars None b h k = tt
plus_over vars (Some f) None h k = tt
plus_over vars (Some f) (Some g) h k = in_bits_over vars (form_sum f g) (length-sums f.coefs g.coefs (h ∙ sym k) ∙ h)

pub system_with_over : (vars : ℕ) (s : Option System) (row : Option Form) → IsMadeOver vars s → FormIsOver vars row
    → IsMadeOver vars (system_with s row)
system_with_over vars None row h k = tt
system_with_over vars (Some s) None h k = tt
system_with_over vars (Some s) (Some f) h k = (h.0, over_more vars s.rows f h.1 k)

-- what was made is over all variables
pub form_over : (vars : ℕ) (e : RowExpr) (o : Option Form) → o ≡ row_form vars e → FormIsOver vars o
form_over vars e None is = tt
form_over vars e (Some f) is = (made_is vars e f (sym is)).over

pub system_over : (vars : ℕ) (es : List RowExpr) (o : Option System) → o ≡ made_system vars es → IsMadeOver vars o
system_over vars es None is = tt
system_over vars es (Some s) is = go (row_forms vars es) refl is where
  go : (o : Option (List Form)) → row_forms vars es ≡ o
      → Some s ≡ option_map (λ forms. record { vars = vars; rows = forms }) o → IsMadeOver vars (Some s)
  go None made e = absurd (let f : Some s ≡ None = e in cc)
  go (Some rows) made e =
      let same : record { vars = vars; rows = rows } ≡ s = same_Some (record { vars = vars; rows = rows }) s (sym e) in
      subst (λ (s : System). IsMadeOver vars (Some s)) same (refl, (all_made_is vars es rows made).0)

pub system_all_over : (vars : ℕ) (s : Option System) (rows : List RowExpr) → IsMadeOver vars s
    → IsMadeOver vars (system_with_all s (forms_of vars rows))
system_all_over vars s [] h = h
system_all_over vars s (row ∷ rows) h =
    system_all_over vars (system_with s (row_form vars row)) rows
    (system_with_over vars s (row_form vars row) h (form_over vars row (row_form vars row) refl))

-- one more row, made after the others
forms_more : (vars : ℕ) (es : List RowExpr) (e : RowExpr)
    → row_forms vars (es ++ e ∷ [])
    ≡ option_and_then (λ rows. option_map (λ row. rows ++ row ∷ []) (row_form vars e)) (row_forms vars es)
forms_more vars [] e = one (row_form vars e) where
  one : (o : Option Form)
      → option_and_then (λ row. option_and_then (λ (rest : List Form). Some (row ∷ rest)) (Some [])) o
      ≡ option_map (λ (row : Form). [] ++ row ∷ []) o
  one None = refl
  one (Some row) = refl
forms_more vars (x ∷ es) e =
    ap (λ rest. option_and_then (λ row. option_and_then (λ rest. Some (row ∷ rest)) rest) (row_form vars x))
    (forms_more vars es e)
    ∙ swap (row_form vars x) (row_forms vars es) (row_form vars e) where
      swap : (first : Option Form) (rest : Option (List Form)) (last : Option Form)
          → option_and_then
          (λ row. option_and_then (λ rest. Some (row ∷ rest))
          (option_and_then (λ rows. option_map (λ row. rows ++ row ∷ []) last) rest)) first
          ≡ option_and_then (λ rows. option_map (λ row. rows ++ row ∷ []) last)
          (option_and_then (λ row. option_and_then (λ rest. Some (row ∷ rest)) rest) first)
      swap None rest last = refl
      swap (Some row) None last = refl
      swap (Some row) (Some rest) None = refl
      swap (Some row) (Some rest) (Some r) = refl

pub system_more : (vars : ℕ) (es : List RowExpr) (e : RowExpr)
    → system_with (made_system vars es) (row_form vars e) ≡ made_system vars (es ++ e ∷ [])
system_more vars es e =
    go (row_forms vars es) (row_form vars e)
    ∙ ap (option_map (λ forms. record { vars = vars; rows = forms })) (sym (forms_more vars es e)) where
      go : (o : Option (List Form)) (row : Option Form)
          → system_with (option_map (λ forms. record { vars = vars; rows = forms }) o) row
          ≡ option_map (λ forms. record { vars = vars; rows = forms })
          (option_and_then (λ rows. option_map (λ row. rows ++ row ∷ []) row) o)
      go None row = refl
      go (Some rows) None = refl
      go (Some rows) (Some row) = refl

-- more rows, made in order
pub system_all : (vars : ℕ) (es rows : List RowExpr)
    → system_with_all (made_system vars es) (forms_of vars rows) ≡ made_system vars (es ++ rows)
system_all vars es [] = ap (made_system vars) (sym (append-nil es))
system_all vars es (row ∷ rows) =
    ap (λ s. system_with_all s (forms_of vars rows)) (system_more vars es row)
    ∙ system_all vars (es ++ row ∷ []) rows ∙ ap (made_system vars) (append_assoc es (row ∷ []) rows)
