-- The values of rows.
--
-- A row is read over whole numbers: its value at the values of the variables. Variables behind those of its forms
-- change nothing, so that a context's rows hold on as variables are added. A form at a place has the form's value at
-- the values of the place, and so the rows about a place hold where what they say holds of that iteration vector.
use Rattle.std.proofs.Common.{◌≡◌, ◌+◌, ◌≤◌, ℕ, ℤ, pos, ◌+ℤ◌, ◌*ℤ◌, ◌≤ℤ◌, List, [], ◌∷◌, ◌++◌, length, map}
use Rattle.std.proofs.Common.{refl, sym, ap, ◌∙◌, subst, arith}
use Rattle.std.proofs.lemmas.List.{get_or_at}
use Rattle.affine_core.specs.declared.form.Form.{Form}
use Rattle.affine_core.specs.Affine.{form_at, variable_form}
use Rattle.affine_core.proofs.Linear.{form_at_more, variable_at}
use Rattle.plain_data.proofs.Lists.{same_head, same_tail}
use Rattle.sanlp.proofs.Each.{Each}
use Rattle.source_tree.specs.Gives.{values}
use Rattle.source_tree.specs.Places.{domain_rows, same_rows}
use Rattle.source_tree.specs.Rows.{RowExpr, Take, Plus, Times, row_at, equal_rows}
use Rattle.source_tree.proofs.Gives.{row_at-at_place}
use Rattle.source_tree.proofs.MetRows.{AreMet, AreMet-append, AreMet-equal_rows}

-- no form of the row has more variables
abbrev pub IsWithin : ℕ → RowExpr → Type 0
IsWithin vars (Take form) = length form.coefs ≤ vars
IsWithin vars (Plus a b) = IsWithin vars a × IsWithin vars b
IsWithin vars (Times k e) = IsWithin vars e

abbrev pub AreWithin : ℕ → List RowExpr → Type 0
AreWithin vars [] = Unit {0}
AreWithin vars (e ∷ es) = IsWithin vars e × AreWithin vars es

-- no form has more variables
abbrev pub AreShort : ℕ → List Form → Type 0
AreShort vars forms = Each (λ (form : Form). length form.coefs ≤ vars) forms

-- every form is at least 0
abbrev pub AllHold : List Form → List ℤ → Type 0
AllHold [] at = Unit {0}
AllHold (row ∷ rows) at = (pos 0 ≤ℤ form_at row at) × AllHold rows at

pub row_at_more : (e : RowExpr) (v w : List ℤ) → IsWithin (length v) e → row_at e (v ++ w) ≡ row_at e v
row_at_more (Take form) v w h = form_at_more form v w h
row_at_more (Plus a b) v w h =
    ap (λ z. z +ℤ row_at b (v ++ w)) (row_at_more a v w h.0) ∙ ap (λ z. row_at a v +ℤ z) (row_at_more b v w h.1)
row_at_more (Times k e) v w h = ap (λ z. k *ℤ z) (row_at_more e v w h)

pub met_more : (es : List RowExpr) (v w : List ℤ) → AreWithin (length v) es → AreMet es v → AreMet es (v ++ w)
met_more [] v w h m = tt
met_more (e ∷ es) v w h m = (subst (λ z. pos 0 ≤ℤ z) (sym (row_at_more e v w h.0)) m.0, met_more es v w h.1 m.1)

pub within_append : (vars : ℕ) (xs ys : List RowExpr) → AreWithin vars xs → AreWithin vars ys
    → AreWithin vars (xs ++ ys)
within_append vars [] ys h k = k
within_append vars (x ∷ xs) ys h k = (h.0, within_append vars xs ys h.1 k)

within_wider : (m n : ℕ) → m ≤ n → (e : RowExpr) → IsWithin m e → IsWithin n e
within_wider m n l (Take form) h = omega arith
within_wider m n l (Plus a b) h = (within_wider m n l a h.0, within_wider m n l b h.1)
within_wider m n l (Times k e) h = within_wider m n l e h

pub all_within_wider : (m n : ℕ) → m ≤ n → (es : List RowExpr) → AreWithin m es → AreWithin n es
all_within_wider m n l [] h = tt
all_within_wider m n l (e ∷ es) h = (within_wider m n l e h.0, all_within_wider m n l es h.1)

pub values_more : (fs : List Form) (v w : List ℤ) → AreShort (length v) fs → values fs (v ++ w) ≡ values fs v
values_more [] v w h = refl
values_more (f ∷ fs) v w h =
    ap (λ z. z ∷ values fs (v ++ w)) (form_at_more f v w h.0) ∙ ap (λ zs. form_at f v ∷ zs) (values_more fs v w h.1)

-- a variable's value
pub one_variable_at : (i : ℕ) (before : List ℤ) (x : ℤ) (after : List ℤ) → i ≡ length before
    → form_at (variable_form (i + 1) i) (before ++ x ∷ after) ≡ x
one_variable_at i before x after e = variable_at (i + 1) i (before ++ x ∷ after) ∙ get_or_at before x after (pos 0) i (sym e)

pub domain_met : (rows : List Form) (place : List Form) (at : List ℤ) → AllHold rows (values place at)
    → AreMet (domain_rows rows place) at
domain_met [] place at h = tt
domain_met (row ∷ rows) place at h =
    (subst (λ z. pos 0 ≤ℤ z) (sym (row_at-at_place row place at)) h.0, domain_met rows place at h.1)

pub taken_met : (rows : List Form) (at : List ℤ) → AllHold rows at → AreMet (map Take rows) at
taken_met [] at h = tt
taken_met (row ∷ rows) at h = (h.0, taken_met rows at h.1)

pub taken_within : (vars : ℕ) (rows : List Form) → AreShort vars rows → AreWithin vars (map Take rows)
taken_within vars [] h = tt
taken_within vars (row ∷ rows) h = (h.0, taken_within vars rows h.1)

pub same_met : (a b : List Form) (at : List ℤ) → values a at ≡ values b at → AreMet (same_rows a b) at
same_met [] b at e = tt
same_met (a ∷ fs) [] at e = tt
same_met (a ∷ fs) (b ∷ gs) at e =
    AreMet-append (equal_rows (Take a) (Take b)) (same_rows fs gs) at
    (AreMet-equal_rows (Take a) (Take b) at (same_head (form_at a at) (form_at b at) (values fs at) (values gs at) e))
    (same_met fs gs at (same_tail (form_at a at) (form_at b at) (values fs at) (values gs at) e))
