-- What each kind of tree gives at a point, and what the forms of a place are there.
--
-- What a tree gives is a fold whose result is a function of the point, so each lemma of the first part is the fold's
-- step at one kind of tree, asked at a point: a Divides asks its trees at the point with the quotient behind it. None
-- of them is an induction. Those about places are, over the list: the forms of the variables are told of those in the
-- middle of a point, since each turn moves one from the middle to the front, and a row at a place is told from whatever
-- sum came before. Where a place has too few forms for the coefficients, both sides stop with it, so nothing is asked
-- of their lengths.
use Rattle.std.proofs.Common.{◌≡◌, ◌+◌, ◌%◌, ◌==◌, ◌∙◌, ℕ, ℤ, pos, List, [], ◌∷◌, ◌++◌, length, cond, refl, sym, ap, arith}
use Rattle.std.proofs.Common.{append_assoc, length-append}
use Rattle.std.specs.Prelude.{int_le, unsigned_abs}
use Rattle.std.proofs.lemmas.List.{get_or_at}
use Rattle.affine_core.specs.declared.form.Form.{Form}
use Rattle.affine_core.specs.Affine.{combined, form_at}
use Rattle.affine_core.proofs.Linear.{variable_at}
use Rattle.int_polyhedra.specs.declared.system.Proof.{Proof}
use Rattle.source_tree.specs.Gives.{gives, gives_step, quotient, values}
use Rattle.source_tree.specs.Places.{at_place, plus_terms, variables}
use Rattle.source_tree.specs.Rows.{RowExpr, Plus, Take, Times, number, row_at}
use Rattle.source_tree.specs.declared.tree.Found.{Found}
use Rattle.source_tree.specs.declared.tree.Found.TheVariants as found
use Rattle.source_tree.specs.declared.tree.Tree.{Tree}
use Rattle.source_tree.specs.declared.tree.Tree.TheFolds.{fold-roll-Tree}
use Rattle.source_tree.specs.declared.tree.Tree.TheOpen as open_
use Rattle.source_tree.specs.declared.tree.Tree.TheVariants.{Writer, Zero}
use Rattle.source_tree.specs.declared.tree.Tree.TheViews.{Test, Divides, rolls-Test, rolls-Divides, rolls-Writer}
use Rattle.source_tree.specs.declared.tree.Tree.TheViews.{rolls-Zero}

pub gives-Test : (at : List ℤ) (tree : Tree) (form : Form) (a b : Tree) → tree ≡ Test form a b
    → gives tree at ≡ cond (int_le (pos 0) (form_at form at)) (gives a at) (gives b at)
unfolding gives
gives-Test at tree form a b e =
    ap (λ tree. gives tree at) (e ∙ sym (rolls-Test form a b))
    ∙ ap (λ (k : List ℤ → Found). k at) (fold-roll-Tree (List ℤ → Found) gives_step (open_.Test form a b))

pub gives-Divides : (at : List ℤ) (tree : Tree) (form : Form) (d : ℤ) (a b : Tree) → tree ≡ Divides form d a b
    → gives tree at
    ≡ cond (unsigned_abs (form_at form at) % unsigned_abs d == 0) (gives a (at ++ quotient form d at ∷ []))
    (gives b (at ++ quotient form d at ∷ []))
unfolding gives
gives-Divides at tree form d a b e =
    ap (λ tree. gives tree at) (e ∙ sym (rolls-Divides form d a b))
    ∙ ap (λ (k : List ℤ → Found). k at) (fold-roll-Tree (List ℤ → Found) gives_step (open_.Divides form d a b))

pub gives-Writer : (at : List ℤ) (tree : Tree) (s : ℕ) (place : List Form) (proofs : List Proof)
    → tree ≡ Writer s place proofs → gives tree at ≡ found.At (record { statement = s; at = values place at })
unfolding gives
gives-Writer at tree s place proofs e =
    ap (λ tree. gives tree at) (e ∙ sym (rolls-Writer s place proofs))
    ∙ ap (λ (k : List ℤ → Found). k at) (fold-roll-Tree (List ℤ → Found) gives_step (open_.Writer s place proofs))

pub gives-Zero : (at : List ℤ) (tree : Tree) (proofs : List Proof) → tree ≡ Zero proofs → gives tree at ≡ found.Zero
unfolding gives
gives-Zero at tree proofs e =
    ap (λ tree. gives tree at) (e ∙ sym (rolls-Zero proofs))
    ∙ ap (λ (k : List ℤ → Found). k at) (fold-roll-Tree (List ℤ → Found) gives_step (open_.Zero proofs))

-- The forms of a place

pub values-variables : (i : ℕ) (before xs after : List ℤ) → i ≡ length before
    → values (variables i (length xs)) (before ++ (xs ++ after)) ≡ xs
values-variables i before [] after e = refl
values-variables i before (x ∷ xs) after e =
    let rest : values (variables (i + 1) (length xs)) ((before ++ x ∷ []) ++ (xs ++ after)) ≡ xs
    = values-variables (i + 1) (before ++ x ∷ []) xs after (omega (arith, length-append before (x ∷ []), e)) in
    ap (λ z. z ∷ values (variables (i + 1) (length xs)) (before ++ x ∷ (xs ++ after)))
    (variable_at (i + 1) i (before ++ x ∷ (xs ++ after)) ∙ get_or_at before x (xs ++ after) (pos 0) i (sym e))
    ∙ ap (λ at. x ∷ values (variables (i + 1) (length xs)) at) (sym (append_assoc before (x ∷ []) (xs ++ after)))
    ∙ ap (λ zs. x ∷ zs) rest

pub row_at-plus_terms : (sum : RowExpr) (cs : List ℤ) (place : List Form) (at : List ℤ)
    → row_at (plus_terms sum cs place) at ≡ combined (row_at sum at) cs (values place at)
row_at-plus_terms sum [] place at = refl
row_at-plus_terms sum (c ∷ cs) [] at = refl
row_at-plus_terms sum (c ∷ cs) (form ∷ place) at = row_at-plus_terms (Plus sum (Times c (Take form))) cs place at

pub row_at-at_place : (form : Form) (place : List Form) (at : List ℤ)
    → row_at (at_place form place) at ≡ form_at form (values place at)
row_at-at_place form place at = row_at-plus_terms (number form.constant) form.coefs place at
