-- Lists of rows, and of systems with their proofs.
--
-- Rows that were made are as many as they are made from, and each has the parts of its own. Systems and proofs that are
-- refuted one by one fall into front and back where the counts do.
use Rattle.std.proofs.Common.{◌≡◌, ℕ, zero, suc, List, [], ◌∷◌, ◌++◌, length, refl, sym, ap, ◌∙◌, arith}
use Rattle.std.specs.Prelude.{All, Some, None, slice_get}
use Rattle.std.specs.Option.{option_and_then}
use Rattle.std.proofs.lemmas.List.Elements.{All-cons, All-head, All-nil, All-tail}
use Rattle.std.proofs.lemmas.Option.{same_Some, option_and_then_some}
use Rattle.affine_core.specs.declared.form.Form.{Form}
use Rattle.int_polyhedra.specs.declared.system.Proof.{Proof}
use Rattle.tree_sums.specs.Made.{parts_of}
use Rattle.tree_sums.specs.Parts.{Part, part_of, row_part}
use Rattle.tree_sums.proofs.RowParts.{made_has_parts}
use Rattle.source_tree.specs.Checked.{AreRefuted}
use Rattle.source_tree.specs.Rows.{RowExpr, RowSystem, row_form, row_forms}
use Rattle.stride_trees.specs.Candidates.{AreCutSums}

-- Rows

-- the first row, and the rest
pub record IsMadeFirst (vars : ℕ) (e : RowExpr) (es : List RowExpr) (forms : List Form) : Type 0 where
  pub first : Form
  pub rest : List Form
  pub is : forms ≡ first ∷ rest
  pub over : length first.coefs ≡ vars
  pub parts : (part : Part) → part_of part first ≡ parts_of e part
  pub own_made : row_form vars e ≡ Some first
  pub made : row_forms vars es ≡ Some rest

pub made_first : (vars : ℕ) (e : RowExpr) (es : List RowExpr) (forms : List Form) → row_forms vars (e ∷ es) ≡ Some forms
    → IsMadeFirst vars e es forms
made_first vars e es forms h =
    option_and_then_some (λ row. option_and_then (λ rest. Some (row ∷ rest)) (row_forms vars es)) (row_form vars e) forms h
    (λ row is_row h'. option_and_then_some (λ rest. Some (row ∷ rest)) (row_forms vars es) forms h'
    (λ rest is_rest whole.
    (let p = made_has_parts vars e row is_row in
    record {
      first = row;
      rest = rest;
      is = sym (same_Some (row ∷ rest) forms whole);
      over = p.0;
      parts = p.1;
      own_made = is_row;
      made = is_rest;
    })))

pub forms_count : (vars : ℕ) (es : List RowExpr) (forms : List Form) → row_forms vars es ≡ Some forms
    → length forms ≡ length es
forms_count vars [] forms h = ap length (sym (same_Some [] forms h))
forms_count vars (e ∷ es) forms h =
    let f : IsMadeFirst vars e es forms = made_first vars e es forms h in
    ap length f.is ∙ ap suc (forms_count vars es f.rest f.made)

-- a row that was made, by its number
pub row_made : (vars : ℕ) (es : List RowExpr) (forms : List Form) (k : ℕ) (e : RowExpr) (part : Part)
    → row_forms vars es ≡ Some forms → slice_get es k ≡ Some e → row_part forms part k ≡ parts_of e part
row_made vars [] forms k e part h is = absurd (let no : None ≡ Some e = is in cc)
row_made vars (x ∷ es) forms zero e part h is =
    let f : IsMadeFirst vars x es forms = made_first vars x es forms h in
    ap (λ forms. row_part forms part 0) f.is ∙ f.parts part ∙ ap (λ e. parts_of e part) (same_Some x e is)
row_made vars (x ∷ es) forms (suc k) e part h is =
    let f : IsMadeFirst vars x es forms = made_first vars x es forms h in
    ap (λ forms. row_part forms part (suc k)) f.is ∙ row_made vars es f.rest k e part f.made is

-- Systems and proofs

pub cut_sums_both : (order : ℕ) (first second : List RowSystem) (ps qs : List Proof) → AreCutSums order first ps
    → AreCutSums order second qs → AreCutSums order (first ++ second) (ps ++ qs)
cut_sums_both order [] second [] qs h k = k
cut_sums_both order [] second (p ∷ ps) qs h k = absurd h
cut_sums_both order (s ∷ first) second [] qs h k = absurd h
cut_sums_both order (s ∷ first) second (p ∷ ps) qs h k = (h.0, cut_sums_both order first second ps qs h.1 k)

-- proofs of systems in two parts
pub record AreRefutedBoth (first second : List RowSystem) (proofs : List Proof) : Type 0 where
  pub front : List Proof
  pub back : List Proof
  pub is : proofs ≡ front ++ back
  pub of_first : AreRefuted first front
  pub of_second : AreRefuted second back

pub refuted_apart : (first second : List RowSystem) (proofs : List Proof) → AreRefuted (first ++ second) proofs
    → AreRefutedBoth first second proofs
refuted_apart [] second proofs h = record { front = []; back = proofs; is = refl; of_first = tt; of_second = h }
refuted_apart (s ∷ first) second [] h = absurd h
refuted_apart (s ∷ first) second (p ∷ proofs) h =
    let b : AreRefutedBoth first second proofs = refuted_apart first second proofs h.1 in
    record {
      front = p ∷ b.front;
      back = b.back;
      is = ap (λ ps. p ∷ ps) b.is;
      of_first = (h.0, b.of_first);
      of_second = b.of_second;
    }

-- proofs in two parts, as their systems
pub refuted_parts : (first second : List RowSystem) (ps qs : List Proof) → length ps ≡ length first
    → AreRefuted (first ++ second) (ps ++ qs) → AreRefuted first ps × AreRefuted second qs
refuted_parts [] second [] qs e h = (tt, h)
refuted_parts [] second (p ∷ ps) qs e h = absurd (omega arith)
refuted_parts (x ∷ first) second [] qs e h = absurd (omega arith)
refuted_parts (x ∷ first) second (p ∷ ps) qs e h =
    let rest = refuted_parts first second ps qs (omega (arith, e)) h.1 in ((h.0, rest.0), rest.1)

pub all_parts : (P : Proof → Type 0) (ps qs : List Proof) → All P (ps ++ qs) → All P ps × All P qs
all_parts P [] qs h = (All-nil P, h)
all_parts P (p ∷ ps) qs h =
    let rest = all_parts P ps qs (All-tail P p (ps ++ qs) h) in
    (All-cons P p ps (All-head P p (ps ++ qs) h) rest.0, rest.1)
