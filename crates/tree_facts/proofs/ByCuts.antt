-- A refutation of rows that Cuts of some of them add, as one of the other rows.
--
-- The facts go from the last one on. Where the proof names the row, that is moved behind the others, where the Cut adds it;
-- where it doesn't, the row is away. The Cuts' terms name rows before all facts, so what a Cut adds is the same whichever
-- facts are still there.
use Rattle.std.proofs.Common.{◌≡◌, ◌+◌, ℕ, List, [], ◌∷◌, ◌++◌, length, Bool, true, false, cond}
use Rattle.std.proofs.Common.{refl, sym, subst, arith, append_assoc, length-append}
use Rattle.std.proofs.lemmas.List.{append-nil}
use Rattle.affine_core.specs.declared.form.Form.{Form}
use Rattle.int_polyhedra.specs.declared.system.Proof.{Proof}
use Rattle.int_polyhedra.specs.declared.system.Proof.TheViews as proof
use Rattle.int_polyhedra.specs.Rules.{by_cut, Refutes}
use Rattle.tree_cuts.specs.Cuts.{AddRows, AddsRow}
use Rattle.tree_cuts.specs.declared.cuts.Cut.{Cut}
use Rattle.tree_cuts.proofs.CutRows.{adds_behind, add_behind}
use Rattle.tree_facts.specs.Cuts.{proof_by_cut, proof_by_cuts}
use Rattle.tree_facts.proofs.Moving.{refutes_behind}
use Rattle.tree_trim.specs.Proofs.{names_row}
use Rattle.tree_trim.specs.Renumbering.{proof_behind, proof_without}
use Rattle.tree_trim.proofs.Refuting.{refutes_without}

-- One fact

module _ (vars : ℕ) (front after : List Form) (row : Form) (cut : Cut) (p : Proof) where
  abbrev k : ℕ
  k = length front

  abbrev n : ℕ
  n = length front + length after

  by_names : (b : Bool) → names_row k p ≡ b → AddsRow vars front cut row → Refutes vars (front ++ row ∷ after) p
      → Refutes vars (front ++ after)
      (cond b (proof.Cut cut.divisor cut.terms (proof_behind k n p)) (proof_without k p))
  by_names false none h r = refutes_without vars front row (front ++ row ∷ after) p r after refl none
  by_names true named h r =
      let a : AddsRow vars (front ++ after) cut row = adds_behind vars front after cut row h in
      by_cut (front ++ after) (proof.Cut cut.divisor cut.terms (proof_behind k n p)) cut.divisor cut.terms
      (proof_behind k n p) a.sum refl a.divisor a.is_sum a.divisible
      (subst (λ row. Refutes vars ((front ++ after) ++ row ∷ []) (proof_behind k n p)) a.is
      (refutes_behind vars front after row (front ++ row ∷ after) p r [] (sym (append-nil (front ++ row ∷ after)))))

  refutes_by_cut : AddsRow vars front cut row → Refutes vars (front ++ row ∷ after) p
      → Refutes vars (front ++ after) (proof_by_cut k n cut p)
  refutes_by_cut h r = by_names (names_row k p) refl h r

-- All facts

pub refutes_by_cuts : (vars : ℕ) (front facts after : List Form) (cuts : List Cut) (p : Proof)
    → AddRows vars front cuts facts → Refutes vars (front ++ (facts ++ after)) p
    → Refutes vars (front ++ after) (proof_by_cuts (length front) (length front + length after) cuts p)
refutes_by_cuts vars front [] after [] p h r = r
refutes_by_cuts vars front [] after (cut ∷ cuts) p h r = absurd h
refutes_by_cuts vars front (row ∷ facts) after [] p h r = absurd h
refutes_by_cuts vars front (row ∷ facts) after (cut ∷ cuts) p h r =
    let longer : List Form = front ++ row ∷ [] in
    let one : length longer ≡ length front + 1 = length-append front (row ∷ []) in
    let rows_one : length longer + length after ≡ length front + length after + 1 = omega (arith, one) in
    let rest : Proof = proof_by_cuts (length front + 1) (length front + length after + 1) cuts p in
    let inner : Refutes vars (longer ++ after) (proof_by_cuts (length longer) (length longer + length after) cuts p) =
    refutes_by_cuts vars longer facts after cuts p (add_behind vars front (row ∷ []) cuts facts h.1)
    (subst (λ rows. Refutes vars rows p) (sym (append_assoc front (row ∷ []) (facts ++ after))) r) in
    let there : Refutes vars (front ++ row ∷ after) rest =
    subst (λ rows. Refutes vars rows rest) (append_assoc front (row ∷ []) after)
    (subst (λ n. Refutes vars (longer ++ after) (proof_by_cuts (length front + 1) n cuts p)) rows_one
    (subst (λ k. Refutes vars (longer ++ after) (proof_by_cuts k (length longer + length after) cuts p)) one inner)) in
    refutes_by_cut vars front after row cut rest h.0 there
