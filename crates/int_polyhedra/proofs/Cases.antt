-- What refuses each kind of proof.
use Rattle.std.proofs.Common.{◌≡◌, ℕ, ℤ, List, [], ◌∷◌, ◌++◌, length, sym, ap, ◌∙◌, Bor}
use Rattle.std.specs.Prelude.{Option, Some, None, Ok, Err}
use Rattle.std.specs.Option.{option_or}
use Rattle.affine_core.specs.declared.form.Form.{Form}
use Rattle.int_polyhedra.specs.declared.system.Proof.TheOpen as layer
use Rattle.int_polyhedra.specs.declared.system.Proof.{Proof}
use Rattle.int_polyhedra.specs.declared.system.Proof.TheViews.{Cut, Split, rolls-Sum, rolls-Cut, rolls-Split}
use Rattle.int_polyhedra.specs.declared.system.Proof.TheVariants.{Sum}
use Rattle.int_polyhedra.specs.declared.system.Proof.TheFolds.{fold-roll-Proof}
use Rattle.int_polyhedra.specs.declared.system.Reason.{Reason}
use Rattle.int_polyhedra.specs.declared.system.Term.{Term}
use Rattle.int_polyhedra.specs.declared.rows.Rows.{Rows}
use Rattle.int_polyhedra.specs.declared.rows.Rows.TheViews.{More}
use Rattle.int_polyhedra.specs.Chain.{rows_of}
use Rattle.int_polyhedra.specs.Systems.{all_over, AreOver}
use Rattle.int_polyhedra.specs.Steps.{refusal_or, sum_of, sum_refusal, cut_row, split_row}
use Rattle.int_polyhedra.specs.Refusal.{Refusal, refusal, refusal_step}
use Rattle.int_polyhedra.proofs.RowsOf.{rows_of_more}
use Rattle.int_polyhedra.proofs.Variables.{over_more}

module _ (vars : ℕ) (rows : List Form) where
  pub refusal_sum : (terms : List Term)
      → refusal vars (Sum terms) rows ≡ refusal_or sum_refusal (sum_of vars rows None terms)
  unfolding refusal
  refusal_sum terms =
      ap (λ p. refusal vars p rows) (sym (rolls-Sum terms))
      ∙ ap (λ (r : Refusal). r rows) (fold-roll-Proof Refusal (refusal_step vars) (layer.Sum terms))

  pub refusal_cut : (d : ℤ) (terms : List Term) (rest : Proof)
      → refusal vars (Cut d terms rest) rows
      ≡ refusal_or (λ row. refusal vars rest (rows ++ row ∷ [])) (cut_row vars rows d terms)
  unfolding refusal
  refusal_cut d terms rest =
      ap (λ p. refusal vars p rows) (sym (rolls-Cut d terms rest))
      ∙ ap (λ (r : Refusal). r rows) (fold-roll-Proof Refusal (refusal_step vars) (layer.Cut d terms rest))

  pub refusal_split : (form : Form) (above below : Proof)
      → refusal vars (Split form above below) rows
      ≡ refusal_or
      (λ other. option_or (refusal vars above (rows ++ form ∷ [])) (refusal vars below (rows ++ other ∷ [])))
      (split_row vars form)
  unfolding refusal
  refusal_split form above below =
      ap (λ p. refusal vars p rows) (sym (rolls-Split form above below))
      ∙ ap (λ (r : Refusal). r rows) (fold-roll-Proof Refusal (refusal_step vars) (layer.Split form above below))

  pub at_sum : (p : Proof) (terms terms' : List Term) (r : Option Reason) → p ≡ Sum terms → terms' ≡ terms
      → r ≡ refusal_or sum_refusal (sum_of vars rows None terms') → r ≡ refusal vars p rows
  at_sum p terms terms' r e f is =
      is ∙ ap (λ ts. refusal_or sum_refusal (sum_of vars rows None ts)) f ∙ sym (refusal_sum terms)
      ∙ ap (λ p. refusal vars p rows) (sym e)

  pub at_cut_err : (p : Proof) (d d' : ℤ) (terms terms' : List Term) (rest : Proof) (reason : Reason)
      → p ≡ Cut d terms rest → d' ≡ d → terms' ≡ terms
      → Err reason ≡ cut_row vars rows d' terms' → Some reason ≡ refusal vars p rows
  at_cut_err p d d' terms terms' rest reason e f g is =
      ap (refusal_or (λ row. refusal vars rest (rows ++ row ∷ [])))
      (is ∙ ap (λ d. cut_row vars rows d terms') f ∙ ap (cut_row vars rows d) g)
      ∙ sym (refusal_cut d terms rest) ∙ ap (λ p. refusal vars p rows) (sym e)

  pub at_cut_ok : (p : Proof) (d d' : ℤ) (terms terms' : List Term) (rest rest' : Proof) (row : Form)
      (chain : List Form) (r : Option Reason) → p ≡ Cut d terms rest → d' ≡ d → terms' ≡ terms
      → rest' ≡ rest → chain ≡ rows ++ row ∷ [] → Ok row ≡ cut_row vars rows d' terms' → r ≡ refusal vars rest' chain
      → r ≡ refusal vars p rows
  at_cut_ok p d d' terms terms' rest rest' row chain r e f g h k is end =
      end ∙ ap (λ p. refusal vars p chain) h ∙ ap (refusal vars rest) k
      ∙ ap (refusal_or (λ row. refusal vars rest (rows ++ row ∷ [])))
      (is ∙ ap (λ d. cut_row vars rows d terms') f ∙ ap (cut_row vars rows d) g)
      ∙ sym (refusal_cut d terms rest) ∙ ap (λ p. refusal vars p rows) (sym e)

  pub at_split_err : (p : Proof) (form : Form) (above below : Proof) (reason : Reason) → p ≡ Split form above below
      → Err reason ≡ split_row vars form → Some reason ≡ refusal vars p rows
  at_split_err p form above below reason e is =
      ap (refusal_or
      (λ other. option_or (refusal vars above (rows ++ form ∷ [])) (refusal vars below (rows ++ other ∷ [])))) is
      ∙ sym (refusal_split form above below) ∙ ap (λ p. refusal vars p rows) (sym e)

  pub at_split : (p : Proof) (form : Form) (above above' below : Proof) (other : Form) (chain : List Form)
      (r : Option Reason) → p ≡ Split form above below → Ok other ≡ split_row vars form
      → above' ≡ above → chain ≡ rows ++ form ∷ [] → r ≡ refusal vars above' chain
      → option_or r (refusal vars below (rows ++ other ∷ [])) ≡ refusal vars p rows
  at_split p form above above' below other chain r e is g h end =
      ap (λ o. option_or o (refusal vars below (rows ++ other ∷ [])))
      (end ∙ ap (λ p. refusal vars p chain) g ∙ ap (refusal vars above) h)
      ∙ ap (refusal_or
      (λ other. option_or (refusal vars above (rows ++ form ∷ [])) (refusal vars below (rows ++ other ∷ [])))) is
      ∙ sym (refusal_split form above below) ∙ ap (λ p. refusal vars p rows) (sym e)

  pub at_split_ok : (p : Proof) (form : Form) (above above' below below' : Proof) (other : Form)
      (chain chain' : List Form) (r : Option Reason) → p ≡ Split form above below → Ok other ≡ split_row vars form
      → above' ≡ above → chain ≡ rows ++ form ∷ [] → None ≡ refusal vars above' chain
      → below' ≡ below → chain' ≡ rows ++ other ∷ [] → r ≡ refusal vars below' chain' → r ≡ refusal vars p rows
  at_split_ok p form above above' below below' other chain chain' r e is g h none k l end =
      end ∙ ap (λ p. refusal vars p chain') k ∙ ap (refusal vars below) l
      ∙ at_split p form above above' below other chain None e is g h none

pub chain_over : (vars : ℕ) (rows : Bor Rows) (row : Bor Form) → AreOver vars (rows_of rows.now)
    → length row.now.coefs ≡ vars → AreOver vars (rows_of (More rows row))
chain_over vars rows row e h =
    ap (all_over vars) (rows_of_more rows row) ∙ over_more vars (rows_of rows.now) row.now e h
