-- A proof by what its boxes hold.
--
-- A box is, for a contract, what it holds: a part that is read out of its box is the part that the proof has. So an
-- equation that tells a proof stays true where a part of it is replaced by an equal one, and both lemmas only put
-- equal parts in place. Nothing here is by induction: what stands below a part is kept as it is, whatever it refutes.
use Rattle.std.proofs.Common.{◌≡◌, ◌∙◌, ℤ, List, sym, ap}
use Rattle.affine_core.specs.declared.form.Form.{Form}
use Rattle.int_polyhedra.specs.declared.system.Proof.{Proof}
use Rattle.int_polyhedra.specs.declared.system.Proof.TheViews.{Cut, Split}
use Rattle.int_polyhedra.specs.declared.system.Term.{Term}

pub boxed_cut : {p : Proof} {d d' : ℤ} {terms terms' : List Term} (rest : Proof) → p ≡ Cut d terms rest → d' ≡ d
    → terms' ≡ terms → p ≡ Cut d' terms' rest
boxed_cut {p} {d} {d'} {terms} {terms'} rest e f g =
    e ∙ ap (λ d. Cut d terms rest) (sym f) ∙ ap (λ terms. Cut d' terms rest) (sym g)

pub boxed_split : {p : Proof} {form form' : Form} (above below : Proof) → p ≡ Split form above below → form' ≡ form
    → p ≡ Split form' above below
boxed_split {p} {form} {form'} above below e f = e ∙ ap (λ form. Split form above below) (sym f)
