use Rattle.std.proofs.Common.{◌≡◌, ◌∙◌, ap, ℕ, List, [], ◌∷◌, ◌++◌}
use Rattle.std.specs.Prelude.{Option, Ok}
use Rattle.affine_core.specs.declared.form.Form.{Form}
use Rattle.int_polyhedra.specs.declared.system.Proof.{Proof}
use Rattle.int_polyhedra.specs.declared.system.Reason.{Reason}
use Rattle.int_polyhedra.specs.Systems.{all_over}
use Rattle.int_polyhedra.specs.Steps.{refusal_or, split_row}
use Rattle.int_polyhedra.specs.Refusal.{refusal, entailment_refusal}
use Rattle.int_polyhedra.proofs.RowsOf.{rows_of_given, rows_of_more}
use Rattle.int_polyhedra.proofs.Variables.{split_over}
use Rattle.int_polyhedra.proofs.Cases.{chain_over}
use Rattle.int_polyhedra.proofs.ProofRules.{entails_follows}
use Rattle.int_polyhedra.proofs.Soundness.{entails_sound}
use Rattle.int_polyhedra.proofs.refute.entails.Goals as goal

-- the refusal of the rows and the negation is that of the entailment
at_negation : (vars : ℕ) (rows : List Form) (row other : Form) (p : Proof) (chain : List Form) (r : Option Reason)
    → Ok other ≡ split_row vars row → chain ≡ rows ++ other ∷ []
    → r ≡ refusal vars p chain → r ≡ entailment_refusal vars rows row p
at_negation vars rows row other p chain r is c e =
    e ∙ ap (refusal vars p) c ∙ ap (refusal_or (λ other. refusal vars p (rows ++ other ∷ []))) is

pub refute-requires-clause-over : goal.refute-requires-clause-over
refute-requires-clause-over c =
    chain_over _ _ _
    (ap (all_over c.args.system.now.vars) (rows_of_given c.as_slice.result ∙ c.as_slice.ensures) ∙ c.requires.over)
    (split_over c.args.system.now.vars c.args.row.now c.in-Ok.other c.in-Ok.ensures).1

pub returns-in-Ok-clause-exact : goal.returns-in-Ok-clause-exact
returns-in-Ok-clause-exact c =
    at_negation c.args.system.now.vars c.args.system.now.rows c.args.row.now c.in-Ok.other c.args.proof.now _ _
    c.in-Ok.ensures
    (rows_of_more _ _
    ∙ ap (λ rows. rows ++ c.in-Ok.other ∷ [])
    (rows_of_given c.as_slice.result ∙ c.as_slice.ensures)) c.refute.ensures

pub returns-in-Ok-clause-follows : goal.returns-in-Ok-clause-follows
returns-in-Ok-clause-follows c =
    entails_follows c.args.system.now.vars c.args.system.now.rows c.args.row.now c.args.proof.now c.refute.result
    c.requires.row_over (returns-in-Ok-clause-exact c)

pub returns-in-Ok-clause-sound : goal.returns-in-Ok-clause-sound
returns-in-Ok-clause-sound c =
    entails_sound c.args.system.now.vars c.args.system.now.rows c.args.row.now c.args.proof.now c.refute.result
    c.requires.over (returns-in-Ok-clause-exact c)
