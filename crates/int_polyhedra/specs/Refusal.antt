-- The first step of a proof, in preorder, that breaks its rule.
use Rattle.std.specs.Prelude.{ℕ, List, [], ◌∷◌, ◌++◌, Option, None}
use Rattle.std.specs.Option.{option_or}
use Rattle.affine_core.specs.declared.form.Form.{Form}
use Rattle.int_polyhedra.specs.declared.system.Proof.{Proof}
use Rattle.int_polyhedra.specs.declared.system.Proof.TheOpen.{Proof-F, Sum, Cut, Split}
use Rattle.int_polyhedra.specs.declared.system.Proof.TheFolds.{fold-Proof}
use Rattle.int_polyhedra.specs.declared.system.Reason.{Reason}
use Rattle.int_polyhedra.specs.Steps.{refusal_or, sum_of, sum_refusal, cut_row, split_row}

-- what refuses a proof, from the rows that stand before it
abbrev pub Refusal : Type 0
Refusal = List Form → Option Reason

abbrev pub refusal_step : ℕ → Proof-F Refusal → Refusal
refusal_step vars (Sum terms) rows = refusal_or sum_refusal (sum_of vars rows None terms)
refusal_step vars (Cut d terms rest) rows =
    refusal_or (λ row. rest (rows ++ row ∷ [])) (cut_row vars rows d terms)
refusal_step vars (Split form above below) rows =
    refusal_or (λ other. option_or (above (rows ++ form ∷ [])) (below (rows ++ other ∷ [])))
    (split_row vars form)

-- what refuses the proof, for rows over this many variables
unfoldable pub refusal : ℕ → Proof → Refusal
refusal vars = fold-Proof Refusal (refusal_step vars)

-- what refuses a proof that the rows entail one more: that of the rows and its negation, added last
abbrev pub entailment_refusal : ℕ → List Form → Form → Proof → Option Reason
entailment_refusal vars rows row proof =
    refusal_or (λ other. refusal vars proof (rows ++ other ∷ [])) (split_row vars row)
