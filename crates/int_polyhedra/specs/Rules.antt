-- A proof that follows its rules within 128 bits, said of each kind of proof.
use Rattle.std.specs.Prelude.{◌≡◌, ◌<◌, ◌≤ℤ◌, ◌<ℤ◌, ◌%◌, ℕ, ℤ, pos, List, [], ◌∷◌, ◌++◌, length, Some, All, unsigned_abs}
use Rattle.affine_core.specs.declared.form.Form.{Form}
use Rattle.affine_core.specs.Affine.{constant_form}
use Rattle.int_polyhedra.specs.declared.system.Proof.{Proof}
use Rattle.int_polyhedra.specs.declared.system.Proof.TheVariants.{Sum}
use Rattle.int_polyhedra.specs.declared.system.Proof.TheViews.{Cut, Split}
use Rattle.int_polyhedra.specs.declared.system.Term.{Term}
use Rattle.int_polyhedra.specs.Steps.{sum_onto, quotient_row, negation_of}

-- the terms name rows, none has a multiplier below 0, and this is the sum of their rows
pub record IsSumOf (vars : ℕ) (rows : List Form) (terms : List Term) (sum : Form) : Type 0 where
  pub name_rows : All (λ term. term.row < length rows) terms
  pub not_negative : All (λ term. pos 0 ≤ℤ term.times) terms
  pub is_sum : sum_onto rows (constant_form vars (pos 0)) terms ≡ Some sum

-- the row has no variable and a negative constant
pub record IsContradictory (row : Form) : Type 0 where
  pub no_variable : All (λ c. c ≡ pos 0) row.coefs
  pub negative : row.constant <ℤ pos 0

-- the proof refutes rows over this many variables
pub data Refutes (vars : ℕ) : List Form → Proof → Type 0 where
  by_sum : (rows : List Form) (proof : Proof) (terms : List Term) (sum : Form) → proof ≡ Sum terms
      → IsSumOf vars rows terms sum → IsContradictory sum
      → Refutes vars rows proof
  by_cut : (rows : List Form) (proof : Proof) (divisor : ℤ) (terms : List Term) (rest : Proof)
      (sum : Form) → proof ≡ Cut divisor terms rest
      → pos 1 ≤ℤ divisor → IsSumOf vars rows terms sum
      → All (λ c. unsigned_abs c % unsigned_abs divisor ≡ 0) sum.coefs
      → Refutes vars (rows ++ quotient_row (unsigned_abs divisor) sum ∷ []) rest
      → Refutes vars rows proof
  by_split : (rows : List Form) (proof : Proof) (form other : Form) (above below : Proof)
      → proof ≡ Split form above below
      → length form.coefs ≡ vars → negation_of form ≡ Some other
      → Refutes vars (rows ++ form ∷ []) above → Refutes vars (rows ++ other ∷ []) below
      → Refutes vars rows proof

-- the proof refutes the rows with the negation of one more
abbrev pub ProvesEntailment : ℕ → List Form → Form → Proof → Type 0
ProvesEntailment vars rows row proof =
    (other : Form) × (negation_of row ≡ Some other) × Refutes vars (rows ++ other ∷ []) proof
