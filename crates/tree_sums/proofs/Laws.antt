-- Laws of sums of rows, as statements: SumAlgebra, NegativeSums, EntailmentTerms and PointRows prove them.
--
-- They speak of rows in two ways. What terms show is said of numbers without bounds, so it combines, is carried to
-- other rows and holds at points with no word on sizes (SumAlgebra, PointRows). What refutes is checked within 128
-- bits, so to come to it from what is shown the weight of the terms times the bound of the rows has to be below 2^127
-- (NegativeSums); the other way nothing has to be small. No multiplier is negative in any of them, so no row is ever
-- subtracted.
use Rattle.std.specs.Prelude.{◌≡◌, ◌<◌, ◌≤◌, ◌≤ℤ◌, ℕ, ◌^◌, ◌*◌, ℤ, pos, ◌+ℤ◌, ◌*ℤ◌, List, [], ◌∷◌, ◌++◌, length, All}
use Rattle.affine_core.specs.declared.form.Form.{Form}
use Rattle.affine_core.specs.Affine.{form_at}
use Rattle.int_polyhedra.specs.declared.system.Proof.TheVariants.{Sum}
use Rattle.int_polyhedra.specs.declared.system.Term.{Term}
use Rattle.int_polyhedra.specs.Rules.{Refutes, ProvesEntailment}
use Rattle.int_polyhedra.specs.Systems.{AreOver, Meets}
use Rattle.tree_sums.specs.Parts.{the_constant, the_coefficient, part_of, row_part, term_products, weight, IsWithin}
use Rattle.tree_sums.specs.Shown.{RowParts, Shows, IsNegative, with_last}
use Rattle.tree_sums.specs.Carried.{carried_terms}

-- What is shown combines: a row shows itself; rows added behind change nothing; a row may be greater by
-- a number; sums show sums, and multiples multiples.
pub record Combines (vars : ℕ) (rows : List Form) : Type 0 where
  pub own : (k : ℕ) → k < length rows
      → Shows vars rows (record { row = k; times = pos 1 } ∷ []) (λ part. row_part rows part k)
  pub behind : (more : List Form) (ts : List Term) (a : RowParts)
      → Shows vars rows ts a → Shows vars (rows ++ more) ts a
  pub weaker : (ts : List Term) (a b : RowParts)
      → Shows vars rows ts a → a the_constant ≤ℤ b the_constant
      → ((i : ℕ) → i < vars → a (the_coefficient i) ≡ b (the_coefficient i))
      → Shows vars rows ts b
  pub sum : (ts us : List Term) (a b : RowParts) → Shows vars rows ts a → Shows vars rows us b
      → Shows vars rows (ts ++ us) (λ part. a part +ℤ b part)
  pub multiple : (by : ℤ) (ts : List Term) (a : RowParts) → pos 0 ≤ℤ by → Shows vars rows ts a
      → Shows vars rows (term_products by ts) (λ part. a part *ℤ by)

-- where each row is shown by a sum of other rows, what the rows show is shown with the sums in their
-- places
abbrev pub Carries : Type 0
Carries = (vars : ℕ) (rows other : List Form) (in_place : ℕ → List Term) (ts : List Term)
    (a : RowParts)
    → ((k : ℕ) → k < length rows → Shows vars other (in_place k) (λ part. row_part rows part k))
    → Shows vars rows ts a → Shows vars other (carried_terms in_place ts) a

-- where the multipliers are small, terms that show a negative number refute
abbrev pub ShownRefutes : Type 0
ShownRefutes = (vars bound : ℕ) (rows : List Form) (ts : List Term) (a : RowParts)
    → AreOver vars rows → All (IsWithin bound) rows → weight ts * bound < 2 ^ 127
    → Shows vars rows ts a → IsNegative vars a → Refutes vars rows (Sum ts)

-- terms that refute show a negative number
abbrev pub RefutedIsShown : Type 0
RefutedIsShown = (vars : ℕ) (rows : List Form) (ts : List Term) → AreOver vars rows
    → Refutes vars rows (Sum ts) → (a : RowParts) × Shows vars rows ts a × IsNegative vars a

-- where each row is shown by a sum of other rows, terms that refute the rows refute those with the sums
-- in their places
abbrev pub RefutationsCarry : Type 0
RefutationsCarry = (vars bound most : ℕ) (rows other : List Form) (in_place : ℕ → List Term)
    (ts : List Term) → AreOver vars rows → AreOver vars other
    → All (IsWithin bound) other → ((k : ℕ) → weight (in_place k) ≤ most)
    → weight ts * most * bound < 2 ^ 127
    → ((k : ℕ) → k < length rows → Shows vars other (in_place k) (λ part. row_part rows part k))
    → Refutes vars rows (Sum ts) → Refutes vars other (Sum (carried_terms in_place ts))

-- terms that prove with the negation of a row, taken once, that the rows entail it, show it
abbrev pub Confirms : Type 0
Confirms = (vars : ℕ) (rows : List Form) (ts : List Term) (f : Form) → AreOver vars rows
    → length f.coefs ≡ vars
    → All (λ t. t.row < length rows) ts → All (λ t. pos 0 ≤ℤ t.times) ts
    → ProvesEntailment vars rows f (Sum (with_last rows ts))
    → Shows vars rows ts (λ part. part_of part f)

-- where a point meets the rows, what they show holds there
abbrev pub ShownHolds : Type 0
ShownHolds = (vars : ℕ) (rows : List Form) (ts : List Term) (f : Form) (at : List ℤ)
    → AreOver vars rows → length f.coefs ≡ vars
    → Shows vars rows ts (λ part. part_of part f) → Meets rows at → pos 0 ≤ℤ form_at f at
