-- Proofs that are Cuts and then a Sum.
use Rattle.std.specs.Prelude.{◌≡◌, ◌≤◌, ◌<◌, ◌^◌, ◌+◌, ◌%◌, ◌≤ℤ◌, ℕ, pos, List, [], ◌∷◌, length, map, All, Some, slice_get, slice_index_or, unsigned_abs}
use Rattle.affine_core.specs.declared.form.Form.{Form}
use Rattle.int_polyhedra.specs.declared.system.Proof.{Proof}
use Rattle.int_polyhedra.specs.declared.system.Proof.TheVariants.{Sum}
use Rattle.int_polyhedra.specs.declared.system.Proof.TheViews as proof
use Rattle.int_polyhedra.specs.declared.system.Term.{Term}
use Rattle.int_polyhedra.specs.Rules.{IsSumOf, Refutes}
use Rattle.int_polyhedra.specs.Steps.{quotient_row}
use Rattle.tree_sums.specs.Parts.{weight, IsWithin}
use Rattle.tree_cuts.specs.declared.cuts.Cut.{Cut}
use Rattle.tree_cuts.specs.declared.cuts.Source.{Source}
use Rattle.tree_cuts.specs.declared.cuts.Source.TheVariants.{Own, Added}

-- The row that a Cut adds to a system: the divisor divides each coefficient of the sum of its terms, and the
-- row is that of the quotients, the constant rounded down.
pub record AddsRow (vars : ℕ) (rows : List Form) (cut : Cut) (row : Form) : Type 0 where
  pub divisor : pos 1 ≤ℤ cut.divisor
  pub sum : Form
  pub is_sum : IsSumOf vars rows cut.terms sum
  pub divisible : All (λ c. unsigned_abs c % unsigned_abs cut.divisor ≡ 0) sum.coefs
  pub is : row ≡ quotient_row (unsigned_abs cut.divisor) sum

-- the rows that Cuts of one system add, none of which takes a row of another
abbrev pub AddRows : ℕ → List Form → List Cut → List Form → Type 0
AddRows vars rows [] [] = Unit {0}
AddRows vars rows [] (row ∷ added) = ⊥
AddRows vars rows (cut ∷ cuts) [] = ⊥
AddRows vars rows (cut ∷ cuts) (row ∷ added) =
    AddsRow vars rows cut row × AddRows vars rows cuts added

-- the Cuts, one after the other, and then the rest of the proof
abbrev pub after_cuts : List Cut → Proof → Proof
after_cuts [] rest = rest
after_cuts (cut ∷ cuts) rest = proof.Cut cut.divisor cut.terms (after_cuts cuts rest)

-- Rows of one system, told by those of another: each is one of these, or one that a Cut of them adds.
abbrev pub AreSources : ℕ → List Form → List Source → List Form → Type 0
AreSources vars rows [] [] = Unit {0}
AreSources vars rows [] (row ∷ told) = ⊥
AreSources vars rows (source ∷ sources) [] = ⊥
AreSources vars rows (Own k ∷ sources) (row ∷ told) =
    (slice_get rows k ≡ Some row) × AreSources vars rows sources told
AreSources vars rows (Added cut ∷ sources) (row ∷ told) =
    AddsRow vars rows cut row × AreSources vars rows sources told

-- the Cuts among them
abbrev pub cuts_of : List Source → List Cut
cuts_of [] = []
cuts_of (Own k ∷ sources) = cuts_of sources
cuts_of (Added cut ∷ sources) = cut ∷ cuts_of sources

-- the rows that they add, of those that are told
abbrev pub added_of : List Source → List Form → List Form
added_of [] told = []
added_of (source ∷ sources) [] = []
added_of (Own k ∷ sources) (row ∷ told) = added_of sources told
added_of (Added cut ∷ sources) (row ∷ told) = row ∷ added_of sources told

-- The numbers of these rows behind the Cuts: one of the system keeps its own, and those that Cuts add are counted
-- from this number on.
abbrev pub numbers_from : ℕ → List Source → List ℕ
numbers_from next [] = []
numbers_from next (Own k ∷ sources) = k ∷ numbers_from next sources
numbers_from next (Added cut ∷ sources) = next ∷ numbers_from (next + 1) sources

-- terms with other row numbers
abbrev pub renumbered : List ℕ → List Term → List Term
renumbered numbers ts =
    map (λ t. record { row = slice_index_or numbers t.row 0; times = t.times }) ts

-- A Sum of the rows that are told, as a proof of the system of so many rows: first the Cuts, and then the Sum with
-- the rows' numbers.
abbrev pub converted_sum : List Source → ℕ → List Term → Proof
converted_sum sources rows ts =
    after_cuts (cuts_of sources) (Sum (renumbered (numbers_from rows sources) ts))

-- a Sum that refutes the rows that are told refutes their system when it is converted
abbrev pub ConvertedRefutes : Type 0
ConvertedRefutes = (vars : ℕ) (rows : List Form) (sources : List Source) (told : List Form)
    (ts : List Term) → AreSources vars rows sources told → Refutes vars told (Sum ts)
    → Refutes vars rows (converted_sum sources (length rows) ts)

-- A proof of a system is at most 65,536 Cuts and then one Sum. No Cut takes an order row, which are those from this
-- number on. The numbers of a row that a Cut adds lie within 2^48, and the multipliers of the Sum add up to 2^48 at
-- most.
pub record IsCutSum (vars : ℕ) (rows : List Form) (order : ℕ) (proof : Proof) : Type 0 where
  pub cuts : List Cut
  pub added : List Form
  pub terms : List Term
  pub is : proof ≡ after_cuts cuts (Sum terms)
  pub few : length cuts ≤ 65536
  pub add : AddRows vars rows cuts added
  pub no_order : All (λ cut. All (λ t. t.row < order) cut.terms) cuts
  pub small : All (IsWithin (2 ^ 48)) added
  pub light : weight terms ≤ 2 ^ 48

-- A converted Sum is such a proof, where its Cuts are few and take no order row, and its numbers are small.
abbrev pub ConvertedAreCutSums : Type 0
ConvertedAreCutSums = (vars : ℕ) (rows : List Form) (order : ℕ) (sources : List Source)
    (told : List Form) (ts : List Term) → AreSources vars rows sources told
    → length (cuts_of sources) ≤ 65536
    → All (λ cut. All (λ t. t.row < order) cut.terms) (cuts_of sources)
    → All (IsWithin (2 ^ 48)) (added_of sources told) → weight ts ≤ 2 ^ 48
    → IsCutSum vars rows order (converted_sum sources (length rows) ts)
