-- The text of a tree with its proofs: lines of words, in preorder.
use Rattle.std.specs.Prelude.{ℕ, zero, suc, ◌≤◌, ℤ, List, [], ◌∷◌, ◌++◌, All, IsTrue, codes, decimal, length, map}
use Rattle.std.specs.Fmt.{signed_decimal}
use Rattle.std.specs.List.{flat_map}
use Rattle.affine_core.specs.declared.form.Form.{Form}
use Rattle.affine_core.specs.Within.{fits_128_bits, form_fits_128_bits}
use Rattle.int_polyhedra.specs.declared.system.Proof.{Proof, out-Proof}
use Rattle.int_polyhedra.specs.declared.system.Proof.TheOpen.{Proof-F, Sum, Cut, Split}
use Rattle.int_polyhedra.specs.declared.system.Proof.TheFolds.{fold-Proof}
use Rattle.int_polyhedra.specs.declared.system.Term.{Term}
use Rattle.source_tree.specs.declared.tree.Tree.{Tree, out-Tree}
use Rattle.source_tree.specs.declared.tree.Tree.TheOpen.{Tree-F, Test, Divides, Writer, Zero, Dead}
use Rattle.source_tree.specs.declared.tree.Tree.TheFolds.{fold-Tree}
use Rattle.text_out.specs.Words.{line_text}
use Rattle.cert_lines.specs.Words.{IsInRange}

-- Forms and terms

-- a form is its constant, and then its coefficients
abbrev pub form_words : Form → List (List ℕ)
form_words form = signed_decimal form.constant ∷ map signed_decimal form.coefs

-- a term is a row number and its multiplier
abbrev pub term_words : Term → List (List ℕ)
term_words term = decimal term.row ∷ signed_decimal term.times ∷ []

-- Proofs

abbrev pub sum_text : List Term → List ℕ
sum_text terms = line_text (codes "s" ∷ flat_map term_words terms)

abbrev pub cut_text : ℤ → List Term → List ℕ
cut_text divisor terms =
    line_text (codes "c" ∷ signed_decimal divisor ∷ flat_map term_words terms)

abbrev pub split_text : Form → List ℕ
split_text form = line_text (codes "b" ∷ form_words form)

abbrev pub proof_lines : Proof-F (List ℕ) → List ℕ
proof_lines (Sum terms) = sum_text terms
proof_lines (Cut divisor terms rest) = cut_text divisor terms ++ rest
proof_lines (Split form above below) = split_text form ++ (above ++ below)

-- a line for each step, and behind it the proofs that the step leaves
abbrev pub proof_text : Proof → List ℕ
proof_text = fold-Proof (List ℕ) proof_lines

-- Trees

-- the line of a Test
abbrev pub test_text : Form → List ℕ
test_text form = line_text (codes "t" ∷ form_words form)

-- the line of a Divides
abbrev pub divides_text : Form → ℤ → List ℕ
divides_text form divisor = line_text (codes "d" ∷ signed_decimal divisor ∷ form_words form)

-- a statement, and how many forms and proofs follow
abbrev pub writer_text : ℕ → ℕ → ℕ → List ℕ
writer_text statement forms proofs =
    line_text (codes "w" ∷ decimal statement ∷ decimal forms ∷ decimal proofs ∷ [])

-- the line of a form of a map
abbrev pub map_text : Form → List ℕ
map_text form = line_text (codes "m" ∷ form_words form)

-- how many proofs follow
abbrev pub zero_text : ℕ → List ℕ
zero_text proofs = line_text (codes "z" ∷ decimal proofs ∷ [])

abbrev pub dead_text : List ℕ
dead_text = line_text (codes "x" ∷ [])

abbrev pub tree_lines : Tree-F (List ℕ) → List ℕ
tree_lines (Test form above below) = test_text form ++ (above ++ below)
tree_lines (Divides form divisor above below) = divides_text form divisor ++ (above ++ below)
tree_lines (Writer statement place proofs) =
    writer_text statement (length place) (length proofs)
    ++ (flat_map map_text place ++ flat_map proof_text proofs)
tree_lines (Zero proofs) = zero_text (length proofs) ++ flat_map proof_text proofs
tree_lines (Dead proof) = dead_text ++ proof_text proof

-- a line for each node; behind a test its two trees, and behind a leaf its map and its proofs
abbrev pub tree_text : Tree → List ℕ
tree_text = fold-Tree (List ℕ) tree_lines

-- Which trees have a text that can be read: each form has at most 18 variables, the numbers of forms, the multipliers and the
-- divisors are within 128 signed bits, all other numbers are at most 4,294,967,295, and neither the tree nor a proof nests more than
-- 512 deep.

pub record FormIsInRange (form : Form) : Type 0 where
  pub numbers : IsTrue (form_fits_128_bits form)
  pub variables : length form.coefs ≤ 18

pub record TermIsInRange (term : Term) : Type 0 where
  pub row : IsInRange term.row
  pub times : IsTrue (fits_128_bits term.times)

abbrev pub ProofStepIsInRange : (Proof → Type 0) → Proof-F Proof → Type 0
ProofStepIsInRange inner (Sum terms) = All TermIsInRange terms
ProofStepIsInRange inner (Cut divisor terms rest) =
    IsTrue (fits_128_bits divisor) × All TermIsInRange terms × inner rest
ProofStepIsInRange inner (Split form above below) = FormIsInRange form × inner above × inner below

-- a proof that nests at most so many levels deep, with its numbers in range
unfoldable pub ProofIsInRange : ℕ → Proof → Type 0
ProofIsInRange zero proof = ⊥
ProofIsInRange (suc levels) proof = ProofStepIsInRange (ProofIsInRange levels) (out-Proof proof)

-- so many proofs, each nested at most 512 deep
pub record ProofsAreInRange (proofs : List Proof) : Type 0 where
  pub count : IsInRange (length proofs)
  pub each : All (ProofIsInRange 512) proofs

pub record PlaceIsInRange (statement : ℕ) (place : List Form) : Type 0 where
  pub named : IsInRange statement
  pub count : IsInRange (length place)
  pub forms : All FormIsInRange place

abbrev pub TreeStepIsInRange : (Tree → Type 0) → Tree-F Tree → Type 0
TreeStepIsInRange inner (Test form above below) = FormIsInRange form × inner above × inner below
TreeStepIsInRange inner (Divides form divisor above below) =
    (FormIsInRange form × IsTrue (fits_128_bits divisor)) × inner above × inner below
TreeStepIsInRange inner (Writer statement place proofs) =
    PlaceIsInRange statement place × ProofsAreInRange proofs
TreeStepIsInRange inner (Zero proofs) = ProofsAreInRange proofs
TreeStepIsInRange inner (Dead proof) = ProofIsInRange 512 proof

-- a tree that nests at most so many levels deep, with its numbers and its proofs in range
unfoldable pub TreeIsWithin : ℕ → Tree → Type 0
TreeIsWithin zero tree = ⊥
TreeIsWithin (suc levels) tree = TreeStepIsInRange (TreeIsWithin levels) (out-Tree tree)

-- the tree and each of its proofs nest at most 512 deep, forms have at most 18 variables, and each number is within
-- its bits
abbrev pub TreeIsInRange : Tree → Type 0
TreeIsInRange = TreeIsWithin 512
