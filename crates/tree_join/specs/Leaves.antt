-- Proofs of the systems of a joined leaf.
use Rattle.std.specs.Prelude.{◌≡◌, ◌+◌, ◌==◌, ◌&&◌, ℕ, zero, suc, Bool, List, [], ◌∷◌, ◌++◌, length, All, Option, Some, None, Contains, slice_get}
use Rattle.std.specs.List.{list_any}
use Rattle.affine_core.specs.declared.form.Form.{Form}
use Rattle.int_polyhedra.specs.declared.system.Proof.{Proof}
use Rattle.int_polyhedra.specs.declared.system.Proof.TheVariants.{Sum}
use Rattle.int_polyhedra.specs.declared.system.System.{System}
use Rattle.int_polyhedra.specs.declared.system.Term.{Term}
use Rattle.tree_order.specs.Candidates.{levels_before}
use Rattle.tree_graphs.specs.Contexts.{IsMadeAs}
use Rattle.tree_graphs.specs.Joint.{IsSum}
use Rattle.tree_order.specs.Reads.{pairs_of}
use Rattle.tree_graphs.specs.Joint.{ReadAndWrite}
use Rattle.tree_order.specs.Refutations.{RefutesBetween}
use Rattle.tree_order.specs.declared.candidates.Read.{Read}
use Rattle.tree_join.specs.declared.leaf.Excluded.{Excluded}
use Rattle.tree_order.specs.declared.order.Equality.{Equality}
use Rattle.tree_graphs.specs.Paths.{term_of}
use Rattle.tree_sums.specs.Carried.{carried_terms, sum_in_place, CarryFits}
use Rattle.source_tree.specs.Checked.{AreRefuted}
use Rattle.source_tree.specs.Rows.{RowSystem}
use Rattle.source_tree.specs.Systems.{Context, Occurrence}

-- per level of order between the point and a write the terms that refute that the write stands
-- after it
pub record IsExcluded (context : System) (w : Occurrence) (place : List Form) (o : ReadAndWrite)
    (e : Excluded) : Type 0 where
  pub all : length e.sums ≡ levels_before w o.write
  pub each : (q : ℕ) (ts : List Term) → slice_get e.sums q ≡ Some ts
      → RefutesBetween o context e.level w place q (Sum ts)

-- whether the candidate of this writer and level is excluded
abbrev pub is_excluded : ℕ → ℕ → List Excluded → Bool
is_excluded u p excluded = list_any (λ e. (e.writer == u) && (e.level == p)) excluded

-- each is one of a write of the read's
abbrev pub AreExcluded : System → Read → Occurrence → List Form → List Excluded → Type 0
AreExcluded context r w place excluded =
    All (λ e. (o : ReadAndWrite) → Contains (pairs_of r) o → o.write.number ≡ e.writer
    → IsExcluded context w place o e) excluded

-- Sums were added that refute these systems, in each context that is made as these rows
pub record AddsRefutations (context : System) (systems : Context → List RowSystem)
    (old new : List Proof) : Type 0 where
  pub refuted : (c : Context) (before : List RowSystem) → IsMadeAs context c
      → AreRefuted before old → AreRefuted (before ++ systems c) new
  pub sums : All IsSum old → All IsSum new

-- the proof is a Sum whose multiples stay within 128 bits
abbrev pub CanBeCarried : List (List Term) → Proof → Type 0
CanBeCarried sums proof = (ts : List Term) × (proof ≡ Sum ts) × CarryFits sums ts

-- the Sum, where each row has these terms in its place
abbrev pub IsCarried : List (List Term) → Proof → Proof → Type 0
IsCarried sums proof carried =
    (ts : List Term) → proof ≡ Sum ts → carried ≡ Sum (carried_terms (sum_in_place sums) ts)

-- Terms in the places of the order rows of z before j, where z stands before y by equal loops and
-- then strictly, and y before j at level q by order rows from this one on: each is an order row of
-- y and j and terms.
abbrev pub order_sums : List Equality → Option (List Term) → ℕ → ℕ → List (List Term)
order_sums [] None q start = []
order_sums [] (Some strict) zero start = (term_of start ∷ strict) ∷ []
order_sums [] (Some strict) (suc q) start = (term_of (start + 1) ∷ strict) ∷ []
order_sums (e ∷ equal) strict zero start = (term_of start ∷ e.below) ∷ []
order_sums (e ∷ equal) strict (suc q) start =
    (term_of start ∷ e.above) ∷ (term_of (start + 1) ∷ e.below)
    ∷ order_sums equal strict q (start + 2)
