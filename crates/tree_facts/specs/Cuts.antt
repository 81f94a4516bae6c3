-- Proofs of systems with rows that Cuts of their other rows add, as proofs of the systems without these.
use Rattle.std.specs.Prelude.{ℕ, ◌+◌, List, [], ◌∷◌, if◌then◌else◌}
use Rattle.int_polyhedra.specs.declared.system.Proof.{Proof}
use Rattle.int_polyhedra.specs.declared.system.Proof.TheViews as proof
use Rattle.tree_cuts.specs.declared.cuts.Cut.{Cut}
use Rattle.tree_trim.specs.Proofs.{names_row}
use Rattle.tree_trim.specs.Renumbering.{proof_behind, proof_without}

-- Row k is what the Cut adds to the other n rows. A proof that names it begins with the Cut, and one that
-- doesn't does without it.
abbrev pub proof_by_cut : ℕ → ℕ → Cut → Proof → Proof
proof_by_cut k n cut p =
    if names_row k p then proof.Cut cut.divisor cut.terms (proof_behind k n p)
    else proof_without k p

-- the rows from k on are what these Cuts add to the other n rows
abbrev pub proof_by_cuts : ℕ → ℕ → List Cut → Proof → Proof
proof_by_cuts k n [] p = p
proof_by_cuts k n (cut ∷ cuts) p = proof_by_cut k n cut (proof_by_cuts (k + 1) (n + 1) cuts p)
