-- Cuts along a schedule that grows at its end.
use Rattle.std.proofs.Common.{◌≡◌, ℕ, zero, suc, ◌+◌, ◌≤◌, List, [], ◌∷◌, ◌++◌, replicate, refl, ◌∙◌, inl, inr, arith}
use Rattle.std.proofs.Common.{ap}
use Rattle.std.proofs.lemmas.Bool.{cases_eq}
use Rattle.net_core.specs.Cuts.{Cut, IsCutRun, advanced, cut_after, opening}
use Rattle.net_core.specs.Machine.{Net}
use Rattle.net_core.proofs.CutOrder.{advanced_here, advanced_there, cut_after-append}

-- a cut is nowhere past the one after a process's step
pub le-advanced : (k : Cut) (p q : ℕ) → k q ≤ advanced k p q
le-advanced k p q =
    elim (cases_eq q p) [
      | inl same ↦ omega (arith, advanced_here k p q same)
      | inr other ↦ omega (arith, advanced_there k p q other)
    ]

-- one run after another
pub IsCutRun-append : (n : Net) (run more : List ℕ) (k : Cut) → IsCutRun n k run → IsCutRun n (cut_after k run) more
    → IsCutRun n k (run ++ more)
IsCutRun-append n [] more k first later = later
IsCutRun-append n (p ∷ run) more k first later =
    (first.0, IsCutRun-append n run more (advanced k p) first.1 later)

-- one event more
pub cut_after-push : (run more : List ℕ) (p : ℕ) → more ≡ run ++ p ∷ []
    → cut_after opening more ≡ advanced (cut_after opening run) p
cut_after-push run more p grown = ap (cut_after opening) grown ∙ cut_after-append opening run (p ∷ [])

-- many events of one process
pub cut_here : (k : Cut) (m p : ℕ) → cut_after k (replicate m p) p ≡ k p + m
cut_here k zero p = omega arith
cut_here k (suc m) p = omega (arith, cut_here (advanced k p) m p, advanced_here k p p refl)

pub cut_there : (k : Cut) (m p q : ℕ) → (q ≡ p → ⊥) → cut_after k (replicate m p) q ≡ k q
cut_there k zero p q d = refl
cut_there k (suc m) p q d = cut_there (advanced k p) m p q d ∙ advanced_there k p q d
