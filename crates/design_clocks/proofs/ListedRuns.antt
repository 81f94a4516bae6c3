-- A run whose states are kept in lists, by which examples are computed.
--
-- Written out, an edge asks the state before it for the same registers again and again. A list of what a function
-- gives for the first numbers, with the function itself for all others, is the function (`listed_from`). So a run
-- each of whose states is listed before the next one is made is the run, by induction over its edges
-- (`listed_run_is`). It changes how often a register is computed, and no register. No law rests on it.
use Rattle.std.proofs.Common.{◌≡◌, ℕ, zero, suc, ◌+◌, Option, Some, None, map, slice_get, refl, sym, ap, ◌∙◌, arith}
use Rattle.std.specs.List.{range_with_len}

-- what a list has for a number, and else what is given for it outright
abbrev pub listed_or : {X : Type 0} → Option X → (ℕ → X) → ℕ → X
listed_or None f p = f p
listed_or (Some x) f p = x

pub listed_from : {X : Type 0} (f : ℕ → X) (m a i p : ℕ) → p ≡ a + i
    → listed_or (slice_get (map f (range_with_len a m)) i) f p ≡ f p
listed_from f zero a i p sum = refl
listed_from f (suc m) a zero p sum = let same : a ≡ p = omega arith in ap f same
listed_from f (suc m) a (suc i) p sum = listed_from f m (a + 1) i p (omega arith)

module _ {D : Type 0} (listed : D → D) (first : D) (edge : D → D) where
  -- the state after so many edges
  abbrev pub listed_run : ℕ → D
  listed_run zero = listed first
  listed_run (suc k) = listed (edge (listed_run k))

  pub listed_run_is : ((d : D) → listed d ≡ d) → (after : ℕ → D) → after 0 ≡ first
      → ((k : ℕ) → after (suc k) ≡ edge (after k)) → (k : ℕ) → listed_run k ≡ after k
  listed_run_is same after begins goes zero = same first ∙ sym begins
  listed_run_is same after begins goes (suc k) =
      same (edge (listed_run k)) ∙ ap edge (listed_run_is same after begins goes k) ∙ sym (goes k)
