-- The turns that a run gives.
--
-- A run's fires are points of its process one after the other, so by induction on how many there are the run gives its
-- process as many turns, and no other process one.
use Rattle.std.proofs.Common.{◌≡◌, ◌≢◌, ℕ, zero, suc, ◌+◌, cond, refl, ap, ◌∙◌, arith, subst}
use Rattle.std.specs.Prelude.{◌==◌}
use Rattle.std.proofs.lemmas.Bool.{eq-eqb, ne_eqb}
use Rattle.fire_runs.proofs.TraceRuns.{HasRun, IsFire}
use Rattle.net_core.proofs.EventCounts.{count_next}
use Rattle.sanlp.specs.Trace.{trace}
use Rattle.sanlp.specs.declared.nest.Nest.{Nest}
use Rattle.sanlp.specs.declared.nest.Point.{Point}
use Rattle.witness_plan.proofs.InTraceOrder.{turns_before}

-- a run without its first fire
pub later_run : (n : Nest) (p t count : ℕ) → HasRun n p t (suc count) → HasRun n p (suc t) count
later_run n p t count run k below =
    let next : t + suc k ≡ suc t + k = omega arith in subst (λ s. IsFire n p s) next (run (suc k) (omega arith))

-- its first fire
pub first_fire : (n : Nest) (p t count : ℕ) → HasRun n p t (suc count) → IsFire n p t
first_fire n p t count run =
    let now : t + 0 ≡ t = omega arith in subst (λ s. IsFire n p s) now (run 0 (omega arith))

-- the turns of a process after one entry more
pub turns_next : (n : Nest) (p t r : ℕ) → IsFire n p t
    → turns_before (trace n) (suc t) r ≡ turns_before (trace n) t r + cond (p == r) 1 0
turns_next n p t r fire =
    count_next (λ (q : Point). q.statement == r) (trace n) t fire.point fire.found
    ∙ ap (λ s. turns_before (trace n) t r + cond (s == r) 1 0) fire.same

pub turns_own : (n : Nest) (p t count : ℕ) → HasRun n p t count
    → turns_before (trace n) (t + count) p ≡ turns_before (trace n) t p + count
turns_own n p t zero run =
    let now : t + 0 ≡ t = omega arith in ap (λ s. turns_before (trace n) s p) now ∙ omega arith
turns_own n p t (suc count) run =
    let next : t + suc count ≡ suc t + count = omega arith in
    let one = ap (λ b. turns_before (trace n) t p + cond b 1 0) (eq-eqb p p refl) in
    omega (
      arith,
      ap (λ s. turns_before (trace n) s p) next,
      turns_own n p (suc t) count (later_run n p t count run),
      turns_next n p t p (first_fire n p t count run),
      one,
    )

pub turns_other : (n : Nest) (p t count r : ℕ) → p ≢ r → HasRun n p t count
    → turns_before (trace n) (t + count) r ≡ turns_before (trace n) t r
turns_other n p t zero r other run =
    let now : t + 0 ≡ t = omega arith in ap (λ s. turns_before (trace n) s r) now
turns_other n p t (suc count) r other run =
    let next : t + suc count ≡ suc t + count = omega arith in
    let none = ap (λ b. turns_before (trace n) t r + cond b 1 0) (ne_eqb p r other) in
    omega (
      arith,
      ap (λ s. turns_before (trace n) s r) next,
      turns_other n p (suc t) count r other (later_run n p t count run),
      turns_next n p t r (first_fire n p t count run),
      none,
    )
