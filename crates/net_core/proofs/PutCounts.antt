-- The Puts of a channel in all scripts are those in its writer's.
--
-- In a wired network nobody but its writer puts to a channel. So of the scripts of the first so many processes
-- those before the writer's have no such Put (`other_puts`), and from the writer's on each of its Puts is counted
-- (`puts_of_writer`): by induction on how many scripts are counted. They are no more than the events of these
-- scripts, which only grow in number (`puts_within`, `events_grow`), so where all events fit 32 bits the counts
-- do. It is of scripts alone: whether a Put ever comes isn't asked.
use Rattle.std.proofs.Common.{◌≡◌, ℕ, zero, suc, ◌+◌, ◌<◌, ◌≤◌, List, [], ◌∷◌, Bool, false, cond}
use Rattle.std.proofs.Common.{Some, slice_get, count_by, refl, sym, ap, inl, inr, arith}
use Rattle.std.proofs.lemmas.Bool.{cases_eq, cases_Bool}
use Rattle.std.proofs.lemmas.List.Sums.{count_by-le-length}
use Rattle.net_core.specs.Machine.{Net}
use Rattle.net_core.specs.Shape.{is_put, put_count, IsWired, events_below}
use Rattle.net_core.proofs.EventCounts.{count_cons}
use Rattle.net_core.proofs.TwoSteps.{put_writer}

-- the Puts of a channel in the scripts of the first so many processes
abbrev pub puts_below : Net → ℕ → ℕ → ℕ
puts_below n c zero = 0
puts_below n c (suc p) = puts_below n c p + count_by (is_put c) (n.script p)

pub puts_within : (n : Net) (c p : ℕ) → puts_below n c p ≤ events_below n p
puts_within n c zero = omega arith
puts_within n c (suc p) = omega (arith, puts_within n c p, count_by-le-length (is_put c) (n.script p))

pub events_grow : (n : Net) (p m : ℕ) → p ≤ m → events_below n p ≤ events_below n m
events_grow n p zero le = let none : p ≡ 0 = omega arith in rw none (omega arith)
events_grow n p (suc m) le =
    elim (cases_eq p (suc m)) [
      | inl same ↦ rw same (omega arith)
      | inr other ↦ omega (arith, events_grow n p m (omega arith))
    ]

pub count_by-none : {X : Type 0} (q : X → Bool) (xs : List X) → ((k : ℕ) (x : X) → slice_get xs k ≡ Some x → q x ≡ false)
    → count_by q xs ≡ 0
count_by-none q [] h = refl
count_by-none q (x ∷ xs) h =
    let here : cond {A = ℕ} (q x) 1 0 ≡ 0 = ap (λ b. cond {A = ℕ} b 1 0) (h 0 x refl) in
    omega (arith, count_cons q x xs, count_by-none q xs (λ k y is. h (suc k) y is))

-- a process that isn't the writer puts nothing
other_puts : (n : Net) → IsWired n → (c p : ℕ) → (n.writer c ≡ p → ⊥) → count_by (is_put c) (n.script p) ≡ 0
other_puts n wired c p other =
    count_by-none (is_put c) (n.script p) (λ k e is. elim (cases_Bool (is_put c e)) [
      | inl put ↦ absurd (other (put_writer n wired p k c e is put))
      | inr not_put ↦ not_put
    ])

puts_of_writer : (n : Net) → IsWired n → (c p : ℕ)
    → (n.writer c < p → puts_below n c p ≡ put_count n c) × (p ≤ n.writer c → puts_below n c p ≡ 0)
puts_of_writer n wired c zero = (λ lt. absurd (omega arith), λ le. refl)
puts_of_writer n wired c (suc p) =
    let before = puts_of_writer n wired c p in
    elim (cases_eq (n.writer c) p) [
      | inl same ↦
          let here : count_by (is_put c) (n.script p) ≡ put_count n c =
          ap (λ q. count_by (is_put c) (n.script q)) (sym same) in
          (λ lt. omega (arith, before.1 (omega arith)), λ le. absurd (omega arith))
      | inr other ↦
          let none = other_puts n wired c p other in
          (λ lt. omega (arith, before.0 (omega arith)), λ le. omega (arith, before.1 (omega arith)))
    ]

pub all_puts : (n : Net) → IsWired n → (c : ℕ) → c < n.channels → puts_below n c n.processes ≡ put_count n c
all_puts n wired c there = (puts_of_writer n wired c n.processes).0 (wired.writers c there)
