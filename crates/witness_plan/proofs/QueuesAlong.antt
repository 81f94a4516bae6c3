-- What the queues of a network have had along a schedule, one event more and many.
--
-- The invariant is `queue_at`: of each channel the tokens that were put and got at the cut to which the schedule leads, and the
-- greatest length of its queue along the schedule. An event's effect changes the totals of its own channel alone, as the event
-- moves the cut on: a Get and a Put add one to what was got or put, which fits since a script is short, and only a Put can raise
-- the greatest length, to the length that it leads to. So behind the effects of so many events that a process has left the
-- totals are those along the schedule with so many entries of it more. Whether the events could come isn't asked: both totals
-- are kept, and not their difference, which would be wrong after a Get without a token.
use Rattle.std.proofs.Common.{◌≡◌, ◌+◌, ◌-◌, ◌<◌, ◌≤◌, ◌^◌, ℕ, zero, suc, max, min, Bool, true, false, cond, Option, Some, None}
use Rattle.std.proofs.Common.{List, [], ◌∷◌, ◌++◌, length, map, take, set, replicate, count_by, slice_get, refl, sym, ap, ◌∙◌}
use Rattle.std.proofs.Common.{arith, eq-eqb, ne_eqb, append_assoc, append-nil}
use Rattle.std.specs.List.{range_with_len}
use Rattle.std.proofs.lemmas.List.FromFn.{get_or-map-range_with_len}
use Rattle.std.proofs.lemmas.List.Sums.{count_by-le-length}
use mathlib.Core.Path.{fun_ext}
use Rattle.net_core.specs.declared.network.Event.{Event}
use Rattle.net_core.specs.declared.network.Event.TheVariants.{Get, Fire, Put}
use Rattle.net_core.specs.Cuts.{cut_after, gets_at, opening, puts_at}
use Rattle.net_core.specs.Machine.{Net}
use Rattle.net_core.specs.Shape.{FitsNumbers, IsWired, is_get, is_put}
use Rattle.net_core.proofs.CountedLists.{set_at}
use Rattle.net_core.proofs.CutOrder.{cut_after-append}
use Rattle.net_core.proofs.Positions.{gets_advanced, puts_advanced}
use Rattle.net_core.proofs.Ready.{count_all, script_short}
use Rattle.witness_plan.specs.Effects.{after_effect, after_effects, effect_of, no_totals, queue_at, with_get, with_put}
use Rattle.witness_plan.specs.Records.{left_after}
use Rattle.witness_plan.specs.Sequential.{greatest_length}
use Rattle.witness_plan.specs.declared.queues.QueueTotals.{QueueTotals}
use Rattle.witness_plan.proofs.GreatestLengths.{greatest_more, greatest_other}
use Rattle.witness_plan.proofs.LeftEvents.{left_next, nothing_left}

-- One event more

same_totals : (puts puts' gets gets' greatest greatest' : ℕ) → puts ≡ puts' → gets ≡ gets' → greatest ≡ greatest'
    → (let t : QueueTotals = record { puts = puts; gets = gets; greatest = greatest } in t)
    ≡ record { puts = puts'; gets = gets'; greatest = greatest' }
same_totals puts puts' gets gets' greatest greatest' e f g = cc

module _ (net : Net) (wired : IsWired net) (schedule : List ℕ) (p : ℕ) (e : Event)
    (is : slice_get (net.script p) (cut_after opening schedule p) ≡ Some e) where
  puts_then : (c : ℕ) (b : Bool) → is_put c e ≡ b
      → puts_at net (cut_after opening (schedule ++ p ∷ [])) c ≡ puts_at net (cut_after opening schedule) c + cond b 1 0
  puts_then c b t =
      ap (λ k. puts_at net k c) (cut_after-append opening schedule (p ∷ []))
      ∙ puts_advanced net wired (cut_after opening schedule) p e c is
      ∙ ap (λ x. puts_at net (cut_after opening schedule) c + cond x 1 0) t

  gets_then : (c : ℕ) (b : Bool) → is_get c e ≡ b
      → gets_at net (cut_after opening (schedule ++ p ∷ [])) c ≡ gets_at net (cut_after opening schedule) c + cond b 1 0
  gets_then c b t =
      ap (λ k. gets_at net k c) (cut_after-append opening schedule (p ∷ []))
      ∙ gets_advanced net wired (cut_after opening schedule) p e c is
      ∙ ap (λ x. gets_at net (cut_after opening schedule) c + cond x 1 0) t

  -- the event is of another channel
  totals_other : (c : ℕ) → is_put c e ≡ false → is_get c e ≡ false
      → queue_at net schedule c ≡ queue_at net (schedule ++ p ∷ []) c
  totals_other c f g =
      let puts = puts_then c false f in
      let gets = gets_then c false g in
      same_totals _ _ _ _ _ _ (omega arith) (omega arith) (greatest_other net wired schedule p e is c f)

-- a channel has no more Gets or Puts than its process has events
few_gets : (net : Net) → IsWired net → FitsNumbers net → (schedule : List ℕ) (p d slot : ℕ)
    → slice_get (net.script p) (cut_after opening schedule p) ≡ Some (Get d slot)
    → gets_at net (cut_after opening schedule) d + 1 < 2 ^ 32
few_gets net wired numbers schedule p d slot is =
    let k = cut_after opening schedule in
    let reader : net.reader d ≡ p = wired.get_reader p (k p) d slot is in
    let here : gets_at net k d ≡ count_by (is_get d) (take (k p) (net.script p)) =
    ap (λ q. count_by (is_get d) (take (k q) (net.script q))) reader in
    omega (
      arith,
      here,
      count_all (is_get d) (net.script p) (k p) (Get d slot) is (eq-eqb d d refl),
      count_by-le-length (is_get d) (net.script p),
      script_short net wired numbers p,
    )

few_puts : (net : Net) → IsWired net → FitsNumbers net → (schedule : List ℕ) (p d : ℕ)
    → slice_get (net.script p) (cut_after opening schedule p) ≡ Some (Put d)
    → puts_at net (cut_after opening schedule) d + 1 < 2 ^ 32
few_puts net wired numbers schedule p d is =
    let k = cut_after opening schedule in
    let writer : net.writer d ≡ p = wired.put_writer p (k p) d is in
    let here : puts_at net k d ≡ count_by (is_put d) (take (k p) (net.script p)) =
    ap (λ q. count_by (is_put d) (take (k q) (net.script q))) writer in
    omega (
      arith,
      here,
      count_all (is_put d) (net.script p) (k p) (Put d) is (eq-eqb d d refl),
      count_by-le-length (is_put d) (net.script p),
      script_short net wired numbers p,
    )

totals_got : (net : Net) → IsWired net → FitsNumbers net → (schedule : List ℕ) (p d slot : ℕ)
    → slice_get (net.script p) (cut_after opening schedule p) ≡ Some (Get d slot)
    → queue_at net (schedule ++ p ∷ []) d ≡ with_get (queue_at net schedule d)
totals_got net wired numbers schedule p d slot is =
    let puts = puts_then net wired schedule p (Get d slot) is d false refl in
    let gets = gets_then net wired schedule p (Get d slot) is d true (eq-eqb d d refl) in
    same_totals _ _ _ _ _ _ (omega arith) (omega (arith, few_gets net wired numbers schedule p d slot is))
    (sym (greatest_other net wired schedule p (Get d slot) is d refl))

totals_put : (net : Net) → IsWired net → FitsNumbers net → (schedule : List ℕ) (p d : ℕ)
    → slice_get (net.script p) (cut_after opening schedule p) ≡ Some (Put d)
    → queue_at net (schedule ++ p ∷ []) d ≡ with_put (queue_at net schedule d)
totals_put net wired numbers schedule p d is =
    let puts = puts_then net wired schedule p (Put d) is d true (eq-eqb d d refl) in
    let gets = gets_then net wired schedule p (Put d) is d false refl in
    let few = few_puts net wired numbers schedule p d is in
    let more : puts_at net (cut_after opening (schedule ++ p ∷ [])) d
    ≡ min (puts_at net (cut_after opening schedule) d + 1) 4294967295 = omega arith in
    let same : gets_at net (cut_after opening (schedule ++ p ∷ [])) d ≡ gets_at net (cut_after opening schedule) d =
    omega arith in
    same_totals _ _ _ _ _ _ more same
    (greatest_more net schedule p d
    ∙ ap (λ k. max (greatest_length net schedule d) (puts_at net k d - gets_at net k d))
    (sym (cut_after-append opening schedule (p ∷ [])))
    ∙ ap (λ n. max (greatest_length net schedule d) (n - gets_at net (cut_after opening (schedule ++ p ∷ [])) d)) more
    ∙ ap (λ n. max (greatest_length net schedule d)
    (min (puts_at net (cut_after opening schedule) d + 1) 4294967295 - n)) same)

-- the totals after the effect of one event
queues_next : (net : Net) → IsWired net → FitsNumbers net → (schedule : List ℕ) (p : ℕ) (e : Event)
    → slice_get (net.script p) (cut_after opening schedule p) ≡ Some e
    → after_effect (map (queue_at net schedule) (range_with_len 0 net.channels)) (effect_of e)
    ≡ map (queue_at net (schedule ++ p ∷ [])) (range_with_len 0 net.channels)
queues_next net wired numbers schedule p (Get d slot) is =
    let f = queue_at net schedule in
    let there = wired.get_channel p (cut_after opening schedule p) d slot is in
    ap (λ t. set (map f (range_with_len 0 net.channels)) d (with_get t))
    (get_or-map-range_with_len f 0 net.channels d d no_totals there (omega arith))
    ∙ set_at f (queue_at net (schedule ++ p ∷ [])) net.channels d (with_get (f d)) there
    (totals_got net wired numbers schedule p d slot is)
    (λ c ne. totals_other net wired schedule p (Get d slot) is c refl (ne_eqb c d ne))
queues_next net wired numbers schedule p (Fire refs) is =
    let same : queue_at net schedule ≡ queue_at net (schedule ++ p ∷ []) =
    fun_ext (λ c. totals_other net wired schedule p (Fire refs) is c refl refl) in
    ap (λ (f : ℕ → QueueTotals). map f (range_with_len 0 net.channels)) same
queues_next net wired numbers schedule p (Put d) is =
    let f = queue_at net schedule in
    let there = wired.put_channel p (cut_after opening schedule p) d is in
    ap (λ t. set (map f (range_with_len 0 net.channels)) d (with_put t))
    (get_or-map-range_with_len f 0 net.channels d d no_totals there (omega arith))
    ∙ set_at f (queue_at net (schedule ++ p ∷ [])) net.channels d (with_put (f d)) there
    (totals_put net wired numbers schedule p d is)
    (λ c ne. totals_other net wired schedule p (Put d) is c (ne_eqb c d ne) refl)

-- Many events

-- the totals behind the first so many effects that a process has left are those with so many entries of it more
abbrev ArePassed : Net → ℕ → ℕ → List ℕ → Type 0
ArePassed net p m schedule = m ≤ length (left_after net schedule p)
    → after_effects (map (queue_at net schedule) (range_with_len 0 net.channels))
    (take m (map effect_of (left_after net schedule p)))
    ≡ map (queue_at net (schedule ++ replicate m p)) (range_with_len 0 net.channels)

passed_next : (net : Net) → IsWired net → FitsNumbers net → (p m : ℕ) (schedule : List ℕ)
    → ArePassed net p m (schedule ++ p ∷ []) → (o : Option Event)
    → slice_get (net.script p) (cut_after opening schedule p) ≡ o → ArePassed net p (suc m) schedule
passed_next net wired numbers p m schedule later None is le =
    absurd (omega (arith, ap length (nothing_left net schedule p is)))
passed_next net wired numbers p m schedule later (Some e) is le =
    let left = left_next net schedule (schedule ++ p ∷ []) p refl e is in
    let queues = map (queue_at net schedule) (range_with_len 0 net.channels) in
    ap (λ es. after_effects queues (take (suc m) (map effect_of es))) left
    ∙ ap (λ qs. after_effects qs (take m (map effect_of (left_after net (schedule ++ p ∷ []) p))))
    (queues_next net wired numbers schedule p e is)
    ∙ later (omega (arith, ap length left))
    ∙ ap (λ s. map (queue_at net s) (range_with_len 0 net.channels)) (append_assoc schedule (p ∷ []) (replicate m p))

pub queues_passed : (net : Net) → IsWired net → FitsNumbers net → (p m : ℕ) (schedule : List ℕ)
    → ArePassed net p m schedule
queues_passed net wired numbers p zero schedule le =
    ap (λ s. map (queue_at net s) (range_with_len 0 net.channels)) (sym (append-nil schedule))
queues_passed net wired numbers p (suc m) schedule le =
    passed_next net wired numbers p m schedule (queues_passed net wired numbers p m (schedule ++ p ∷ []))
    (slice_get (net.script p) (cut_after opening schedule p)) refl le
