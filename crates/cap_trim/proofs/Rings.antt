-- Where processes wait for one another in a ring, and no channel but one is full there, that channel needs a place more.
--
-- Take the same network with other capacities, of which only that of this channel is no greater. In each of its runs no
-- process of the ring comes further than where it waits (`no_further`): the first that did would get a token that the next
-- one hasn't put, or find a place that the next one hasn't made, for neither has that one come further. So the network
-- doesn't end with these capacities (`never_ends`). How much room the other channels have doesn't matter, nor which processes
-- stand round the ring. That one place more is enough isn't said.
use Rattle.std.proofs.Common.{◌≡◌, ℕ, zero, suc, ◌+◌, ◌<◌, ◌≤◌, true, false, Option, Some, None, List, [], ◌∷◌, length}
use Rattle.std.proofs.Common.{slice_get, refl, sym, ap, ◌∙◌, subst, inl, inr, arith, ltb-false, eqb-true, add-one}
use Rattle.std.specs.Fn.{iterate}
use Rattle.std.proofs.lemmas.Bool.{both_ways, cases_eq, cases_lt, false≢true, le-ltb}
use Rattle.std.proofs.lemmas.Option.{slice_get_past}
use Rattle.net_core.specs.declared.network.Event.{Event}
use Rattle.net_core.specs.declared.network.Event.TheVariants.{Get, Fire, Put}
use Rattle.net_core.specs.Cuts.{Cut, IsCutRun, advanced, can_come_at, cut_after, enabled_at, gets_at, opening, puts_at}
use Rattle.net_core.specs.Machine.{Net}
use Rattle.net_core.specs.Shape.{IsWired}
use Rattle.net_core.proofs.CutOrder.{advanced_there, gets_mono, puts_mono}
use Rattle.net_core.proofs.EventCounts.{replaced_same}
use Rattle.witness_plan.proofs.OtherCapacities.{wired_at}
use Rattle.cap_trim.specs.Capacities.{trimmed_network, trimmed_network_below, with_room}
use Rattle.cap_trim.specs.Rests.{can_end, least_run}
use Rattle.cap_trim.specs.Rings.{IsRing, other_end, waits_at, waits_for}
use Rattle.cap_trim.proofs.AtRest.{ends_at_rest, least_cuts}
use Rattle.cap_trim.proofs.LeastCapacities.{before_ends, before_is}

iterate-suc : (f : ℕ → ℕ) (i p : ℕ) → iterate f (suc i) p ≡ f (iterate f i p)
iterate-suc f zero p = refl
iterate-suc f (suc i) p = iterate-suc f i (f p)

-- So many processes on from the first one stands this, and each before it waits for the next.
pub record IsPath (n : Net) (k : Cut) (c first i process : ℕ) : Type 0 where
  pub at : iterate (waits_for n k) i first ≡ process
  pub waits : (j : ℕ) → j < i
      → waits_at c (slice_get (n.script (iterate (waits_for n k) j first)) (k (iterate (waits_for n k) j first))) ≡ true

pub path_none : (n : Net) (k : Cut) (c first : ℕ) → IsPath n k c first 0 first
path_none n k c first = record { at = refl; waits = λ j lt. absurd (omega arith) }

-- one process more
pub path_more : (n : Net) (k : Cut) (c first i process next : ℕ) → IsPath n k c first i process
    → waits_at c (slice_get (n.script process) (k process)) ≡ true → next ≡ waits_for n k process
    → IsPath n k c first (i + 1) next
path_more n k c first i process next path waiting is = record {
  at = ap (λ j. iterate (waits_for n k) j first) (add-one i) ∙ iterate-suc (waits_for n k) i first
      ∙ ap (waits_for n k) path.at ∙ sym is;
  waits = λ j lt. elim (cases_lt j i) [
    | inl before ↦ path.waits j before
    | inr ge ↦
        let here : iterate (waits_for n k) j first ≡ process =
        ap (λ l. iterate (waits_for n k) l first) (let same : j ≡ i = omega arith in same) ∙ path.at in
        ap (λ q. waits_at c (slice_get (n.script q) (k q))) here ∙ waiting
  ];
}

-- back at the first one
pub path_ring : (n : Net) (k : Cut) (c first i process : ℕ) → IsPath n k c first (i + 1) process → process ≡ first
    → IsRing n k c first
path_ring n k c first i process path same = record {
  size = i + 1;
  some = omega arith;
  back = path.at ∙ same;
  waits = path.waits;
}

module _ (n : Net) (wired : IsWired n) (m : Cut) (c p : ℕ) (ring : IsRing n m c p) where
  -- the processes of the ring, from p on, and round and round
  abbrev member : ℕ → ℕ
  member i = iterate (waits_for n m) i p

  member_next : (i : ℕ) → member (suc i) ≡ waits_for n m (member i)
  member_next i = iterate-suc (waits_for n m) i p

  member_same : (i j : ℕ) → member i ≡ member j → member (suc i) ≡ member (suc j)
  member_same i j same = member_next i ∙ ap (waits_for n m) same ∙ sym (member_next j)

  -- each is one of the first round
  in_round : (i : ℕ) → (j : ℕ) × (j < ring.size) × (member i ≡ member j)
  in_round zero = (0, ring.some, refl)
  in_round (suc i) =
      let before = in_round i in
      elim (cases_lt (suc before.0) ring.size) [
        | inl lt ↦ (suc before.0, lt, member_same i before.0 before.2)
        | inr ge ↦
            let last : suc before.0 ≡ ring.size = omega (arith, before.1) in
            (0, ring.some, member_same i before.0 before.2 ∙ ap member last ∙ ring.back)
      ]

  waits : (i : ℕ) → waits_at c (slice_get (n.script (member i)) (m (member i))) ≡ true
  waits i =
      let same = in_round i in
      ap (λ q. waits_at c (slice_get (n.script q) (m q))) same.2 ∙ ring.waits same.0 same.1

  -- no process of the ring has come further
  abbrev Holds : Cut → Type 0
  Holds k = (i : ℕ) → k (member i) ≤ m (member i)

  module _ (some : ℕ → ℕ) (stuck : (q : ℕ) → enabled_at (with_room n some) m q ≡ false) (room : ℕ → ℕ)
      (least : room c ≤ some c) where
    -- where it waits, it isn't enabled
    still : (k : Cut) → Holds k → (i : ℕ) → k (member i) ≡ m (member i) → (o : Option Event)
        → slice_get (n.script (member i)) (m (member i)) ≡ o → enabled_at (with_room n room) k (member i) ≡ false
    still k holds i here None is = absurd (false≢true (ap (waits_at c) (sym is) ∙ waits i))
    still k holds i here (Some (Get d slot)) is =
        let q : ℕ = member i in
        let reader : n.reader d ≡ q = wired.get_reader q (m q) d slot is in
        let next : member (suc i) ≡ n.writer d = member_next i ∙ ap (other_end n q) is in
        let puts = puts_mono n k m d (subst (λ w. k w ≤ m w) next (holds (suc i))) in
        let gets = gets_mono n m k d (omega (arith, here, ap m reader, ap k reader)) in
        let shut : can_come_at (with_room n some) m (Some (Get d slot)) ≡ false =
        ap (can_come_at (with_room n some) m) (sym is) ∙ stuck q in
        let none = ltb-false (gets_at n m d) (puts_at n m d) shut in
        ap (λ x. can_come_at (with_room n room) k (slice_get (n.script q) x)) here
        ∙ ap (can_come_at (with_room n room) k) is ∙ le-ltb (gets_at n k d) (puts_at n k d) (omega arith)
    still k holds i here (Some (Fire refs)) is = absurd (false≢true (ap (waits_at c) (sym is) ∙ waits i))
    still k holds i here (Some (Put d)) is =
        let q : ℕ = member i in
        let this : c ≡ d = eqb-true c d (ap (waits_at c) (sym is) ∙ waits i) in
        let writer : n.writer d ≡ q = wired.put_writer q (m q) d is in
        let next : member (suc i) ≡ n.reader d = member_next i ∙ ap (other_end n q) is in
        let gets = gets_mono n k m d (subst (λ w. k w ≤ m w) next (holds (suc i))) in
        let puts = puts_mono n m k d (omega (arith, here, ap m writer, ap k writer)) in
        let shut : can_come_at (with_room n some) m (Some (Put d)) ≡ false =
        ap (can_come_at (with_room n some) m) (sym is) ∙ stuck q in
        let full = ltb-false (puts_at n m d) (gets_at n m d + some d) shut in
        ap (λ x. can_come_at (with_room n room) k (slice_get (n.script q) x)) here
        ∙ ap (can_come_at (with_room n room) k) is
        ∙ le-ltb (puts_at n k d) (gets_at n k d + room d) (omega (arith, least, ap room this, ap some this))

    one_step : (k : Cut) (q : ℕ) → Holds k → enabled_at (with_room n room) k q ≡ true → Holds (advanced k q)
    one_step k q holds on i =
        elim (cases_eq (member i) q) [
          | inl same ↦
              let moved : advanced k q (member i) ≡ suc (k q) = replaced_same k q (suc (k q)) (member i) same in
              elim (cases_lt (k (member i)) (m (member i))) [
                | inl before ↦ omega (arith, ap k same)
                | inr there ↦
                    absurd (both_ways (enabled_at (with_room n room) k (member i))
                    (still k holds i (omega (arith, holds i)) (slice_get (n.script (member i)) (m (member i))) refl)
                    (ap (enabled_at (with_room n room) k) same ∙ on))
              ]
          | inr other ↦ omega (arith, advanced_there k q (member i) other, holds i)
        ]

    no_further : (run : List ℕ) (k : Cut) → Holds k → IsCutRun (with_room n room) k run → Holds (cut_after k run)
    no_further [] k holds is = holds
    no_further (q ∷ run) k holds is = no_further run (advanced k q) (one_step k q holds is.0) is.1

    -- p isn't at its script's end
    unended : m p < length (n.script p)
    unended =
        elim (cases_lt (m p) (length (n.script p))) [
          | inl lt ↦ lt
          | inr past ↦
              absurd (false≢true (ap (waits_at c) (sym (slice_get_past (n.script p) (m p) past)) ∙ waits 0))
        ]

    pub never_ends : can_end (with_room n room) ≡ true → ⊥
    never_ends can =
        let there : IsWired (with_room n room) = wired_at n room wired in
        let run : List ℕ = least_run (with_room n room) in
        let low : cut_after opening run p ≤ m p =
        no_further run opening (λ i. omega arith) (least_cuts (with_room n room) there) 0 in
        let end : cut_after opening run p ≡ length (n.script p) = ends_at_rest (with_room n room) there can p in
        omega (arith, low, end, unended)

  -- so with the least capacities the channel has a place more than where they wait
  one_more_below : (some : ℕ → ℕ) → ((q : ℕ) → enabled_at (with_room n some) m q ≡ false) → can_end n ≡ true
      → some c + 1 ≤ (trimmed_network_below n n.channels).capacity c
  one_more_below some stuck can =
      elim (cases_lt (some c) ((trimmed_network_below n n.channels).capacity c)) [
        | inl lt ↦ omega arith
        | inr ge ↦
            absurd (never_ends some stuck (trimmed_network_below n n.channels).capacity ge
            (ap can_end (sym (before_is n n.channels)) ∙ before_ends n n.channels can))
      ]

  pub needs_one_more : (some : ℕ → ℕ) → ((q : ℕ) → enabled_at (with_room n some) m q ≡ false) → can_end n ≡ true
      → some c + 1 ≤ (trimmed_network n).capacity c
  unfolding trimmed_network
  needs_one_more some stuck can = one_more_below some stuck can
