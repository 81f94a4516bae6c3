-- A channel never needs a capacity above the number of its tokens, and what it needs alone is a lower bound.
--
-- A Put that is still to come finds fewer Puts before it than there are in all. So where its channel's capacity lets it
-- come, the lesser of that and the channel's tokens does, and a run stays one (`limited_runs`). Now let a network end with
-- some capacities, and let those of all other channels be the numbers of their tokens: these are in no channel less than
-- the limited ones, so it ends with this channel's own capacity; hence the least one is no greater. Bounds that are met
-- show a least sum; that they are met isn't a matter of this file.
use Rattle.std.proofs.Common.{◌≡◌, ℕ, zero, suc, ◌+◌, ◌<◌, ◌≤◌, min, true, Option, Some, None, List, [], ◌∷◌}
use Rattle.std.proofs.Common.{length, take, slice_get, count_by, ap, sym, ◌∙◌, refl, inl, inr, arith, ltb-true, lt-ltb}
use Rattle.std.proofs.Common.{eq-eqb}
use Rattle.std.specs.List.{range_with_len, sum_by}
use Rattle.std.proofs.lemmas.Bool.{both_ways, cases_Bool, cases_eq, cases_lt, false_from_ne_true}
use Rattle.std.proofs.lemmas.List.{take_all}
use Rattle.std.proofs.lemmas.List.Sums.{sum_by-cons, sum_by-le-sum_by}
use Rattle.net_core.specs.declared.network.Event.{Event}
use Rattle.net_core.specs.declared.network.Event.TheVariants.{Get, Fire, Put}
use Rattle.net_core.specs.Cuts.{Cut, IsCutRun, advanced, can_come_at, cut_after, opening, puts_at}
use Rattle.net_core.specs.Machine.{Net, Rule, replaced, start, IsRun}
use Rattle.net_core.specs.Orders.{EndsAll}
use Rattle.net_core.specs.Rules.{tags}
use Rattle.net_core.specs.Shape.{IsWired, is_put, put_count}
use Rattle.net_core.proofs.EventCounts.{count_past, replaced_other, replaced_same}
use Rattle.net_core.proofs.Positions.{cut_run, enabled_inside, run_cut, run_ends, start_counted}
use Rattle.witness_plan.proofs.OtherCapacities.{wired_at}
use Rattle.cap_trim.specs.Capacities.{with_capacity, with_room}
use Rattle.cap_trim.specs.Rests.{can_end, least_run}
use Rattle.cap_trim.proofs.AtRest.{can_end_by, can_end_roomier, least_ends}
use Rattle.cap_trim.proofs.LeastCapacities.{least_does, least_is_own, least_within, less_sticks}
use Rattle.cap_trim.proofs.NoRoom.{no_room_no_puts}
use Rattle.network_laws.specs.LowerBounds.{capacity_bound, total_capacity}

module _ (n : Net) (wired : IsWired n) (capacities : ℕ → ℕ) where
  -- nowhere more than there are tokens
  abbrev pub limited : ℕ → ℕ
  limited c = min (capacities c) (put_count n c)

  -- a Put that is to come has fewer before it than there are
  puts_before : (k : Cut) (p c : ℕ) → slice_get (n.script p) (k p) ≡ Some (Put c) → k p < length (n.script p)
      → puts_at n k c < put_count n c
  puts_before k p c is inside =
      let w : n.writer c ≡ p = wired.put_writer p (k p) c is in
      let script = n.script p in
      let fewer : count_by (is_put c) (take (k p) script) < count_by (is_put c) (take (length script) script) =
      count_past (is_put c) script (k p) (length script) (Put c) is (eq-eqb c c refl) inside in
      let all : count_by (is_put c) (take (length script) script) ≡ count_by (is_put c) script =
      ap (count_by (is_put c)) (take_all (length script) script (omega arith)) in
      rw w (omega (arith, fewer, all))

  come_limited : (k : Cut) (p : ℕ) (o : Option Event) → slice_get (n.script p) (k p) ≡ o → k p < length (n.script p)
      → can_come_at (with_room n capacities) k o ≡ true → can_come_at (with_room n limited) k o ≡ true
  come_limited k p None is inside on = on
  come_limited k p (Some (Get c slot)) is inside on = on
  come_limited k p (Some (Fire refs)) is inside on = refl
  come_limited k p (Some (Put c)) is inside on =
      let had = ltb-true _ _ on in
      lt-ltb _ _ (omega (arith, had, puts_before k p c is inside))

  pub limited_runs : (run : List ℕ) (k : Cut) → IsCutRun (with_room n capacities) k run
      → IsCutRun (with_room n limited) k run
  limited_runs [] k is = tt
  limited_runs (p ∷ run) k is = (
    come_limited k p (slice_get (n.script p) (k p)) refl (enabled_inside (with_room n capacities) k p is.0) is.0,
    limited_runs run (advanced k p) is.1,
  )

  module _ {T : Type 0} (rule : Rule T) (run : List ℕ) (whole : EndsAll (with_room n capacities) rule run) where
    cuts : IsCutRun (with_room n capacities) opening run
    cuts =
        run_cut (with_room n capacities) rule (wired_at n capacities wired) run (start (with_room n capacities))
        (start_counted (with_room n capacities)) whole.0

    ended : (p : ℕ) → cut_after opening run p ≡ length (n.script p)
    ended p =
        sym (ap (λ (k : Cut). k p)
        (run_ends (with_room n capacities) rule run (start (with_room n capacities)) whole.0)) ∙ whole.1 p

    pub limited_can : can_end (with_room n limited) ≡ true
    limited_can =
        can_end_by (with_room n limited) (wired_at n limited wired) run (limited_runs run opening cuts) ended

    limited_is_run : IsRun (with_room n limited) rule (start (with_room n limited)) run
    limited_is_run =
        cut_run (with_room n limited) rule (wired_at n limited wired) run (start (with_room n limited))
        (start_counted (with_room n limited)) (limited_runs run opening cuts)

    pub limited_ends : EndsAll (with_room n limited) rule run
    limited_ends = (
      limited_is_run,
      λ p. ap (λ (k : Cut). k p) (run_ends (with_room n limited) rule run (start (with_room n limited)) limited_is_run)
          ∙ ended p,
    )

    -- Lower bounds

    -- the capacity of each channel is the number of its tokens
    abbrev full : Net
    full = with_room n (put_count n)

    can_alone : (c : ℕ) → capacities c ≤ put_count n c → can_end (with_capacity full c (capacities c)) ≡ true
    can_alone c few =
        can_end_roomier (with_room n limited) (wired_at n limited wired) (replaced (put_count n) c (capacities c))
        (λ d lt. elim (cases_eq d c) [
          | inl same ↦
              let here : capacities d ≡ capacities c = ap capacities same in
              omega (arith, here, replaced_same (put_count n) c (capacities c) d same)
          | inr other ↦ omega (arith, replaced_other (put_count n) c (capacities c) d other)
        ]) limited_can

    pub bounded : (c : ℕ) → capacity_bound n c ≤ capacities c
    bounded c =
        elim (cases_lt (capacities c) (capacity_bound n c)) [
          | inl low ↦
              let few : capacities c ≤ put_count n c = omega (arith, low, least_within full c) in
              absurd (both_ways (can_end (with_capacity full c (capacities c))) (less_sticks full c (capacities c) low)
              (can_alone c few))
          | inr high ↦ omega arith
        ]

    pub total_bounded : total_capacity n (capacity_bound n) ≤ total_capacity n capacities
    total_bounded = sum_by-le-sum_by (capacity_bound n) capacities (range_with_len 0 n.channels) bounded

-- a channel with a Put needs some
pub some_needed : (n : Net) (c : ℕ) → IsWired n → 0 < put_count n c → 1 ≤ capacity_bound n c
some_needed n c wired put =
    let full : Net = with_room n (put_count n) in
    let full_wired : IsWired full = wired_at n (put_count n) wired in
    elim (cases_Bool (can_end full)) [
      | inr off ↦
          let own : capacity_bound n c ≡ put_count n c =
          least_is_own full c
          (λ b lt. false_from_ne_true (can_end (with_capacity full c b))
          (λ on. both_ways (can_end full) off
          (can_end_roomier (with_capacity full c b) (wired_at full (replaced full.capacity c b) full_wired)
          full.capacity
          (λ d inside. elim (cases_eq d c) [
            | inl same ↦
                omega (arith, lt, replaced_same full.capacity c b d same, ap full.capacity same)
            | inr other ↦ omega (arith, replaced_other full.capacity c b d other)
          ]) on))) in
          omega (arith, own, put)
      | inl on ↦
          elim (cases_lt 0 (capacity_bound n c)) [
            | inl some ↦ omega arith
            | inr none ↦
                let without : Net = with_capacity full c (capacity_bound n c) in
                let there : IsWired without =
                wired_at full (replaced full.capacity c (capacity_bound n c)) full_wired in
                let can : can_end without ≡ true = least_does full c on in
                let zero : without.capacity c ≡ 0 =
                omega (arith, none, replaced_same full.capacity c (capacity_bound n c) c refl) in
                absurd (omega (
                  arith,
                  put,
                  no_room_no_puts without tags there c zero (least_run without) (least_ends without there can),
                ))
          ]
    ]

-- sums of equal terms
pub sum_by-range_same : (f g : ℕ → ℕ) (m a : ℕ) → ((c : ℕ) → c < a + m → f c ≡ g c)
    → sum_by f (range_with_len a m) ≡ sum_by g (range_with_len a m)
sum_by-range_same f g zero a same = refl
sum_by-range_same f g (suc m) a same =
    let rest = sum_by-range_same f g m (a + 1) (λ c lt. same c (omega arith)) in
    let here = same a (omega arith) in
    omega (
      arith,
      here,
      rest,
      sum_by-cons f a (range_with_len (a + 1) m),
      sum_by-cons g a (range_with_len (a + 1) m),
    )
