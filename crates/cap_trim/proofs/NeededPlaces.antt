-- Least capacities of which each place was found to be needed.
--
-- Each channel begins without a place, and where the network sticks, one that needs a place more gets it. The invariant
-- (`IsRaised`) is that the events so far are a run with the places so far, and that no channel has more of them than its own
-- capacity, nor, if the network ends, than its least one (`raised_more`). Where the network ends with these places, they are
-- the least capacities (`raised_all`): when a channel's turn comes, each channel has at least these, so with these there it
-- ends too. A channel to which a process puts needs a first place (`place_needed`); when it needs more is shown in Rings. Nothing
-- is said of a network that sticks with them.
use Rattle.std.proofs.Common.{◌≡◌, ℕ, zero, suc, ◌+◌, ◌<◌, ◌≤◌, Bool, true, cond, Some, List, [], ◌∷◌, map, set}
use Rattle.std.proofs.Common.{length, get_or, slice_get, count_by, replicate, refl, sym, ap, ◌∙◌, subst, inl, inr, arith}
use Rattle.std.proofs.Common.{get_or-set_other, get_or-set_same, length-set, eq-eqb}
use Rattle.std.specs.List.{range_with_len}
use Rattle.std.specs.Prelude.{slice_index}
use Rattle.std.proofs.lemmas.Bool.{both_ways, cases_eq, cases_lt, cond-true}
use Rattle.std.proofs.lemmas.List.{length-replicate}
use Rattle.std.proofs.lemmas.List.FromFn.{fill_by_all}
use Rattle.std.proofs.lemmas.Option.{get_or_from_slice_get, slice_get_within}
use Rattle.net_core.specs.declared.network.Event.TheVariants.{Put}
use Rattle.net_core.specs.declared.progress.Progress.{Progress}
use Rattle.net_core.specs.Cuts.{Cut, opening}
use Rattle.net_core.specs.Machine.{Net, replaced}
use Rattle.net_core.specs.Progress.{IsProgress, at_capacities, cut_of}
use Rattle.net_core.specs.Shape.{IsWired, is_put, put_count}
use Rattle.net_core.proofs.EventCounts.{count_cons, replaced_same, replaced_other}
use Rattle.witness_plan.proofs.OtherCapacities.{wired_at}
use Rattle.cap_trim.specs.Capacities.{capacity_list, least_capacity, trimmed_network, trimmed_network_below}
use Rattle.cap_trim.specs.Capacities.{with_capacity, with_room}
use Rattle.cap_trim.specs.LeastRuns.{LeadsTo}
use Rattle.cap_trim.specs.Rests.{can_end}
use Rattle.cap_trim.proofs.AtRest.{can_end_by, can_end_roomier}
use Rattle.cap_trim.proofs.LeastCapacities.{before_is, falls, keeps, last_some, less_sticks, turn_here}
use Rattle.cap_trim.proofs.LeastEnabled.{leads_nowhere, leads_on, leads_roomier}

abbrev nothing : ℕ → List ℕ
nothing m = replicate m 0

none_yet : (m d : ℕ) → get_or (nothing m) d 0 ≡ 0
none_yet zero d = refl
none_yet (suc m) zero = refl
none_yet (suc m) (suc d) = none_yet m d

-- a list counts an item that is in it
item_counts : {X : Type 0} (q : X → Bool) (xs : List X) (k : ℕ) (x : X) → slice_get xs k ≡ Some x → q x ≡ true
    → 0 < count_by q xs
item_counts q [] k x at is = absurd (omega (arith, slice_get_within [] k x at))
item_counts q (y ∷ xs) zero x at is =
    let this : y ≡ x = get_or_from_slice_get (y ∷ xs) 0 x x at in
    let one : cond {A = ℕ} (q y) 1 0 ≡ 1 = cond-true (q y) 1 0 (ap q this ∙ is) in
    omega (arith, count_cons q y xs)
item_counts q (y ∷ xs) (suc k) x at is = omega (arith, count_cons q y xs, item_counts q xs k x at is)

-- a channel without a place, to which a process puts next, needs one
pub place_needed : (n : Net) → IsWired n → (c p k : ℕ) → slice_get (n.script p) k ≡ Some (Put c) → can_end n ≡ true
    → 1 ≤ (trimmed_network n).capacity c
unfolding trimmed_network
place_needed n wired c p k at can =
    let puts : 0 < put_count n c =
    subst (λ w. 0 < count_by (is_put c) (n.script w)) (sym (wired.put_writer p k c at))
    (item_counts (is_put c) (n.script p) k (Put c) at (eq-eqb c c refl)) in
    last_some n wired can c (wired.put_channel p k c at) puts

-- The places so far: with them the events so far are a run, and no channel has too many.
pub record IsRaised (n : Net) (places : List ℕ) (progress : Progress) : Type 0 where
  pub long : length places ≡ n.channels
  pub kept : IsProgress n progress
  pub run : LeadsTo (at_capacities n places) opening (cut_of progress)
  pub within : (d : ℕ) → get_or places d 0 ≤ n.capacity d
  pub least : can_end n ≡ true → (d : ℕ) → get_or places d 0 ≤ (trimmed_network_below n n.channels).capacity d

-- at first there is none
pub raised_none : (n : Net) (progress : Progress) → IsProgress n progress → cut_of progress ≡ opening
    → IsRaised n (nothing n.channels) progress
raised_none n progress good at = record {
  long = length-replicate n.channels 0;
  kept = good;
  run = subst (λ (k : Cut). LeadsTo (at_capacities n (nothing n.channels)) opening k) (sym at)
      (leads_nowhere (at_capacities n (nothing n.channels)) opening);
  within = λ d. omega (arith, none_yet n.channels d);
  least = λ can d. omega (arith, none_yet n.channels d);
}

-- the network goes on
pub raised_on : (n : Net) (places : List ℕ) (progress next : Progress) → IsRaised n places progress
    → IsProgress n next → LeadsTo (at_capacities n places) (cut_of progress) (cut_of next) → IsRaised n places next
raised_on n places progress next raised good run = record {
  long = raised.long;
  kept = good;
  run = leads_on (at_capacities n places) opening (cut_of progress) (cut_of next) raised.run run;
  within = raised.within;
  least = raised.least;
}

module _ (n : Net) (wired : IsWired n) (places : List ℕ) (progress : Progress)
    (raised : IsRaised n places progress) where
  -- a channel that needs a place more, and may have it, gets one
  module _ (c : ℕ) (there : c < n.channels) (room : get_or places c 0 < n.capacity c)
      (needed : can_end n ≡ true → get_or places c 0 + 1 ≤ (trimmed_network n).capacity c) where
    later : List ℕ
    later = set places c (get_or places c 0 + 1)

    one_more : (d : ℕ) → d ≡ c → get_or later d 0 ≡ get_or places c 0 + 1
    unfolding later
    one_more d same =
        ap (λ i. get_or (set places c (get_or places c 0 + 1)) i 0) same
        ∙ get_or-set_same places c (get_or places c 0 + 1) 0 (omega (arith, there, raised.long))

    others : (d : ℕ) → (d ≡ c → ⊥) → get_or later d 0 ≡ get_or places d 0
    unfolding later
    others d other = get_or-set_other places c d (get_or places c 0 + 1) 0 other

    roomier : (d : ℕ) → get_or places d 0 ≤ get_or later d 0
    roomier d =
        elim (cases_eq d c) [
          | inl same ↦ omega (arith, one_more d same, ap (λ i. get_or places i 0) same)
          | inr other ↦ omega (arith, others d other)
        ]

    needed_there : can_end n ≡ true → get_or places c 0 + 1 ≤ (trimmed_network_below n n.channels).capacity c
    unfolding trimmed_network
    needed_there can = needed can

    pub raised_more : IsRaised n (set places c (get_or places c 0 + 1)) progress
    unfolding later
    raised_more = record {
      long = length-set places c (get_or places c 0 + 1) ∙ raised.long;
      kept = raised.kept;
      run = leads_roomier (at_capacities n places) (wired_at n (slice_index places) wired)
          (slice_index (set places c (get_or places c 0 + 1))) (λ d lt. roomier d) opening (cut_of progress) raised.run;
      within = λ d. elim (cases_eq d c) [
        | inl same ↦ omega (arith, one_more d same, ap n.capacity same, room)
        | inr other ↦ omega (arith, others d other, raised.within d)
      ];
      least = λ can d. elim (cases_eq d c) [
        | inl same ↦
            omega (arith, one_more d same, ap (trimmed_network_below n n.channels).capacity same, needed_there can)
        | inr other ↦ omega (arith, others d other, raised.least can d)
      ];
    }

  -- the network ends with these places
  module _ (ended : (p : ℕ) → cut_of progress p ≡ length (n.script p)) where
    so_wired : IsWired (at_capacities n places)
    so_wired = wired_at n (slice_index places) wired

    so_ends : can_end (at_capacities n places) ≡ true
    so_ends =
        can_end_by (at_capacities n places) so_wired raised.run.0 raised.run.1
        (λ p. ap (λ (k : Cut). k p) (sym raised.run.2) ∙ ended p)

    ends : can_end n ≡ true
    ends = can_end_roomier (at_capacities n places) so_wired n.capacity (λ d lt. raised.within d) so_ends

    -- at a channel's turn
    module _ (d : ℕ) (lt : d < n.channels) where
      room_then : ℕ → ℕ
      room_then = replaced (trimmed_network_below n d).capacity d (get_or places d 0)

      more_then : (e : ℕ) → get_or places e 0 ≤ room_then e
      unfolding room_then
      more_then e =
          elim (cases_eq e d) [
            | inl same ↦
                omega (
                  arith,
                  replaced_same (trimmed_network_below n d).capacity d (get_or places d 0) e same,
                  ap (λ i. get_or places i 0) same,
                )
            | inr other ↦
                omega (
                  arith,
                  replaced_other (trimmed_network_below n d).capacity d (get_or places d 0) e other,
                  falls n d n.channels e (omega arith),
                  raised.least ends e,
                )
          ]

      same_then : with_room n room_then ≡ with_capacity (trimmed_network_below n d) d (get_or places d 0)
      unfolding room_then
      same_then = sym (ap (λ (x : Net). with_room x room_then) (before_is n d))

      ends_then : can_end (with_capacity (trimmed_network_below n d) d (get_or places d 0)) ≡ true
      ends_then =
          ap can_end (sym same_then) ∙ can_end_roomier (at_capacities n places) so_wired room_then
          (λ e lt. more_then e) so_ends

      pub is_least : get_or places d 0 ≡ (trimmed_network_below n n.channels).capacity d
      is_least =
          let is : (trimmed_network_below n n.channels).capacity d ≡ least_capacity (trimmed_network_below n d) d =
          keeps n d n.channels (omega arith) ∙ turn_here n d in
          elim (cases_lt (get_or places d 0) ((trimmed_network_below n n.channels).capacity d)) [
            | inl less ↦
                absurd (both_ways (can_end (with_capacity (trimmed_network_below n d) d (get_or places d 0)))
                (less_sticks (trimmed_network_below n d) d (get_or places d 0) (omega (arith, less, is))) ends_then)
            | inr ge ↦ omega (arith, ge, raised.least ends d)
          ]

    -- they are the least capacities
    pub raised_all : places ≡ capacity_list (trimmed_network n)
    unfolding trimmed_network
    raised_all =
        let same : (trimmed_network_below n n.channels).channels ≡ n.channels =
        ap (λ (x : Net). x.channels) (before_is n n.channels) in
        fill_by_all (trimmed_network_below n n.channels).capacity places n.channels 0 raised.long
        (λ d lt. is_least d lt)
        ∙ ap (λ m. map (trimmed_network_below n n.channels).capacity (range_with_len 0 m)) (sym same)
