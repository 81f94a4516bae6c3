-- The network with least capacities ends, and with one place less it sticks.
--
-- Each turn keeps that the network ends, since a capacity is taken at which it does, and lets no capacity grow. So the
-- last network ends. Lower one of its capacities by 1: each other capacity is at most what it was when that channel's
-- turn came, and with one place less the network of that turn didn't end. If the lowered one ended, so would that one,
-- since more room does no harm. Each capacity is at least 1, since without room no Put comes. That all are least
-- together, or that their sum is, doesn't follow: another order of channels may give other capacities.
use Rattle.std.proofs.Common.{◌≡◌, ℕ, zero, suc, ◌-◌, ◌<◌, ◌≤◌, true, false, not, length}
use Rattle.std.proofs.Common.{get_or, refl, sym, ap, ◌∙◌, subst, inl, inr, arith}
use Rattle.std.specs.List.{range_with_len}
use Rattle.std.specs.Prelude.{◌==◌}
use Rattle.std.proofs.lemmas.Bool.{both_ways, cases_Bool, cases_eq, cases_lt, eqb-false}
use Rattle.std.proofs.lemmas.List.FromFn.{length-range_with_len}
use Rattle.std.proofs.lemmas.List.Sums.{fails_before_first, passes_at_first, prefix_len-le-length}
use mathlib.Core.Path.{fun_ext}
use Rattle.net_core.specs.Cuts.{opening}
use Rattle.net_core.specs.Machine.{Net, replaced}
use Rattle.net_core.specs.Rules.{tags}
use Rattle.net_core.specs.Shape.{IsWired, put_count}
use Rattle.net_core.proofs.EventCounts.{replaced_same, replaced_other}
use Rattle.net_core.proofs.Positions.{cut_inside}
use Rattle.witness_plan.proofs.OtherCapacities.{wired_at}
use Rattle.cap_trim.specs.Capacities.{SticksAt, least_capacity, lowered_network, trimmed_network_below}
use Rattle.cap_trim.specs.Capacities.{with_capacity, with_room}
use Rattle.cap_trim.specs.Rests.{can_end, least_run, rest}
use Rattle.cap_trim.proofs.AtRest.{can_end_roomier, can_end_since, least_cuts, least_ends, rest_at}
use Rattle.cap_trim.proofs.AtRest.{stops_at_rest}
use Rattle.cap_trim.proofs.FirstPass.{one_fails}
use Rattle.cap_trim.proofs.NoRoom.{no_room_no_puts}
use Rattle.plain_data.proofs.Lists.{get_or-range_with_len_zero}

-- The least capacity of one channel

module _ (n : Net) (c : ℕ) where
  pub least_within : least_capacity n c ≤ n.capacity c
  least_within =
      omega (
        arith,
        prefix_len-le-length (λ a. not (can_end (with_capacity n c a))) (range_with_len 0 (n.capacity c)),
        length-range_with_len 0 (n.capacity c),
      )

  pub own : with_capacity n c (n.capacity c) ≡ n
  own =
      let same : replaced n.capacity c (n.capacity c) ≡ n.capacity =
      fun_ext (λ q. elim (cases_eq q c) [
        | inl here ↦ replaced_same n.capacity c (n.capacity c) q here ∙ ap n.capacity (sym here)
        | inr other ↦ replaced_other n.capacity c (n.capacity c) q other
      ]) in
      ap (with_room n) same

  -- where it is less than its own, the network ends with it
  least_passes : least_capacity n c < n.capacity c → can_end (with_capacity n c (least_capacity n c)) ≡ true
  least_passes lt =
      let within : least_capacity n c < length (range_with_len 0 (n.capacity c)) =
      omega (arith, lt, length-range_with_len 0 (n.capacity c)) in
      ap (λ a. can_end (with_capacity n c a)) (sym (get_or-range_with_len_zero (n.capacity c) (least_capacity n c) lt))
      ∙ passes_at_first (λ a. can_end (with_capacity n c a)) (range_with_len 0 (n.capacity c)) 0 within

  -- so it does where it does with its own
  pub least_does : can_end n ≡ true → can_end (with_capacity n c (least_capacity n c)) ≡ true
  least_does can =
      elim (cases_lt (least_capacity n c) (n.capacity c)) [
        | inl lt ↦ least_passes lt
        | inr ge ↦
            let same : least_capacity n c ≡ n.capacity c = omega (arith, least_within) in
            ap (λ a. can_end (with_capacity n c a)) same ∙ ap can_end own ∙ can
      ]

  -- and doesn't with less
  pub less_sticks : (a : ℕ) → a < least_capacity n c → can_end (with_capacity n c a) ≡ false
  less_sticks a lt =
      let small : a < n.capacity c = omega (arith, least_within) in
      ap (λ b. can_end (with_capacity n c b)) (sym (get_or-range_with_len_zero (n.capacity c) a small))
      ∙ fails_before_first (λ b. can_end (with_capacity n c b)) (range_with_len 0 (n.capacity c)) a 0 lt

  -- it is the one at which the network ends, where it doesn't with less
  pub least_is : (a : ℕ) → a ≤ n.capacity c → can_end (with_capacity n c a) ≡ true
      → ((b : ℕ) → b < a → can_end (with_capacity n c b) ≡ false) → least_capacity n c ≡ a
  least_is a le can less =
      elim (cases_lt (least_capacity n c) a) [
        | inl low ↦
            absurd (both_ways (can_end (with_capacity n c (least_capacity n c))) (less (least_capacity n c) low)
            (least_passes (omega arith)))
        | inr ge ↦
            elim (cases_lt a (least_capacity n c)) [
              | inl high ↦ absurd (both_ways (can_end (with_capacity n c a)) (less_sticks a high) can)
              | inr same ↦ omega arith
            ]
      ]

  -- where the network doesn't end with less than its own, that is the one
  pub least_is_own : ((b : ℕ) → b < n.capacity c → can_end (with_capacity n c b) ≡ false)
      → least_capacity n c ≡ n.capacity c
  least_is_own less =
      elim (cases_lt (least_capacity n c) (n.capacity c)) [
        | inl lt ↦
            absurd (both_ways (can_end (with_capacity n c (least_capacity n c))) (less (least_capacity n c) lt)
            (least_passes lt))
        | inr ge ↦ omega (arith, least_within)
      ]

-- One turn after the other

abbrev before : Net → ℕ → Net
before n m = trimmed_network_below n m

pub turn_here : (n : Net) (c : ℕ) → (before n (suc c)).capacity c ≡ least_capacity (before n c) c
turn_here n c = replaced_same (before n c).capacity c (least_capacity (before n c) c) c refl

turn_there : (n : Net) (c d : ℕ) → (d ≡ c → ⊥) → (before n (suc c)).capacity d ≡ (before n c).capacity d
turn_there n c d other = replaced_other (before n c).capacity c (least_capacity (before n c) c) d other

-- a turn lets no capacity grow
turn_falls : (n : Net) (c d : ℕ) → (before n (suc c)).capacity d ≤ (before n c).capacity d
turn_falls n c d =
    elim (cases_eq d c) [
      | inl same ↦
          let here : (before n (suc c)).capacity d ≡ least_capacity (before n c) c =
          ap (before n (suc c)).capacity same ∙ turn_here n c in
          omega (arith, here, least_within (before n c) c, ap (before n c).capacity same)
      | inr other ↦ omega (arith, turn_there n c d other)
    ]

pub falls : (n : Net) (m j d : ℕ) → m ≤ j → (before n j).capacity d ≤ (before n m).capacity d
falls n m zero d le = let same : m ≡ 0 = omega arith in rw same (omega arith)
falls n m (suc j) d le =
    elim (cases_lt m (suc j)) [
      | inl lt ↦ omega (arith, turn_falls n j d, falls n m j d (omega arith))
      | inr ge ↦ let same : m ≡ suc j = omega arith in rw same (omega arith)
    ]

-- after its turn a channel keeps its capacity
pub keeps : (n : Net) (c j : ℕ) → suc c ≤ j → (before n j).capacity c ≡ (before n (suc c)).capacity c
keeps n c zero le = absurd (omega arith)
keeps n c (suc j) le =
    elim (cases_lt c j) [
      | inl lt ↦ turn_there n j c (λ same. omega arith) ∙ keeps n c j (omega arith)
      | inr ge ↦ let same : j ≡ c = omega arith in ap (λ m. (before n (suc m)).capacity c) same
    ]

-- the machine takes the same of it but for the capacities
pub before_is : (n : Net) (m : ℕ) → trimmed_network_below n m ≡ with_room n (trimmed_network_below n m).capacity
before_is n zero = refl
before_is n (suc m) =
    ap (λ (x : Net). with_room x (replaced (before n m).capacity m (least_capacity (before n m) m))) (before_is n m)

pub before_wired : (n : Net) (m : ℕ) → IsWired n → IsWired (trimmed_network_below n m)
before_wired n m wired = subst IsWired (sym (before_is n m)) (wired_at n (before n m).capacity wired)

pub before_ends : (n : Net) (m : ℕ) → can_end n ≡ true → can_end (trimmed_network_below n m) ≡ true
before_ends n zero can = can
before_ends n (suc m) can = least_does (before n m) m (before_ends n m can)

before_puts : (n : Net) (m c : ℕ) → put_count (before n m) c ≡ put_count n c
before_puts n m c = ap (λ (x : Net). put_count x c) (before_is n m)

-- With one place less

-- where the network doesn't end, it sticks where it comes to rest
pub sticks_at_rest : (n : Net) → IsWired n → can_end n ≡ false → SticksAt n (rest n)
sticks_at_rest n wired off =
    let fails = one_fails (λ p. get_or (rest n) p 0 == length (n.script p)) n.processes 0 off in
    let p : ℕ = fails.0 in
    let there : p < n.processes = omega (arith, fails.2) in
    let other = eqb-false (get_or (rest n) p 0) (length (n.script p)) fails.3 in
    let inside : get_or (rest n) p 0 ≤ length (n.script p) =
    omega (arith, rest_at n wired p there, cut_inside n (least_run n) opening (least_cuts n wired) (λ q. omega arith) p)
    in
    record {
      stands = stops_at_rest n wired tags;
      unended = (
        p,
        elim (cases_lt (get_or (rest n) p 0) (length (n.script p)))
            [ inl lt ↦ lt | inr ge ↦ absurd (other (omega arith)) ],
      );
      endless = λ run whole. both_ways (can_end n) off (can_end_since n wired tags run whole);
    }

module _ (n : Net) (wired : IsWired n) (can : can_end n ≡ true) (c : ℕ) (there : c < n.channels)
    (put : 0 < put_count n c) where
  abbrev last : Net
  last = trimmed_network_below n n.channels

  last_wired : IsWired last
  last_wired = before_wired n n.channels wired

  capacity_is : last.capacity c ≡ least_capacity (before n c) c
  capacity_is = keeps n c n.channels (omega arith) ∙ turn_here n c

  pub last_some : 1 ≤ last.capacity c
  last_some =
      elim (cases_lt 0 (last.capacity c)) [
        | inl lt ↦ omega arith
        | inr le ↦
            let none = no_room_no_puts last tags last_wired c (omega arith) (least_run last)
            (least_ends last last_wired (before_ends n n.channels can)) in
            absurd (omega (arith, none, before_puts n n.channels c))
      ]

  -- the capacities when the channel's turn came, but with one place less than it was given
  room : ℕ → ℕ
  room = replaced (before n c).capacity c (last.capacity c - 1)

  roomier : (d : ℕ) → (lowered_network last c).capacity d ≤ room d
  unfolding room
  roomier d =
      elim (cases_eq d c) [
        | inl same ↦
            omega (
              arith,
              replaced_same last.capacity c (last.capacity c - 1) d same,
              replaced_same (before n c).capacity c (last.capacity c - 1) d same,
            )
        | inr other ↦
            omega (
              arith,
              replaced_other last.capacity c (last.capacity c - 1) d other,
              replaced_other (before n c).capacity c (last.capacity c - 1) d other,
              falls n c n.channels d (omega arith),
            )
      ]

  same_room : with_room (lowered_network last c) room ≡ with_capacity (before n c) c (last.capacity c - 1)
  unfolding room
  same_room =
      ap (λ (x : Net). with_room x room) (before_is n n.channels)
      ∙ sym (ap (λ (x : Net). with_room x room) (before_is n c))

  lowered_wired : IsWired (lowered_network last c)
  lowered_wired = wired_at last (lowered_network last c).capacity last_wired

  pub lowered_sticks : can_end (lowered_network last c) ≡ false
  lowered_sticks =
      elim (cases_Bool (can_end (lowered_network last c))) [
        | inl on ↦
            let more = can_end_roomier (lowered_network last c) lowered_wired room (λ d lt. roomier d) on in
            let less = less_sticks (before n c) c (last.capacity c - 1) (omega (arith, capacity_is, last_some)) in
            absurd (both_ways (can_end (with_capacity (before n c) c (last.capacity c - 1))) less
            (ap can_end (sym same_room) ∙ more))
        | inr off ↦ off
      ]

  pub last_sticks : SticksAt (lowered_network last c) (rest (lowered_network last c))
  last_sticks = sticks_at_rest (lowered_network last c) lowered_wired lowered_sticks

pub last_within : (n : Net) (d : ℕ) → (trimmed_network_below n n.channels).capacity d ≤ n.capacity d
last_within n d = falls n 0 n.channels d (omega arith)
