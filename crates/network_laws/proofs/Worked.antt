-- A maker and a taker joined by one channel, computed from the definitions.
--
-- The maker fires and puts twice, the taker gets and fires twice. At one clock each process makes at most one event, and
-- it is enabled at the clock's beginning. So the maker's second fire and the taker's first get share the third clock, and
-- the network takes six clocks with capacity 1 as with 2. With capacity 0 the maker sticks at its first Put. Where the taker
-- is held back for the first four clocks, the network takes eight. These are examples: they show what the words mean. Some
-- say what they don't: a capacity that is one too large isn't least, and a clock too few isn't enough.
use Rattle.std.proofs.Common.{◌≡◌, ℕ, zero, suc, ◌<◌, ◌≤◌, ◌%◌, ◌==◌, Bool, true, false, cond, nat_le, nat_lt, List, [], ◌∷◌}
use Rattle.std.proofs.Common.{length, map, ap, ◌∙◌, refl, inl, inr, arith, ltb-true}
use Rattle.std.specs.List.{list_all, range_with_len}
use Rattle.std.proofs.lemmas.Bool.{and_parts, cases_lt}
use Rattle.channel_class.specs.declared.UseOrder.TheVariants.{InOrder}
use Rattle.net_core.specs.declared.network.Channel.{Channel}
use Rattle.net_core.specs.declared.network.Event.{Event}
use Rattle.net_core.specs.declared.network.Event.TheVariants.{Get, Fire, Put}
use Rattle.net_core.specs.declared.network.Network.{Network}
use Rattle.net_core.specs.declared.refs.Ref.TheVariants.{Slot}
use Rattle.net_core.specs.Cuts.{Cut, advanced, cut_after, opening, positions}
use Rattle.net_core.specs.Machine.{Net, net_of, start, HasEnded, IsRun}
use Rattle.net_core.specs.Orders.{reached}
use Rattle.net_core.specs.Rules.{tags}
use Rattle.net_core.proofs.CutOrder.{advanced_there}
use Rattle.net_core.proofs.Positions.{run_ends}
use Rattle.reorder_slots.specs.Slots.{held_after, hold_of, slots_of_gets}
use Rattle.cap_trim.specs.Capacities.{SticksAt, capacity_list, lowered_network, trimmed_network}
use Rattle.cap_trim.specs.Rests.{can_end, least_run, rest}
use Rattle.clock_sim.specs.Clocks.{clocked_run, clocks}
use Rattle.network_laws.specs.EndsWithin.{EndsWithin, HasMinimalCapacities}
use Rattle.network_laws.specs.LiveTokens.{live_tokens}
use Rattle.network_laws.specs.LowerBounds.{capacity_bound, total_capacity}
use Rattle.network_laws.specs.Stalls.{run_with_stalls}

joining : ℕ → ℕ → ℕ → Channel
joining writer reader capacity = record {
  writer = writer;
  reader = reader;
  read = 0;
  capacity = capacity;
  class = record { order = InOrder; multiplicity = false };
}

maker : List Event
maker = Fire [] ∷ Put 0 ∷ Fire [] ∷ Put 0 ∷ []

taker : List Event
taker = Get 0 0 ∷ Fire (Slot 0 ∷ []) ∷ Get 0 0 ∷ Fire (Slot 0 ∷ []) ∷ []

joined : ℕ → Network
unfolding joining maker taker
joined capacity = record {
  processes = record { slots = 0; script = maker } ∷ record { slots = 1; script = taker } ∷ [];
  channels = joining 0 1 capacity ∷ [];
}

-- Where a run leads

-- a process that makes no event of a run stays where it is
unmoved : (run : List ℕ) (m : ℕ) (k : Cut) (p : ℕ) → list_all (λ q. nat_lt q m) run ≡ true → m ≤ p
    → cut_after k run p ≡ k p
unmoved [] m k p all past = refl
unmoved (q ∷ run) m k p all past =
    let parts = and_parts (nat_lt q m) (list_all (λ r. nat_lt r m) run) all in
    let low : q < m = ltb-true q m parts.0 in
    unmoved run m (advanced k q) p parts.1 past ∙ advanced_there k q p (λ same. omega arith)

for_two : (P : ℕ → Type 0) → P 0 → P 1 → (p : ℕ) → p < 2 → P p
for_two P first second zero lt = first
for_two P first second (suc zero) lt = second
for_two P first second (suc (suc p)) lt = absurd (omega arith)

-- two processes have ended after a run that leads both to their scripts' ends, where there are no others
both_end : (n : Net) (run : List ℕ) → IsRun n tags (start n) run → list_all (λ q. nat_lt q 2) run ≡ true
    → ((p : ℕ) → 2 ≤ p → length (n.script p) ≡ 0)
    → positions (reached n tags run) 0 ≡ length (n.script 0)
    → positions (reached n tags run) 1 ≡ length (n.script 1) → HasEnded n (reached n tags run)
both_end n run is low none first second p =
    elim (cases_lt p 2) [
      | inl lt ↦ for_two (λ (q : ℕ). positions (reached n tags run) q ≡ length (n.script q)) first second p lt
      | inr past ↦
          let there : positions (reached n tags run) p ≡ cut_after opening run p =
          ap (λ (k : Cut). k p) (run_ends n tags run (start n) is) in
          let still : cut_after opening run p ≡ 0 = unmoved run 2 opening p low past in
          let nothing : length (n.script p) ≡ 0 = none p past in
          let ended : positions (reached n tags run) p ≡ length (n.script p) = omega arith in
          ended
    ]

-- Clocks

with_one : clocks (net_of (joined 1)) ≡ 6
unfolding joined joining maker taker clocks
with_one = refl

with_two : clocks (net_of (joined 2)) ≡ 6
unfolding joined joining maker taker clocks
with_two = refl

each_clock : clocked_run (net_of (joined 1)) tags 6 ≡ 0 ∷ 0 ∷ 0 ∷ 1 ∷ 0 ∷ 1 ∷ 1 ∷ 1 ∷ []
unfolding joined joining maker taker
each_clock = refl

-- the least capacity, and where the network sticks without it
least : capacity_list (trimmed_network (net_of (joined 2))) ≡ 1 ∷ []
unfolding joined joining maker taker trimmed_network least_run
least = refl

sticks : rest (lowered_network (net_of (joined 1)) 0) ≡ 1 ∷ 0 ∷ []
unfolding joined joining maker taker least_run
sticks = refl

alone : capacity_bound (net_of (joined 2)) 0 ≡ 1
unfolding joined joining maker taker least_run
alone = refl

total : total_capacity (net_of (joined 2)) (net_of (joined 2)).capacity ≡ 2
unfolding joined joining maker taker
total = refl

-- Capacity 2 is one too large: with 1 a run ends all, so the network doesn't stick.

no_third : (capacity p : ℕ) → 2 ≤ p → length ((net_of (joined capacity)).script p) ≡ 0
unfolding joined
no_third capacity zero low = absurd (omega arith)
no_third capacity (suc zero) low = absurd (omega arith)
no_third capacity (suc (suc p)) low = refl

a_capacity_one_too_large_does_not_stick_below : (places : List ℕ)
    → SticksAt (lowered_network (net_of (joined 2)) 0) places → ⊥
unfolding joined joining maker taker
a_capacity_one_too_large_does_not_stick_below places sticks_there =
    let run : List ℕ = 0 ∷ 0 ∷ 0 ∷ 1 ∷ 0 ∷ 1 ∷ 1 ∷ 1 ∷ [] in
    let lowered : Net = lowered_network (net_of (joined 2)) 0 in
    let is : IsRun lowered tags (start lowered) run =
    (refl, (refl, (refl, (refl, (refl, (refl, (refl, (refl, tt)))))))) in
    sticks_there.endless run (is, both_end lowered run is refl (no_third 2) refl refl)

-- five clocks are too few
a_clock_too_few_is_not_enough : EndsWithin (net_of (joined 1)) tags 5 → ⊥
unfolding joined joining maker taker
a_clock_too_few_is_not_enough ended = let three_of_four : 3 ≡ 4 = ended 1 in omega (arith, three_of_four)

-- the taker may step from the fifth clock on
late : ℕ → ℕ → Bool
late k p = cond (nat_le 4 k) true (cond (nat_le 1 p) false true)

before_it_may : run_with_stalls (net_of (joined 1)) tags late 4 ≡ 0 ∷ 0 ∷ 0 ∷ []
unfolding joined joining maker taker late
before_it_may = refl

one_clock_early : run_with_stalls (net_of (joined 1)) tags late 7 ≡ 0 ∷ 0 ∷ 0 ∷ 1 ∷ 0 ∷ 1 ∷ 1 ∷ []
unfolding joined joining maker taker late
one_clock_early = refl

in_the_end : run_with_stalls (net_of (joined 1)) tags late 8 ≡ 0 ∷ 0 ∷ 0 ∷ 1 ∷ 0 ∷ 1 ∷ 1 ∷ 1 ∷ []
unfolding joined joining maker taker late
in_the_end = refl

-- process p may step where the clock and p are both even or both odd
in_turn : ℕ → ℕ → Bool
in_turn k p = (k % 2) == p

turn_by_turn : run_with_stalls (net_of (joined 1)) tags in_turn 10 ≡ 0 ∷ 0 ∷ 1 ∷ 0 ∷ 1 ∷ 0 ∷ 1 ∷ 1 ∷ []
unfolding joined joining maker taker in_turn
turn_by_turn = refl

-- A value that is put twice: capacity 1 takes a clock more than 2.

both_copies : ℕ → Network
unfolding joining
both_copies capacity = record {
  processes =
      record { slots = 0; script = Fire [] ∷ Put 0 ∷ Put 0 ∷ [] }
      ∷ record { slots = 1; script = Get 0 0 ∷ Get 0 0 ∷ [] } ∷ [];
  channels = joining 0 1 capacity ∷ [];
}

slower : clocks (net_of (both_copies 1)) ≡ 5
unfolding both_copies joining clocks
slower = refl

faster : clocks (net_of (both_copies 2)) ≡ 4
unfolding both_copies joining clocks
faster = refl

slower_run : clocked_run (net_of (both_copies 1)) tags 5 ≡ 0 ∷ 0 ∷ 1 ∷ 0 ∷ 1 ∷ []
unfolding both_copies joining
slower_run = refl

faster_run : clocked_run (net_of (both_copies 2)) tags 4 ≡ 0 ∷ 0 ∷ 0 ∷ 1 ∷ 1 ∷ []
unfolding both_copies joining
faster_run = refl

no_third_copy : (capacity p : ℕ) → 2 ≤ p → length ((net_of (both_copies capacity)).script p) ≡ 0
unfolding both_copies
no_third_copy capacity zero low = absurd (omega arith)
no_third_copy capacity (suc zero) low = absurd (omega arith)
no_third_copy capacity (suc (suc p)) low = refl

-- So 2 is the least capacity for four clocks. For five it is one too large, and three clocks are too few with 2.

four_are_enough : EndsWithin (net_of (both_copies 2)) tags 4
unfolding both_copies joining
four_are_enough =
    both_end (net_of (both_copies 2)) (0 ∷ 0 ∷ 0 ∷ 1 ∷ 1 ∷ []) (refl, (refl, (refl, (refl, (refl, tt))))) refl
    (no_third_copy 2) refl refl

three_are_too_few : EndsWithin (net_of (both_copies 2)) tags 3 → ⊥
unfolding both_copies joining
three_are_too_few ended = let one_of_two : 1 ≡ 2 = ended 1 in omega (arith, one_of_two)

-- with one less
four_are_too_few : EndsWithin (lowered_network (net_of (both_copies 2)) 0) tags 4 → ⊥
unfolding both_copies joining
four_are_too_few ended = let one_of_two : 1 ≡ 2 = ended 1 in omega (arith, one_of_two)

five_are_enough : EndsWithin (lowered_network (net_of (both_copies 2)) 0) tags 5
unfolding both_copies joining
five_are_enough =
    both_end (lowered_network (net_of (both_copies 2)) 0) (0 ∷ 0 ∷ 1 ∷ 0 ∷ 1 ∷ [])
    (refl, (refl, (refl, (refl, (refl, tt))))) refl (no_third_copy 2) refl refl

only_channel : (c : ℕ) → c < (net_of (both_copies 2)).channels
    → EndsWithin (lowered_network (net_of (both_copies 2)) c) tags 4 → ⊥
unfolding both_copies
only_channel zero there ended = four_are_too_few ended
only_channel (suc c) there ended = let small : suc c < 1 = there in omega (arith, small)

least_for_four : HasMinimalCapacities (net_of (both_copies 2)) tags 4
least_for_four =
    record { ends = four_are_enough; none_less = λ c there some ended. only_channel c there ended }

a_capacity_one_too_large_is_not_least : HasMinimalCapacities (net_of (both_copies 2)) tags 5 → ⊥
unfolding both_copies joining
a_capacity_one_too_large_is_not_least least_there =
    let there : 0 < 1 = omega arith in
    let some : 0 < 2 = omega arith in
    least_there.none_less 0 there some five_are_enough

-- Three channels whose capacities come to 1, 3 and 1 from 3, 3 and 1: the bounds are ones, and 2, 1 and 1 would do as well. So
-- capacities that can't be lowered needn't have the least sum.

beside : ℕ → ℕ → ℕ → Network
unfolding joining
beside a b c = record {
  processes =
      record { slots = 0; script = Fire [] ∷ Put 0 ∷ Put 0 ∷ Put 0 ∷ Put 2 ∷ [] }
      ∷ record { slots = 1; script = Get 0 0 ∷ Fire [] ∷ Put 1 ∷ Put 1 ∷ Put 1 ∷ Get 0 0 ∷ Get 0 0 ∷ [] }
      ∷ record { slots = 1; script = Get 2 0 ∷ Get 1 0 ∷ Get 1 0 ∷ Get 1 0 ∷ [] } ∷ [];
  channels = joining 0 1 a ∷ joining 1 2 b ∷ joining 0 2 c ∷ [];
}

lowered : capacity_list (trimmed_network (net_of (beside 3 3 1))) ≡ 1 ∷ 3 ∷ 1 ∷ []
unfolding beside joining trimmed_network least_run
lowered = refl

bounds : capacity_bound (net_of (beside 3 3 1)) 1 ≡ 1
unfolding beside joining least_run
bounds = refl

lesser_sum : can_end (net_of (beside 2 1 1)) ≡ true
unfolding beside joining least_run
lesser_sum = refl

too_little : can_end (net_of (beside 1 2 1)) ≡ false
unfolding beside joining least_run
too_little = refl

-- a token that is used again after the next one needs a slot of its own
used_again : hold_of (0 ∷ 1 ∷ 0 ∷ []) ≡ 2
unfolding held_after
used_again = refl

in_order : hold_of (0 ∷ 0 ∷ 1 ∷ []) ≡ 1
unfolding held_after
in_order = refl

-- token 1 is never used, so its slot is free at once
never_used : hold_of (0 ∷ 2 ∷ 0 ∷ []) ≡ 2
unfolding held_after
never_used = refl

-- the third Get takes the slot of the first token after its last use
after_last_use : slots_of_gets (0 ∷ 1 ∷ 0 ∷ 2 ∷ 1 ∷ []) ≡ 0 ∷ 1 ∷ 0 ∷ []
unfolding held_after
after_last_use = refl

backwards : slots_of_gets (2 ∷ 1 ∷ 0 ∷ []) ≡ 0 ∷ 1 ∷ 2 ∷ []
unfolding held_after
backwards = refl

-- how many tokens are live at each Get: the hold is the greatest of these numbers
live_with_the_first : map (live_tokens (0 ∷ 2 ∷ 0 ∷ [])) (range_with_len 0 3) ≡ 1 ∷ 2 ∷ 2 ∷ []
live_with_the_first = refl

-- token 1 alone is live as the third Get comes, since token 0 has had its last use
live_for_a_while : map (live_tokens (0 ∷ 2 ∷ 1 ∷ 3 ∷ [])) (range_with_len 0 4) ≡ 1 ∷ 1 ∷ 2 ∷ 1 ∷ []
live_for_a_while = refl

hold_for_a_while : hold_of (0 ∷ 2 ∷ 1 ∷ 3 ∷ []) ≡ 2
unfolding held_after
hold_for_a_while = refl
