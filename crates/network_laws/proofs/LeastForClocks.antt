-- Capacities of which none can be lowered alone without more clocks can't be lowered together either.
--
-- With greater capacities each process has come at least as far at every clock, so a network ends within as many clocks
-- (`ends_within_more`). Let some capacities be in no channel greater than the network's, and less in one. In no channel are
-- they greater than the network's own with one less there; so if they end within the clocks, that does (`lowered_ends`). Going
-- from channel to channel each is lowered as far as it goes, with the others as they are. What one channel couldn't do
-- without then it can't do without later, when the others have been lowered (`least_to`, by induction on the channels). So
-- such capacities are there, whichever order the channels are taken in; other orders may give others.
use Rattle.std.proofs.Common.{◌≡◌, ◌⊎◌, ℕ, zero, suc, ◌-◌, ◌<◌, ◌≤◌, List, length, ap, subst, refl, inl, inr, arith}
use Rattle.std.proofs.lemmas.Bool.{cases_eq, cases_lt}
use Rattle.net_core.specs.Cuts.{opening, positions}
use Rattle.net_core.specs.Machine.{Net, Rule, HasEnded, replaced}
use Rattle.net_core.specs.Orders.{EndsAll, reached}
use Rattle.net_core.specs.Shape.{IsWired}
use Rattle.net_core.proofs.EventCounts.{replaced_other, replaced_same}
use Rattle.net_core.proofs.Positions.{cut_inside}
use Rattle.witness_plan.proofs.OtherCapacities.{wired_at}
use Rattle.cap_trim.specs.Capacities.{lowered_network, with_capacity, with_room}
use Rattle.clock_sim.specs.Clocks.{ClockedRunEnds, after_clocks, clocked_run, clocks}
use Rattle.network_laws.specs.EndsWithin.{EndsWithin, HasMinimalCapacities}
use Rattle.network_laws.specs.Stalls.{run_with_stalls}
use Rattle.network_laws.proofs.FasterRuns.{clocked_at, clocked_is_run, clocks_least, never_behind}
use Rattle.network_laws.proofs.RunsWithStalls.{always, clocked_is_stalled, place, place_moved, stalled_cuts}

-- Ending within a number of clocks

module _ {T : Type 0} (n : Net) (rule : Rule T) (wired : IsWired n) where
  -- positions only grow
  place_grows : (j k p : ℕ) → j ≤ k → place n rule wired always j p ≤ place n rule wired always k p
  place_grows j zero p le = let same : j ≡ 0 = omega arith in rw same (omega arith)
  place_grows j (suc k) p le =
      elim (cases_lt j (suc k)) [
        | inl lt ↦ omega (arith, place_moved n rule wired always k p, place_grows j k p (omega arith))
        | inr ge ↦ let same : j ≡ suc k = omega arith in rw same (omega arith)
      ]

  -- up to the scripts' ends
  pub clocked_inside : (k p : ℕ) → positions (after_clocks n rule k) p ≤ length (n.script p)
  clocked_inside k p =
      let inside =
      cut_inside n (run_with_stalls n rule always k) opening (stalled_cuts n rule wired always k)
      (λ q. omega arith) p in
      omega (arith, clocked_at n rule wired k p, inside)

  -- so what has ended stays so
  pub ends_later : (j k : ℕ) → j ≤ k → EndsWithin n rule j → EndsWithin n rule k
  ends_later j k le ended p =
      let there : positions (after_clocks n rule j) p ≡ length (n.script p) = ended p in
      omega (
        arith,
        there,
        clocked_at n rule wired j p,
        clocked_at n rule wired k p,
        place_grows j k p le,
        clocked_inside k p,
      )

  pub full_run : (count : ℕ) → EndsWithin n rule count → EndsAll n rule (clocked_run n rule count)
  full_run count ended = (clocked_is_run n rule wired count, ended)

  -- the number of clocks is the least number within which the network ends
  pub within_clocks : ClockedRunEnds n rule → (count : ℕ) → clocks n ≤ count → EndsWithin n rule count
  within_clocks ends count le = ends_later (clocks n) count le ends.ends.1

  pub no_fewer_clocks : ClockedRunEnds n rule → (count : ℕ) → EndsWithin n rule count → clocks n ≤ count
  no_fewer_clocks ends count ended =
      clocks_least n rule wired always ends count
      (subst (λ (run : List ℕ). HasEnded n (reached n rule run)) (clocked_is_stalled n rule count) ended)

  -- whether the first so many processes have ended
  ended_below : (k m : ℕ) → ((p : ℕ) → p < m → positions (after_clocks n rule k) p ≡ length (n.script p))
      ⊎ (EndsWithin n rule k → ⊥)
  ended_below k zero = inl (λ p lt. absurd (omega arith))
  ended_below k (suc m) =
      elim (cases_eq (positions (after_clocks n rule k) m) (length (n.script m))) [
        | inr other ↦ inr (λ ended. other (ended m))
        | inl here ↦
            elim (ended_below k m) [
              | inr none ↦ inr none
              | inl below ↦
                  inl (λ p lt. elim (cases_lt p m) [
                    | inl low ↦ below p low
                    | inr high ↦
                        let same : m ≡ p = omega arith in
                        subst (λ (q : ℕ). positions (after_clocks n rule k) q ≡ length (n.script q)) same here
                  ])
            ]
      ]

  pub ends_or_not : (k : ℕ) → EndsWithin n rule k ⊎ (EndsWithin n rule k → ⊥)
  ends_or_not k =
      elim (ended_below k n.processes) [
        | inr none ↦ inr none
        | inl below ↦
            inl (λ p. elim (cases_lt p n.processes) [
              | inl lt ↦ below p lt
              | inr past ↦
                  let nothing : length (n.script p) ≡ 0 = ap length (wired.bounded p past) in
                  let inside : positions (after_clocks n rule k) p ≤ length (n.script p) = clocked_inside k p in
                  let ended : positions (after_clocks n rule k) p ≡ length (n.script p) = omega arith in
                  ended
            ])
      ]

-- Greater capacities

pub ends_within_more : {T : Type 0} (n : Net) (rule : Rule T) (wired : IsWired n) (capacities : ℕ → ℕ) (count : ℕ)
    → ((c : ℕ) → c < n.channels → n.capacity c ≤ capacities c) → EndsWithin n rule count
    → EndsWithin (with_room n capacities) rule count
ends_within_more n rule wired capacities count more ended p =
    let there : positions (after_clocks n rule count) p ≡ length (n.script p) = ended p in
    let ahead : positions (after_clocks n rule count) p ≤ positions (after_clocks (with_room n capacities) rule count) p =
    never_behind n rule capacities wired more count p in
    let inside : positions (after_clocks (with_room n capacities) rule count) p ≤ length (n.script p) =
    clocked_inside (with_room n capacities) rule (wired_at n capacities wired) count p in
    let both : positions (after_clocks (with_room n capacities) rule count) p ≡ length (n.script p) = omega arith in
    both

-- what ends within the clocks with capacities nowhere greater and less in one channel does so with one less there alone
pub lowered_ends : {T : Type 0} (n : Net) (rule : Rule T) (wired : IsWired n) (capacities : ℕ → ℕ) (count c : ℕ)
    → ((d : ℕ) → d < n.channels → capacities d ≤ n.capacity d) → capacities c < n.capacity c
    → EndsWithin (with_room n capacities) rule count → EndsWithin (lowered_network n c) rule count
lowered_ends n rule wired capacities count c within below ended =
    ends_within_more (with_room n capacities) rule (wired_at n capacities wired) (lowered_network n c).capacity count
    (λ d there. elim (cases_eq d c) [
      | inl same ↦
          let here : capacities d ≡ capacities c = ap capacities same in
          omega (arith, here, below, replaced_same n.capacity c (n.capacity c - 1) d same)
      | inr other ↦ omega (arith, within d there, replaced_other n.capacity c (n.capacity c - 1) d other)
    ]) ended

-- One number in the place of another

own_within : (f : ℕ → ℕ) (c d : ℕ) → f d ≤ replaced f c (f c) d
own_within f c d =
    elim (cases_eq d c) [
      | inl same ↦ omega (arith, ap f same, replaced_same f c (f c) d same)
      | inr other ↦ omega (arith, replaced_other f c (f c) d other)
    ]

replaced_within : (f : ℕ → ℕ) (c a d : ℕ) → a ≤ f c → replaced f c a d ≤ f d
replaced_within f c a d le =
    elim (cases_eq d c) [
      | inl same ↦ omega (arith, ap f same, replaced_same f c a d same)
      | inr other ↦ omega (arith, replaced_other f c a d other)
    ]

-- one less in a channel where another one has less or as much
lowered_within : (f g : ℕ → ℕ) (c d : ℕ) → ((e : ℕ) → f e ≤ g e) → replaced f c (f c - 1) d ≤ replaced g c (g c - 1) d
lowered_within f g c d le =
    elim (cases_eq d c) [
      | inl same ↦
          omega (arith, le c, replaced_same f c (f c - 1) d same, replaced_same g c (g c - 1) d same)
      | inr other ↦
          omega (arith, le d, replaced_other f c (f c - 1) d other, replaced_other g c (g c - 1) d other)
    ]

replaced_twice : (f : ℕ → ℕ) (c a d : ℕ) → replaced (replaced f c a) c (replaced f c a c - 1) d ≤ replaced f c (a - 1) d
replaced_twice f c a d =
    elim (cases_eq d c) [
      | inl same ↦
          omega (
            arith,
            replaced_same f c a c refl,
            replaced_same (replaced f c a) c (replaced f c a c - 1) d same,
            replaced_same f c (a - 1) d same,
          )
      | inr other ↦
          omega (
            arith,
            replaced_other (replaced f c a) c (replaced f c a c - 1) d other,
            replaced_other f c a d other,
            replaced_other f c (a - 1) d other,
          )
    ]

-- Channel by channel

-- a capacity of channel c, at most b, with which the network ends within the clocks, and with one less it doesn't
record Lowest {T : Type 0} (n : Net) (rule : Rule T) (count c b : ℕ) : Type 0 where
  least : ℕ
  within : least ≤ b
  ends : EndsWithin (with_capacity n c least) rule count
  no_less : 0 < least → EndsWithin (with_capacity n c (least - 1)) rule count → ⊥

-- capacities within the network's with which it ends within the clocks, of which none of the first so many can be lowered
record LeastTo {T : Type 0} (n : Net) (rule : Rule T) (count m : ℕ) : Type 0 where
  least : ℕ → ℕ
  within : (c : ℕ) → least c ≤ n.capacity c
  ends : EndsWithin (with_room n least) rule count
  no_less : (c : ℕ) → c < m → 0 < least c → EndsWithin (lowered_network (with_room n least) c) rule count → ⊥

module _ {T : Type 0} (n : Net) (rule : Rule T) (wired : IsWired n) (count : ℕ) where
  lowest : (capacities : ℕ → ℕ) (c b : ℕ) → EndsWithin (with_capacity (with_room n capacities) c b) rule count
      → Lowest (with_room n capacities) rule count c b
  lowest capacities c zero ended = record {
    least = 0;
    within = omega arith;
    ends = ended;
    no_less = λ some. absurd (omega arith);
  }
  lowest capacities c (suc b) ended =
      let one_less : suc b - 1 ≡ b = omega arith in
      let there : IsWired (with_capacity (with_room n capacities) c b) = wired_at n (replaced capacities c b) wired in
      elim (ends_or_not (with_capacity (with_room n capacities) c b) rule there count) [
        | inl lower ↦
            let found : Lowest (with_room n capacities) rule count c b = lowest capacities c b lower in
            record {
              least = found.least;
              within = omega (arith, found.within);
              ends = found.ends;
              no_less = found.no_less;
            }
        | inr none ↦
            record {
              least = suc b;
              within = omega arith;
              ends = ended;
              no_less = λ some lower.
                  none (subst (λ (a : ℕ). EndsWithin (with_capacity (with_room n capacities) c a) rule count)
                  one_less lower);
            }
      ]

  -- the next channel is lowered as far as it goes, and the ones before it can't be lowered after that either
  least_next : (m : ℕ) → LeastTo n rule count m → LeastTo n rule count (suc m)
  least_next m before =
      let old : ℕ → ℕ = before.least in
      let old_wired : IsWired (with_room n old) = wired_at n old wired in
      let found : Lowest (with_room n old) rule count m (old m) =
      lowest old m (old m)
      (ends_within_more (with_room n old) rule old_wired (replaced old m (old m)) count
      (λ c there. own_within old m c) before.ends) in
      let new : ℕ → ℕ = replaced old m found.least in
      let less : (c : ℕ) → new c ≤ old c = λ c. replaced_within old m found.least c found.within in
      let new_wired : (c : ℕ) → IsWired (lowered_network (with_room n new) c) =
      λ c. wired_at n (lowered_network (with_room n new) c).capacity wired in
      record {
        least = new;
        within = λ c. omega (arith, less c, before.within c);
        ends = found.ends;
        no_less = λ c low some lower. elim (cases_lt c m) [
          | inl before_it ↦
              before.no_less c before_it (omega (arith, some, less c))
              (ends_within_more (lowered_network (with_room n new) c) rule (new_wired c)
              (lowered_network (with_room n old) c).capacity count
              (λ d there. lowered_within new old c d less) lower)
          | inr not_before ↦
              let same : c ≡ m = omega arith in
              let here : new c ≡ found.least = replaced_same old m found.least c same in
              found.no_less (omega (arith, some, here))
              (ends_within_more (lowered_network (with_room n new) m) rule (new_wired m)
              (replaced old m (found.least - 1)) count
              (λ d there. replaced_twice old m found.least d)
              (subst (λ (d : ℕ). EndsWithin (lowered_network (with_room n new) d) rule count) same lower))
        ];
      }

  least_to : (m : ℕ) → EndsWithin n rule count → LeastTo n rule count m
  least_to zero ended = record {
    least = n.capacity;
    within = λ c. omega arith;
    ends = ended;
    no_less = λ c low. absurd (omega arith);
  }
  least_to (suc m) ended = least_next m (least_to m ended)

  pub least_found : EndsWithin n rule count
      → (capacities : ℕ → ℕ) × ((c : ℕ) → capacities c ≤ n.capacity c)
      × HasMinimalCapacities (with_room n capacities) rule count
  least_found ended =
      let found : LeastTo n rule count n.channels = least_to n.channels ended in (
        found.least,
        found.within,
        record { ends = found.ends; none_less = λ c there some. found.no_less c there some },
      )
