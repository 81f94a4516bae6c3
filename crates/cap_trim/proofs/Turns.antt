-- The channels' turns over a list of capacities.
--
-- The invariant (`HaveTurned`) is that after m turns the list has the capacities of the network whose
-- first m channels have their least ones. At first it is the list of the network's own capacities. The
-- next turn sets item m to the least capacity in that same network, which is how the definition goes on
-- (`turned_more`), so after the last turn the list is that of the definition (`turned_all`). The last
-- part is of the network with one place less: an item is lowered, where the network then comes to rest
-- is noted, and the item is set back. How a least capacity is found is shown in CapacitySearch.
use Rattle.std.proofs.Common.{◌≡◌, ℕ, suc, ◌+◌, ◌-◌, ◌<◌, ◌≤◌, List, [], ◌∷◌, ◌++◌, map, set}
use Rattle.std.proofs.Common.{length, get_or, sym, ap, ◌∙◌, subst, inl, inr, arith, length-set}
use Rattle.std.specs.List.{range_with_len}
use Rattle.std.specs.Prelude.{slice_index}
use Rattle.std.proofs.lemmas.Bool.{cases_lt}
use Rattle.std.proofs.lemmas.List.{get_or_past, set-get_or}
use Rattle.std.proofs.lemmas.List.FromFn.{fill_by_all, get_or-map-range_with_len, length-map-range_with_len}
use Rattle.std.proofs.lemmas.List.FromFn.{map-range_with_len_more}
use mathlib.Core.Path.{fun_ext}
use Rattle.net_core.specs.Machine.{Net, replaced}
use Rattle.cap_trim.specs.Capacities.{capacity_list, least_capacity, lowered_network, trimmed_network}
use Rattle.cap_trim.specs.Capacities.{trimmed_network_below, with_capacity, with_room}
use Rattle.net_core.specs.Progress.{at_capacities}
use Rattle.cap_trim.specs.Rests.{rest}
use Rattle.cap_trim.proofs.LeastCapacities.{before_is}
use Rattle.cap_trim.proofs.CapacitySearch.{at_replaced, list_replaced, set_twice}

-- a channel that isn't there has no room

-- a network is the one with the list of its capacities
pub listed : (n : Net) → ((c : ℕ) → n.channels ≤ c → n.capacity c ≡ 0)
    → slice_index (capacity_list n) ≡ n.capacity
listed n none =
    fun_ext (λ c. elim (cases_lt c n.channels) [
      | inl lt ↦ get_or-map-range_with_len n.capacity 0 n.channels c c 0 lt (omega arith)
      | inr past ↦
          get_or_past (capacity_list n) c 0 (omega (arith, length-map-range_with_len n.capacity 0 n.channels))
          ∙ sym (none c past)
    ])

pub at_listed : (n : Net) → ((c : ℕ) → n.channels ≤ c → n.capacity c ≡ 0) → at_capacities n (capacity_list n) ≡ n
at_listed n none = ap (with_room n) (listed n none)

-- The capacities once the first so many channels have had their turns
pub record HaveTurned (n : Net) (m : ℕ) (capacities : List ℕ) : Type 0 where
  pub long : length capacities ≡ n.channels
  pub are : slice_index capacities ≡ (trimmed_network_below n m).capacity

pub at_turn : (n : Net) (m : ℕ) (capacities : List ℕ) → HaveTurned n m capacities
    → at_capacities n capacities ≡ trimmed_network_below n m
at_turn n m capacities turned = ap (with_room n) turned.are ∙ sym (before_is n m)

pub turned_none : (n : Net) → ((c : ℕ) → n.channels ≤ c → n.capacity c ≡ 0) → (capacities : List ℕ)
    → capacities ≡ capacity_list n → HaveTurned n 0 capacities
turned_none n none capacities is = record {
  long = ap length is ∙ length-map-range_with_len n.capacity 0 n.channels;
  are = ap slice_index is ∙ listed n none;
}

-- one turn more
pub turned_more : (n : Net) (m : ℕ) (capacities later : List ℕ) → HaveTurned n m capacities → m < n.channels
    → later ≡ set capacities m (least_capacity (at_capacities n capacities) m) → HaveTurned n (m + 1) later
turned_more n m capacities later turned lt is =
    let least : least_capacity (at_capacities n capacities) m ≡ least_capacity (trimmed_network_below n m) m =
    ap (λ (x : Net). least_capacity x m) (at_turn n m capacities turned) in
    let within : m < length capacities = omega (arith, turned.long) in
    let next : suc m ≡ m + 1 = omega arith in
    subst (λ i. HaveTurned n i later) next
    (record {
      long = ap length is ∙ length-set capacities m (least_capacity (at_capacities n capacities) m) ∙ turned.long;
      are = ap slice_index is
          ∙ list_replaced capacities m (least_capacity (at_capacities n capacities) m) within
          ∙ ap (λ (f : ℕ → ℕ). replaced f m (least_capacity (at_capacities n capacities) m)) turned.are
          ∙ ap (replaced (trimmed_network_below n m).capacity m) least;
    })

-- after all turns the list is that of the network with least capacities
pub turned_all : (n : Net) (capacities : List ℕ) → HaveTurned n n.channels capacities
    → capacities ≡ capacity_list (trimmed_network n)
unfolding trimmed_network
turned_all n capacities turned =
    let same : (trimmed_network_below n n.channels).channels ≡ n.channels =
    ap (λ (x : Net). x.channels) (before_is n n.channels) in
    fill_by_all (trimmed_network_below n n.channels).capacity capacities n.channels 0 turned.long
    (λ c lt. ap (λ (f : ℕ → ℕ). f c) turned.are)
    ∙ ap (λ m. map (trimmed_network_below n n.channels).capacity (range_with_len 0 m)) (sym same)

-- With one place less

-- a place is lowered and given back
pub set_back : (xs : List ℕ) (i lower : ℕ) → set (set xs i lower) i (get_or xs i 0) ≡ xs
set_back xs i lower = set_twice xs i lower (get_or xs i 0) ∙ set-get_or xs i 0

-- where the network with one place less comes to rest
pub rest_lowered : (n : Net) (capacities : List ℕ) (c lower : ℕ) → c < length capacities
    → lower ≡ get_or capacities c 0 - 1
    → rest (at_capacities n (set capacities c lower)) ≡ rest (lowered_network (at_capacities n capacities) c)
rest_lowered n capacities c lower lt is =
    ap rest (at_replaced n capacities c lower lt)
    ∙ ap (λ a. rest (with_capacity (at_capacities n capacities) c a)) is

-- one channel more
pub rests_more : (n : Net) (c : ℕ) (rests : List (List ℕ)) (positions : List ℕ)
    → rests ≡ map (λ d. rest (lowered_network n d)) (range_with_len 0 c) → positions ≡ rest (lowered_network n c)
    → rests ++ positions ∷ [] ≡ map (λ d. rest (lowered_network n d)) (range_with_len 0 (c + 1))
rests_more n c rests positions are is =
    ap (λ (l : List (List ℕ)). l ++ positions ∷ []) are
    ∙ ap (λ (x : List ℕ). map (λ d. rest (lowered_network n d)) (range_with_len 0 c) ++ x ∷ []) is
    ∙ sym (map-range_with_len_more (λ d. rest (lowered_network n d)) 0 c c (omega arith))
