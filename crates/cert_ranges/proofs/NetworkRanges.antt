-- The network that a nest is compiled to has a text with each certificate of it.
--
-- It has the processes of the derived network, so numbers and events are as few as in that one; only
-- the capacities differ. A capacity is the greatest length of a queue along the schedule, and at no cut
-- does a queue have more tokens than its writer's script has events (`queue_within`), which are fewer
-- than 2^32. The certificate's trees are in range by what a certificate is. All this rests on the limit
-- of the nest's size, and on no property of the schedule, so it holds under each policy.
use Rattle.std.proofs.Common.{◌≡◌, ℕ, zero, suc, ◌+◌, ◌<◌, ◌≤◌, ◌^◌, max, Option, Some, None, List, [], ◌∷◌, length}
use Rattle.std.proofs.Common.{map, take, slice_get, refl, sym, ap, subst, arith}
use Rattle.std.specs.Prelude.{All}
use Rattle.std.specs.List.{fold, range_with_len}
use Rattle.std.specs.Option.{option_map_or}
use Rattle.std.proofs.lemmas.List.{length-take}
use Rattle.std.proofs.lemmas.List.Sums.{count_by-le-length}
use Rattle.cert_text.specs.CertText.{OriginIsInRange}
use Rattle.cert_text.specs.Folding.{most_events}
use Rattle.cert_text.specs.StandsFor.{HasText}
use Rattle.sanlp.specs.Size.{SizeIsOk}
use Rattle.net_core.proofs.Ready.{script_short}
use Rattle.net_core.specs.Cuts.{Cut, cut_after, opening}
use Rattle.net_core.specs.declared.network.Channel.{Channel}
use Rattle.net_core.specs.Machine.{Net, net_of}
use Rattle.net_core.specs.Shape.{FitsNumbers, events_below, is_put}
use Rattle.net_core.proofs.Scripts.{events_below-capacities}
use Rattle.swept_net.proofs.Numbers.{numbers_stay}
use Rattle.swept_net.specs.Certificates.{IsCertificate}
use Rattle.process_derive.proofs.Bounds.{few_entries}
use Rattle.process_derive.proofs.Numbers.{has_few_events, numbers_fit}
use Rattle.process_derive.proofs.ScriptNames.{is_wired}
use Rattle.process_derive.specs.Derived.{net}
use Rattle.sanlp.proofs.Each.{Each, each_map, each_of}
use Rattle.sanlp.specs.declared.nest.Nest.{Nest}
use Rattle.source_tree.specs.declared.cert.Cert.{Cert}
use Rattle.source_tree.specs.declared.cert.Origin.{Origin}
use Rattle.source_tree.specs.declared.cert.Origin.TheVariants as origin
use Rattle.source_tree.specs.declared.tree.Tree.{Tree}
use Rattle.tree_text.specs.TreeText.{TreeIsInRange}
use Rattle.witness_plan.proofs.OtherCapacities.{net_kept}
use Rattle.witness_plan.specs.declared.schedules.Policy.{Policy}
use Rattle.witness_plan.specs.Schedules.{planned_network, schedule}
use Rattle.witness_plan.specs.Sequential.{capacities, channels_with, greatest_length, queue_length}
use Rattle.cert_ranges.proofs.Ranges.{all_found, has_text}

-- Capacities

greatest_within : (f : ℕ → ℕ) (limit first : ℕ) (ks : List ℕ) → ((k : ℕ) → f k ≤ limit) → first ≤ limit
    → fold max first (map f ks) ≤ limit
greatest_within f limit first [] all le = le
greatest_within f limit first (k ∷ ks) all le = greatest_within f limit (max first (f k)) ks all (omega (arith, all k))

-- a queue is never longer than its writer's script
queue_within : (m : Net) (cut : Cut) (c : ℕ) → queue_length m cut c ≤ length (m.script (m.writer c))
queue_within m cut c =
    omega (
      arith,
      count_by-le-length (is_put c) (take (cut (m.writer c)) (m.script (m.writer c))),
      length-take (cut (m.writer c)) (m.script (m.writer c)),
    )

capacity_within : (channels : List Channel) (rooms : List ℕ) (limit : ℕ) → Each (λ room. room ≤ limit) rooms
    → (c : ℕ) (channel : Channel) → slice_get (channels_with channels rooms) c ≡ Some channel → channel.capacity ≤ limit
capacity_within [] rooms limit each c channel there = cc
capacity_within (x ∷ channels) [] limit each zero channel there =
    let same : (let changed : Channel = record x { capacity = 0 } in changed) ≡ channel = cc in
    omega (arith, ap (λ (y : Channel). y.capacity) same)
capacity_within (x ∷ channels) [] limit each (suc c) channel there =
    capacity_within channels [] limit each c channel there
capacity_within (x ∷ channels) (room ∷ rooms) limit each zero channel there =
    let same : (let changed : Channel = record x { capacity = room } in changed) ≡ channel = cc in
    omega (arith, ap (λ (y : Channel). y.capacity) same, each.0)
capacity_within (x ∷ channels) (room ∷ rooms) limit each (suc c) channel there =
    capacity_within channels rooms limit each.1 c channel there

capacity_at : (channels : List Channel) (c limit : ℕ) (o : Option Channel) → slice_get channels c ≡ o
    → ((channel : Channel) → slice_get channels c ≡ Some channel → channel.capacity ≤ limit)
    → option_map_or (λ (channel : Channel). channel.capacity) o 0 ≤ limit
capacity_at channels c limit None is all = omega arith
capacity_at channels c limit (Some channel) is all = all channel is

planned_small : (n : Nest) (policy : Policy) → SizeIsOk n → (c : ℕ)
    → (net_of (planned_network n policy)).capacity c < 2 ^ 32
planned_small n policy sized c =
    let m : Net = net_of (net n) in
    let run : List ℕ = schedule n policy in
    let one : (d : ℕ) → greatest_length m run d ≤ 4294967295 = λ d.
    greatest_within (λ k. queue_length m (cut_after opening (take k run)) d) 4294967295 0
    (range_with_len 0 (length run + 1))
    (λ k. omega (
      arith,
      queue_within m (cut_after opening (take k run)) d,
      script_short m (is_wired n) (numbers_fit n sized) (m.writer d),
    )) (omega arith) in
    let all : Each (λ room. room ≤ 4294967295) (capacities (net n) run) =
    each_map (λ room. room ≤ 4294967295) (greatest_length m run) (range_with_len 0 (length (net n).channels))
    (each_of (λ d. greatest_length m run d ≤ 4294967295) (range_with_len 0 (length (net n).channels)) one) in
    omega (
      arith,
      capacity_at (planned_network n policy).channels c 4294967295
          (slice_get (planned_network n policy).channels c) refl
          (capacity_within (net n).channels (capacities (net n) run) 4294967295 all c),
    )

planned_few : (n : Nest) (policy : Policy) → SizeIsOk n → FitsNumbers (net_of (planned_network n policy))
planned_few n policy sized =
    numbers_stay (net_of (net n)) (net_of (planned_network n policy)) (net_of (planned_network n policy)).capacity
    (net_kept (net n) (capacities (net n) (schedule n policy))) (numbers_fit n sized)

-- where each tree is in range, each origin is
origins_in_range : (sources : List Origin)
    → ((k : ℕ) (tree : Tree) → slice_get sources k ≡ Some (origin.Tree tree) → TreeIsInRange tree)
    → All OriginIsInRange sources
origins_in_range sources trees = all_found OriginIsInRange sources in_range where
  in_range : (k : ℕ) (o : Origin) → slice_get sources k ≡ Some o → OriginIsInRange o
  in_range k origin.Sweep is = tt
  in_range k (origin.Tree tree) is = trees k tree is

events_stay : (m changed : Net) (room : ℕ → ℕ) (limit : ℕ) → changed ≡ record m { capacity = room }
    → events_below m m.processes ≤ limit → events_below changed changed.processes ≤ limit
events_stay m changed room limit is few =
    subst (λ (other : Net). events_below other other.processes ≤ limit) (sym is)
    (subst (λ (k : ℕ). k ≤ limit) (sym (events_below-capacities m room m.processes)) few)

planned_events : (n : Nest) (policy : Policy) → SizeIsOk n
    → events_below (net_of (planned_network n policy)) (net_of (planned_network n policy)).processes ≤ most_events
planned_events n policy sized =
    events_stay (net_of (net n)) (net_of (planned_network n policy))
    (net_of (planned_network n policy)).capacity most_events
    (net_kept (net n) (capacities (net n) (schedule n policy))) (omega (arith, has_few_events n, few_entries n sized))

pub planned_has_text : (n : Nest) (policy : Policy) (cert : Cert) → IsCertificate n policy cert → SizeIsOk n
    → HasText (planned_network n policy) cert
planned_has_text n policy cert certificate sized =
    has_text n (planned_network n policy) cert certificate.fits (planned_few n policy sized)
    (planned_small n policy sized) (origins_in_range cert.sources certificate.in_range) (planned_events n policy sized)
