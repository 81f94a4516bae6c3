-- A nest's network with its least capacities fits the nest.
--
-- Other capacities leave shape, names and classes as they are, so only the schedule is asked of them. The network that
-- is given ends under its own schedule, so the one with least capacities ends, and its least-process run ends all. That
-- each capacity is at least 1 comes from the nest: each channel has a Put there.
use Rattle.std.proofs.Common.{◌≡◌, ℕ, ◌<◌, ◌≤◌, true, List, [], length, get_or}
use Rattle.std.proofs.Common.{refl, sym, ap, ◌∙◌, subst, arith}
use Rattle.std.specs.Prelude.{IfOk, Result, Ok, Err, slice_index_or}
use Rattle.std.proofs.lemmas.List.{length-replicate}
use Rattle.std.proofs.lemmas.List.FromFn.{get_or-map-range_with_len}
use Rattle.net_checker.specs.Fits.{Fits}
use Rattle.net_checker.specs.Shapes.{read_total}
use Rattle.net_core.specs.declared.network.Network.{Network}
use Rattle.net_core.specs.Machine.{Net, net_of}
use Rattle.net_core.specs.Orders.{EndsAll}
use Rattle.net_core.specs.Rules.{tags}
use Rattle.net_core.specs.Shape.{IsWired, put_count}
use Rattle.net_core.specs.Sound.{FitsNest, NamesLastWriters}
use Rattle.swept_net.specs.Certificates.{swept_cert}
use Rattle.swept_net.proofs.FitsNest.{HasClasses, fits_with, swept_are_usable}
use Rattle.process_derive.specs.Derived.{net}
use Rattle.process_derive.proofs.ScriptNames.{is_wired}
use Rattle.sanlp.specs.declared.nest.Nest.{Nest}
use Rattle.source_tree.specs.declared.cert.Origin.TheVariants.{Sweep}
use Rattle.witness_plan.specs.Schedules.{planned_network, schedule}
use Rattle.witness_plan.specs.Sequential.{capacities, channels_with, with_capacities}
use Rattle.witness_plan.proofs.OtherCapacities.{net_kept, wired_kept, length-channels_with}
use Rattle.witness_plan.proofs.PolicyRuns.{ends_all}
use Rattle.cap_trim.specs.Capacities.{IsPlanned, SticksAt, SticksBelow, capacity_list, lowered_network, lowered_rests}
use Rattle.cap_trim.specs.Capacities.{trimmed_network}
use Rattle.cap_trim.specs.Rests.{can_end, least_run, rest}
use Rattle.cap_trim.proofs.AtRest.{can_end_since, least_ends}
use Rattle.cap_trim.proofs.ChannelTokens.{channel_puts}
use Rattle.cap_trim.proofs.LeastCapacities.{last_some, last_sticks, last_within}
use Rattle.cap_trim.proofs.CapacityLists.{capacities_twice, last_can, last_is, list_is, net_is}

pub ok_both : {X E : Type 0} (r : Result X E) (P Q : X → Type 0) → IfOk r P → IfOk r Q → IfOk r (λ x. P x × Q x)
ok_both (Ok x) P Q p q = (p, q)
ok_both (Err e) P Q p q = tt

pub planned_can : (nest : Nest) (network : Network) → IsWired (net_of network) → IsPlanned nest network
    → can_end (net_of network) ≡ true
planned_can nest network wired planned =
    subst (λ (x : Network). can_end (net_of x) ≡ true) (sym planned.1)
    (can_end_since (net_of (planned_network nest planned.0))
    (subst (λ (x : Network). IsWired (net_of x)) planned.1 wired) tags
    (schedule nest planned.0) (ends_all nest planned.0))

-- each channel has a Put
pub planned_puts : (nest : Nest) (network : Network) → IsPlanned nest network → (c : ℕ) → c < length network.channels
    → 0 < put_count (net_of network) c
planned_puts nest network planned c lt =
    let places = capacities (net nest) (schedule nest planned.0) in
    let count : length network.channels ≡ length (net nest).channels =
    ap (λ (x : Network). length x.channels) planned.1 ∙ length-channels_with (net nest).channels places in
    let same : put_count (net_of network) c ≡ put_count (net_of (net nest)) c =
    ap (λ (x : Network). put_count (net_of x) c) planned.1
    ∙ ap (λ (x : Net). put_count x c) (net_kept (net nest) places) in
    omega (arith, same, channel_puts nest c (omega arith))

pub fits_trimmed : (nest : Nest) (network : Network) (places : List ℕ) → IsPlanned nest network
    → FitsNest nest (net nest) → NamesLastWriters nest (net_of (net nest)) → HasClasses (net nest)
    → places ≡ capacity_list (trimmed_network (net_of network)) → IsWired (net_of network)
    → Fits nest (with_capacities network places)
    (swept_cert nest (least_run (net_of (with_capacities network places))))
fits_trimmed nest network places planned shape names classes is wired =
    let before = capacities (net nest) (schedule nest planned.0) in
    let twice : with_capacities network places ≡ with_capacities (net nest) places =
    ap (λ (x : Network). with_capacities x places) planned.1 ∙ capacities_twice (net nest) before places in
    let can = planned_can nest network wired planned in
    let wired_there : IsWired (net_of (with_capacities network places)) = wired_kept network places wired in
    let can_there : can_end (net_of (with_capacities network places)) ≡ true =
    ap can_end (net_is network places is) ∙ last_can network can in
    let ends = least_ends (net_of (with_capacities network places)) wired_there can_there in
    let run = least_run (net_of (with_capacities network places)) in
    subst (λ (x : Network). Fits nest x (swept_cert nest run)) (sym twice)
    (fits_with nest (net nest) places (swept_cert nest run) shape names classes
    (net_kept (net nest) places) (wired_kept (net nest) places shape.shaped.wired)
    (length-replicate (read_total nest) Sweep)
    (swept_are_usable nest (swept_cert nest run) (read_total nest) refl)
    (subst (λ (x : Network). EndsAll (net_of x) tags run) twice ends))

-- With one place less

module _ (nest : Nest) (network : Network) (places : List ℕ) (planned : IsPlanned nest network)
    (wired : IsWired (net_of network)) (is : places ≡ capacity_list (trimmed_network (net_of network))) where
  can_here : can_end (net_of network) ≡ true
  can_here = planned_can nest network wired planned

  -- each capacity is at least 1 and none has grown
  pub places_within : (c : ℕ) → c < length network.channels
      → (1 ≤ get_or places c 0) × (get_or places c 0 ≤ (net_of network).capacity c)
  unfolding trimmed_network
  places_within c lt =
      let n = net_of network in
      let read : get_or places c 0 ≡ (trimmed_network n).capacity c =
      ap (λ l. get_or l c 0) (is ∙ list_is network)
      ∙ get_or-map-range_with_len (trimmed_network n).capacity 0 (length network.channels) c c 0 lt (omega arith) in
      let some = last_some n wired can_here c lt (planned_puts nest network planned c lt) in
      (omega (arith, read, some), omega (arith, read, last_within n c))

  -- and each network with one place less sticks
  pub places_stick : (rests : List (List ℕ)) → rests ≡ lowered_rests (trimmed_network (net_of network))
      → SticksBelow (net_of (with_capacities network places)) rests
  unfolding trimmed_network
  places_stick rests are c lt =
      let n = net_of network in
      let t = trimmed_network n in
      let same : net_of (with_capacities network places) ≡ t = net_is network places is in
      let here : c < length (channels_with network.channels places) = lt in
      let there : c < length network.channels = omega (arith, length-channels_with network.channels places) in
      let many : t.channels ≡ length network.channels = ap (λ (x : Net). x.channels) (last_is network) in
      let read : slice_index_or rests c [] ≡ rest (lowered_network t c) =
      ap (λ l. slice_index_or l c []) are
      ∙ get_or-map-range_with_len (λ d. rest (lowered_network t d)) 0 t.channels c c [] (omega arith) (omega arith) in
      let sticks = last_sticks n wired can_here c there (planned_puts nest network planned c there) in
      subst (λ (x : Net). SticksAt (lowered_network x c) (slice_index_or rests c [])) (sym same)
      (subst (λ (l : List ℕ). SticksAt (lowered_network t c) l) (sym read) sticks)

pub planned_wired : (nest : Nest) (network : Network) → IsPlanned nest network → IsWired (net_of network)
planned_wired nest network planned =
    subst (λ (x : Network). IsWired (net_of x)) (sym planned.1)
    (wired_kept (net nest) (capacities (net nest) (schedule nest planned.0)) (is_wired nest))
