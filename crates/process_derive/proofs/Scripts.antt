-- The events that are made point by point are the script of the process.
--
-- The code makes lists of what each fire uses, read by read; the script is defined point by point. At
-- one fire and read both look for the same channel with the same number of the use, so by Channels they
-- find the same use with the same plan of slots, or none (`used_at`). Hence Gets and references are the
-- same, and the Puts are too (`puts_same`), so each point has the same events. That needs no limit of
-- the nest's size: it is only for the numbers of the slots to fit (`uses_fit`).
use Rattle.std.proofs.Common.{◌≡◌, ◌<◌, ◌≤◌, ◌^◌, ℕ, zero, suc, List, [], ◌∷◌, ◌++◌, map, length, get_or, refl, sym, ap}
use Rattle.std.proofs.Common.{◌∙◌, subst, arith}
use Rattle.std.specs.Prelude.{Option, Some, None, slice_get, slice_index_or}
use Rattle.std.specs.List.{find, flat_map, range_with_len}
use Rattle.std.specs.Option.{option_and_then, option_map, option_map_or}
use Rattle.std.proofs.lemmas.List.FromFn.{length-map-range_with_len, get_or-map-range_with_len}
use Rattle.std.proofs.lemmas.Option.{slice_get_within}
use Rattle.std.proofs.lemmas.Simd.{map-map}
use Rattle.channel_plan.specs.declared.plans.ChannelPlan.{ChannelPlan}
use Rattle.channel_plan.specs.Plans.{plans_of, sources_at, turn_count}
use Rattle.sanlp.specs.Access.{read_count}
use Rattle.sanlp.specs.Size.{SizeIsOk}
use Rattle.net_core.specs.declared.network.Event.TheVariants.{Fire}
use Rattle.reorder_slots.specs.declared.slots.SlotPlan.{SlotPlan}
use Rattle.sanlp.specs.declared.nest.Nest.{Nest}
use Rattle.sanlp.specs.declared.nest.Tag.{Tag}
use Rattle.sanlp.proofs.Lists.{map-range_with_len_same, flat_map-range_with_len_same, slice_get-map-range_with_len}
use Rattle.sanlp.proofs.NestFacts.{few_read_count}
use Rattle.process_derive.specs.declared.incoming.Incoming.{Incoming}
use Rattle.process_derive.specs.declared.uses.ChannelUse.{ChannelUse}
use Rattle.process_derive.specs.Incoming.{comes_from, incoming_from, outgoing_from, puts_to}
use Rattle.process_derive.specs.Scripts.{Usage, channel_from, gets_of, point_events, ref_of, script, slot_base, usage}
use Rattle.process_derive.specs.Scripts.{usage_from}
use Rattle.process_derive.specs.Uses.{OnlyBelow, SlotsFit, UseFits, events_at, read_uses, slots_at, usages_at, use_at}
use Rattle.process_derive.specs.Uses.{use_from, uses_before, uses_by_read, with_slots}
use Rattle.process_derive.proofs.Bounds.{few_entries}
use Rattle.process_derive.proofs.Channels.{AreSame, found_same, puts_same}
use Rattle.process_derive.proofs.Holds.{slots_fit}
use Rattle.process_derive.proofs.Tags.{few_turns, length-sources, processes_below}

slots_there : (plans : List ChannelPlan) (c : ℕ) (plan : ChannelPlan) → slice_get plans c ≡ Some plan
    → slots_at plans c ≡ plan.slots
slots_there plans c plan e =
    ap (λ o. option_map_or (λ plan. plan.slots) o
    (record { gets_before = []; slot_of_get = []; slot_of_use = []; hold = 0 })) e

-- a use of the channel that is found, with its plan of slots
named_same : (plans : List ChannelPlan) (p q : ℕ) (i : Option Incoming) (r : Option (ℕ × ChannelPlan))
    → AreSame plans p i r
    → with_slots plans
    (option_map (λ (found : Incoming). record { channel = found.channel; base = found.base; number = q }) i)
    ≡ option_map
    (λ (found : ℕ × ChannelPlan).
    record { channel = found.0; base = slot_base plans p found.0; slots = found.1.slots; number = q }) r
named_same plans p q None None h = refl
named_same plans p q None (Some r) h = absurd h
named_same plans p q (Some i) None h = absurd h
named_same plans p q (Some i) (Some r) h =
    let make : ℕ → ℕ → SlotPlan → Option Usage =
    λ c base slots. Some (record { channel = c; base = base; slots = slots; number = q }) in
    ap (λ c. make c i.base (slots_at plans c)) h.number
    ∙ ap (λ b. make r.0 b (slots_at plans r.0)) h.base
    ∙ ap (make r.0 (slot_base plans p r.0)) (slots_there plans r.0 r.1 h.there)

-- and the numbers of its slots fit
fits_same : (plans : List ChannelPlan) (p q : ℕ) (i : Option Incoming) (r : Option (ℕ × ChannelPlan))
    → AreSame plans p i r
    → ((c : ℕ) (plan : ChannelPlan) → slice_get plans c ≡ Some plan → plan.reader ≡ p
    → SlotsFit (slot_base plans p c) plan.slots)
    → UseFits plans
    (option_map (λ (found : Incoming). record { channel = found.channel; base = found.base; number = q }) i)
fits_same plans p q None r h all = tt
fits_same plans p q (Some i) None h all = absurd h
fits_same plans p q (Some i) (Some r) h all =
    let there : i.channel < length plans = omega (arith, h.number, slice_get_within plans r.0 r.1 h.there) in
    let slots : slots_at plans i.channel ≡ r.1.slots =
    ap (slots_at plans) h.number ∙ slots_there plans r.0 r.1 h.there in (
      there,
      subst (λ b. SlotsFit b (slots_at plans i.channel)) (sym h.base)
          (subst (SlotsFit (slot_base plans p r.0)) (sym slots) (all r.0 r.1 h.there h.reader)),
    )

pub channel_same : (plans : List ChannelPlan) (p w k : ℕ)
    → AreSame plans p (find (comes_from w k) (incoming_from 0 0 plans p)) (channel_from 0 plans w p k)
channel_same plans p w k = found_same [] plans p w k 0 0 refl refl

used_same : (plans : List ChannelPlan) (p k f : ℕ) (sources : List (Option Tag)) (o : Option (Option Tag))
    → with_slots plans
    (option_and_then
    (λ source. option_and_then
    (λ (t : Tag).
    use_from (incoming_from 0 0 plans p) k t.process (uses_before sources f t.process)) source) o)
    ≡ option_and_then (λ source. option_and_then (λ (t : Tag). usage_from plans sources p k f t.process) source) o
used_same plans p k f sources None = refl
used_same plans p k f sources (Some None) = refl
used_same plans p k f sources (Some (Some t)) =
    named_same plans p (uses_before sources f t.process) (find (comes_from t.process k) (incoming_from 0 0 plans p))
    (channel_from 0 plans t.process p k) (channel_same plans p t.process k)

used_fits : (n : Nest) (p k f : ℕ) (sources : List (Option Tag)) (o : Option (Option Tag)) → SizeIsOk n
    → UseFits (plans_of n)
    (option_and_then
    (λ source. option_and_then
    (λ (t : Tag).
    use_from (incoming_from 0 0 (plans_of n) p) k t.process
    (uses_before sources f t.process)) source) o)
used_fits n p k f sources None ok = tt
used_fits n p k f sources (Some None) ok = tt
used_fits n p k f sources (Some (Some t)) ok =
    fits_same (plans_of n) p (uses_before sources f t.process)
    (find (comes_from t.process k) (incoming_from 0 0 (plans_of n) p)) (channel_from 0 (plans_of n) t.process p k)
    (channel_same (plans_of n) p t.process k) (λ c plan e own. slots_fit n p c plan ok e own)

abbrev sources_of_process : Nest → ℕ → List (List (Option Tag))
sources_of_process n p = map (sources_at n p) (range_with_len 0 (read_count n p))

abbrev at_fire : ℕ → List (Option ChannelUse) → Option ChannelUse
at_fire f list = option_and_then (λ found. found) (slice_get list f)

used_at : (n : Nest) (p f k : ℕ) → f < turn_count n p → k < read_count n p
    → with_slots (plans_of n)
    (at_fire f (read_uses (incoming_from 0 0 (plans_of n) p) k (slice_index_or (sources_of_process n p) k [])))
    ≡ usage n p f k
used_at n p f k fire within =
    let plans : List ChannelPlan = plans_of n in
    let incoming : List Incoming = incoming_from 0 0 plans p in
    let sources : List (Option Tag) = sources_at n p k in
    let read : slice_index_or (sources_of_process n p) k [] ≡ sources =
    get_or-map-range_with_len (sources_at n p) 0 (read_count n p) k k [] within (omega arith) in
    let here : at_fire f (read_uses incoming k sources) ≡ use_at incoming k sources f =
    ap (option_and_then (λ found. found))
    (slice_get-map-range_with_len (use_at incoming k sources) 0 (length sources) f f
    (omega (arith, length-sources n p k)) (omega arith)) in
    ap (λ list. with_slots plans (at_fire f (read_uses incoming k list))) read
    ∙ ap (with_slots plans) here
    ∙ used_same plans p k f sources (slice_get sources f)

usages_same : (n : Nest) (p f : ℕ) → f < turn_count n p
    → usages_at (plans_of n) (uses_by_read (incoming_from 0 0 (plans_of n) p) (sources_of_process n p)) f
    ≡ map (usage n p f) (range_with_len 0 (read_count n p))
usages_same n p f fire =
    let plans : List ChannelPlan = plans_of n in
    let incoming : List Incoming = incoming_from 0 0 plans p in
    let sources : List (List (Option Tag)) = sources_of_process n p in
    map-map (λ list. with_slots plans (at_fire f list)) (λ k. read_uses incoming k (slice_index_or sources k []))
    (range_with_len 0 (length sources))
    ∙ ap (λ m. map (λ k. with_slots plans (at_fire f (read_uses incoming k (slice_index_or sources k []))))
    (range_with_len 0 m)) (length-map-range_with_len (sources_at n p) 0 (read_count n p))
    ∙ map-range_with_len_same (λ k. with_slots plans (at_fire f (read_uses incoming k (slice_index_or sources k []))))
    (usage n p f) 0 (read_count n p)
    (λ k from below. used_at n p f k fire (omega arith))

events_same : (n : Nest) (p f : ℕ) → f < turn_count n p
    → events_at (plans_of n) (uses_by_read (incoming_from 0 0 (plans_of n) p) (sources_of_process n p))
    (outgoing_from 0 (plans_of n) p) f ≡ point_events n p f
events_same n p f fire =
    let puts = puts_same [] (plans_of n) p f 0 refl in
    ap (λ us. flat_map gets_of us ++ Fire (map ref_of us) ∷ puts_to (plans_of n) (outgoing_from 0 (plans_of n) p) f)
    (usages_same n p f fire)
    ∙ ap (λ es. flat_map gets_of (map (usage n p f) (range_with_len 0 (read_count n p)))
    ++ Fire (map ref_of (map (usage n p f) (range_with_len 0 (read_count n p)))) ∷ es) puts

-- the events of all points are the script
pub script_same : (n : Nest) (p fires : ℕ) (plans : List ChannelPlan) (incoming : List Incoming)
    (sources : List (List (Option Tag))) (outgoing : List ℕ)
    → plans ≡ plans_of n → incoming ≡ incoming_from 0 0 plans p → sources ≡ sources_of_process n p
    → outgoing ≡ outgoing_from 0 plans p → fires ≡ turn_count n p
    → flat_map (events_at plans (uses_by_read incoming sources) outgoing) (range_with_len 0 fires) ≡ script n p
script_same n p fires plans incoming sources outgoing e_plans e_incoming e_sources e_outgoing e_fires =
    let all : incoming ≡ incoming_from 0 0 (plans_of n) p = e_incoming ∙ ap (λ ps. incoming_from 0 0 ps p) e_plans in
    let uses : List (List (Option ChannelUse)) = uses_by_read incoming sources in
    let used : uses ≡ uses_by_read (incoming_from 0 0 (plans_of n) p) (sources_of_process n p) =
    ap (λ i. uses_by_read i sources) all
    ∙ ap (uses_by_read (incoming_from 0 0 (plans_of n) p)) e_sources in
    let out : outgoing ≡ outgoing_from 0 (plans_of n) p = e_outgoing ∙ ap (λ ps. outgoing_from 0 ps p) e_plans in
    ap (λ ps. flat_map (events_at ps uses outgoing) (range_with_len 0 fires)) e_plans
    ∙ ap (λ us. flat_map (events_at (plans_of n) us outgoing) (range_with_len 0 fires)) used
    ∙ ap (λ os. flat_map
    (events_at (plans_of n) (uses_by_read (incoming_from 0 0 (plans_of n) p) (sources_of_process n p)) os)
    (range_with_len 0 fires)) out
    ∙ ap (λ m. flat_map
    (events_at (plans_of n) (uses_by_read (incoming_from 0 0 (plans_of n) p) (sources_of_process n p))
    (outgoing_from 0 (plans_of n) p)) (range_with_len 0 m)) e_fires
    ∙ flat_map-range_with_len_same
    (events_at (plans_of n) (uses_by_read (incoming_from 0 0 (plans_of n) p) (sources_of_process n p))
    (outgoing_from 0 (plans_of n) p)) (point_events n p) 0 (turn_count n p)
    (λ f from below. events_same n p f (omega arith))

-- and every use fits
pub uses_fit : (n : Nest) (p k f : ℕ) (plans : List ChannelPlan) (incoming : List Incoming)
    (sources : List (List (Option Tag)))
    → SizeIsOk n → plans ≡ plans_of n → incoming ≡ incoming_from 0 0 plans p
    → UseFits plans (use_at incoming k (slice_index_or sources k []) f)
uses_fit n p k f plans incoming sources ok e_plans e_incoming =
    let list : List (Option Tag) = slice_index_or sources k [] in
    let all : incoming ≡ incoming_from 0 0 (plans_of n) p = e_incoming ∙ ap (λ ps. incoming_from 0 0 ps p) e_plans in
    subst (λ ps. UseFits ps (use_at incoming k list f)) (sym e_plans)
    (subst (λ i. UseFits (plans_of n) (use_at i k list f)) (sym all) (used_fits n p k f list (slice_get list f) ok))

-- The sources of a process's reads

read_mapped : (P : List (Option Tag) → Type 0) (g : ℕ → List (Option Tag)) (xs : List ℕ) (k : ℕ) → P []
    → ((x : ℕ) → P (g x)) → P (get_or (map g xs) k [])
read_mapped P g [] k none all = none
read_mapped P g (x ∷ xs) zero none all = all x
read_mapped P g (x ∷ xs) (suc k) none all = read_mapped P g xs k none all

pub few_fires : (n : Nest) (p fires : ℕ) → SizeIsOk n → fires ≡ turn_count n p → fires < 2 ^ 32
few_fires n p fires ok e = omega (arith, few_turns n p, few_entries n ok)

-- each read has a source for each fire
pub sources_there : (n : Nest) (p k fires : ℕ) (sources : List (List (Option Tag)))
    → sources ≡ sources_of_process n p → fires ≡ turn_count n p → k < length sources
    → fires ≤ length (get_or sources k [])
sources_there n p k fires sources e e_fires there =
    let within : k < read_count n p =
    omega (arith, ap length e, length-map-range_with_len (sources_at n p) 0 (read_count n p)) in
    let read : get_or sources k [] ≡ sources_at n p k =
    ap (λ ls. get_or ls k []) e
    ∙ get_or-map-range_with_len (sources_at n p) 0 (read_count n p) k k [] within (omega arith) in
    omega (arith, ap length read, length-sources n p k)

pub sources_exist : (n : Nest) (p k f : ℕ) (sources : List (List (Option Tag))) → sources ≡ sources_of_process n p
    → OnlyBelow (length n.statements) (get_or (get_or sources k []) f None)
sources_exist n p k f sources e =
    subst (λ ls. OnlyBelow (length n.statements) (get_or (get_or ls k []) f None)) (sym e)
    (read_mapped (λ list. OnlyBelow (length n.statements) (get_or list f None)) (sources_at n p)
    (range_with_len 0 (read_count n p)) k tt (λ j. processes_below n p j f))

pub few_sources_read : (n : Nest) (p : ℕ) (sources : List (List (Option Tag))) → sources ≡ sources_of_process n p
    → length sources ≤ 8
few_sources_read n p sources e =
    omega (arith, ap length e, length-map-range_with_len (sources_at n p) 0 (read_count n p), few_read_count n p)
