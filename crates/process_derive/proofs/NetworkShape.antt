-- The network of a nest has the shape of the nest's points and reads.
--
-- One point has one Fire, so there are as many fires as points. That no process has more slots than Gets is the longer
-- part: a channel's hold is no more than the Gets that all its uses want (`Holds.antt`), and all of these are made,
-- which is counted fire by fire (`read_makes`): a fire adds to one writer's channel what its use wants, and nothing to
-- the others. The sums over fires and over reads are then exchanged. The channel of each source exists (`plan_there`),
-- else a use would make no Get.
use Rattle.std.proofs.Common.{◌≡◌, ◌≢◌, ◌<◌, ◌≤◌, ◌+◌, ◌-◌, ◌*◌, ℕ, zero, suc, Bool, true, false, cond, eqb, List, []}
use Rattle.std.proofs.Common.{◌∷◌, map, length, get_or, refl, sym, ap, ◌∙◌, subst, inl, inr, arith}
use Rattle.std.specs.Prelude.{Option, Some, None, slice_get, slice_index, slice_index_or, count_by}
use Rattle.std.specs.List.{flat_map, sum_by, range_with_len}
use Rattle.std.specs.Option.{option_and_then, option_map, option_map_or}
use Rattle.std.proofs.lemmas.Bool.{cases_Bool, cases_lt, eq-eqb}
use Rattle.std.proofs.lemmas.List.{get_or_past, length-map}
use Rattle.std.proofs.lemmas.List.Concat.{length-flat_map}
use Rattle.std.proofs.lemmas.List.Sums.{sum_by-append, sum_by-cons, sum_by-le-sum_by}
use Rattle.std.proofs.lemmas.List.FromFn.{length-range_with_len, length-map-range_with_len, get_or-map-range_with_len}
use Rattle.std.proofs.lemmas.Option.{same_Some, slice_get-get_or, slice_get_past, slice_get_within}
use Rattle.std.proofs.lemmas.Map.Keys.{any_passes_from_place}
use Rattle.sanlp.specs.Access.{read_count}
use Rattle.sanlp.specs.declared.nest.Nest.{Nest}
use Rattle.sanlp.specs.declared.nest.Tag.{Tag}
use Rattle.sanlp.specs.Points.{points_of, vectors_of}
use Rattle.sanlp.specs.Trace.{trace}
use Rattle.sanlp.proofs.Each.{Each, each_flat_map, each_map, each_of}
use Rattle.sanlp.proofs.Members.{In, at_in, each_in}
use Rattle.sanlp.proofs.NestFacts.{points_length}
use Rattle.reorder_slots.specs.declared.slots.SlotPlan.{SlotPlan}
use Rattle.channel_plan.specs.declared.plans.ChannelPlan.{ChannelPlan}
use Rattle.channel_plan.specs.Plans.{plan_of, plans_of, sources_at, turn_count}
use Rattle.channel_plan.specs.Tokens.{is_from, uses_of}
use Rattle.channel_plan.proofs.OneSlot.{turn_of-own, turn_of-foreign}
use Rattle.net_core.specs.declared.network.Channel.{Channel}
use Rattle.net_core.specs.declared.network.Event.{Event}
use Rattle.net_core.specs.declared.network.Event.TheVariants.{Get, Fire, Put}
use Rattle.net_core.specs.declared.network.Process.{Process}
use Rattle.net_core.specs.declared.refs.Ref.{Ref}
use Rattle.net_core.specs.Machine.{net_of}
use Rattle.net_core.specs.Shape.{IsShaped, is_any_get, is_fire, turns}
use Rattle.net_core.specs.Sound.{FitsNest}
use Rattle.net_core.proofs.Entries.{entries_length}
use Rattle.plain_data.proofs.Lists.{slice_get-some}
use Rattle.process_derive.specs.Derived.{channel_of, net, process_of}
use Rattle.process_derive.specs.Few.{HasFewSlots}
use Rattle.process_derive.specs.Scripts.{Usage, channel_from, gets_for_uses, gets_of, goes_between, point_events}
use Rattle.process_derive.specs.Scripts.{puts_from, ref_of, script, slot_base, slots_of, usage, usage_from}
use Rattle.process_derive.specs.Uses.{OnlyBelow, uses_before}
use Rattle.process_derive.proofs.Counts.{before_more}
use Rattle.process_derive.proofs.EachPlan.{plan_there}
use Rattle.process_derive.proofs.Holds.{few_slots, process_holds}
use Rattle.process_derive.proofs.Numbers.{HasSlots, all_planned, count_processes, found_slots, gets_by, gets_until}
use Rattle.process_derive.proofs.Numbers.{point_gets, script_at}
use Rattle.process_derive.proofs.Shares.{all_turns, used}
use Rattle.process_derive.proofs.Sums.{sum_counted, sum_joined, sum_map, sum_one, sum_push, sum_risen}
use Rattle.process_derive.proofs.Sums.{sum_same, sum_scaled, sum_turned}
use Rattle.process_derive.proofs.Tags.{length-sources, processes_below}
use Rattle.process_derive.proofs.ScriptNames.{IsChannelOf, IsGet, all_channels, all_gets, channel_at, event_is, is_wired}
use Rattle.process_derive.proofs.ScriptNames.{script_past, slots_there}

-- Fires and points

count_cons : (test : Event → Bool) (e : Event) (es : List Event)
    → count_by test (e ∷ es) ≡ cond (test e) 1 0 + count_by test es
count_cons test e es = sum_by-cons (λ e. cond (test e) 1 0) e es

no_fires : (gets : List Event) → Each IsGet gets → count_by is_fire gets ≡ 0
no_fires [] h = refl
no_fires (Get c slot ∷ gets) h = omega (arith, count_cons is_fire (Get c slot) gets, no_fires gets h.1)
no_fires (Fire refs ∷ gets) h = absurd h.0
no_fires (Put c ∷ gets) h = absurd h.0

all_count : (gets : List Event) → Each IsGet gets → count_by is_any_get gets ≡ length gets
all_count [] h = refl
all_count (Get c slot ∷ gets) h = omega (arith, count_cons is_any_get (Get c slot) gets, all_count gets h.1)
all_count (Fire refs ∷ gets) h = absurd h.0
all_count (Put c ∷ gets) h = absurd h.0

no_fire_put : (c : ℕ) (plans : List ChannelPlan) (p f : ℕ) → count_by is_fire (puts_from c plans p f) ≡ 0
no_fire_put c [] p f = refl
no_fire_put c (plan ∷ plans) p f =
    elim (cases_Bool (eqb plan.writer p)) [
      | inl own ↦ elim (cases_Bool (slice_index_or plan.is_token f false)) [
        | inl token ↦ rw (own, token)
            (count_cons is_fire (Put c) (puts_from (suc c) plans p f) ∙ omega (arith, no_fire_put (suc c) plans p f))
        | inr token ↦ rw (own, token) (no_fire_put (suc c) plans p f)
      ]
      | inr own ↦ rw own (no_fire_put (suc c) plans p f)
    ]

pub point_has_gets : (n : Nest) (p f : ℕ)
    → Each IsGet (flat_map gets_of (map (usage n p f) (range_with_len 0 (read_count n p))))
point_has_gets n p f =
    let reads : List ℕ = range_with_len 0 (read_count n p) in
    each_flat_map IsGet gets_of (map (usage n p f) reads)
    (each_map (λ u. Each IsGet (gets_of u)) (usage n p f) reads
    (each_of (λ k. Each IsGet (gets_of (usage n p f k))) reads (λ k. all_gets (usage n p f k))))

point_fires : (n : Nest) (p f : ℕ) → count_by is_fire (point_events n p f) ≡ 1
point_fires n p f =
    let gets : List Event = flat_map gets_of (map (usage n p f) (range_with_len 0 (read_count n p))) in
    let refs : List Ref = map ref_of (map (usage n p f) (range_with_len 0 (read_count n p))) in
    let puts : List Event = puts_from 0 (plans_of n) p f in
    omega (
      arith,
      sum_by-append (λ e. cond (is_fire e) 1 0) gets (Fire refs ∷ puts),
      no_fires gets (point_has_gets n p f),
      count_cons is_fire (Fire refs) puts,
      no_fire_put 0 (plans_of n) p f,
    )

sum_ones : {X : Type 0} (xs : List X) → sum_by (λ x. 1) xs ≡ length xs
sum_ones [] = refl
sum_ones (x ∷ xs) = omega (arith, sum_by-cons (λ y. 1) x xs, sum_ones xs)

script_fires : (n : Nest) (p : ℕ) → count_by is_fire (script n p) ≡ turn_count n p
script_fires n p =
    let fires : List ℕ = range_with_len 0 (turn_count n p) in
    sum_joined (λ e. cond (is_fire e) 1 0) (point_events n p) fires
    ∙ sum_same (λ f. count_by is_fire (point_events n p f)) (λ f. 1) fires (point_fires n p)
    ∙ sum_ones fires ∙ length-range_with_len 0 (turn_count n p)

turns_are : (n : Nest) (p : ℕ) → p < length n.statements → turns (points_of n) p ≡ turn_count n p
unfolding points_of
turns_are n p lt =
    ap length (get_or-map-range_with_len (vectors_of (trace n)) 0 (length n.statements) p p [] lt (omega arith))
    ∙ sym (entries_length 0 (trace n) p)

fires_are : (n : Nest) (p : ℕ) → count_by is_fire ((net_of (net n)).script p) ≡ turns (points_of n) p
fires_are n p =
    elim (cases_lt p (length n.statements)) [
      | inl lt ↦ ap (count_by is_fire) (script_at n p lt) ∙ script_fires n p ∙ sym (turns_are n p lt)
      | inr le ↦ ap (count_by is_fire) (script_past n p le)
          ∙ sym (ap length (get_or_past (points_of n) p [] (omega (arith, points_length n))))
    ]

-- The channel of a source is there

not_first : (c : ℕ) (first : ChannelPlan) (plans : List ChannelPlan) (w p k : ℕ) → goes_between w p k first ≡ true
    → channel_from c (first ∷ plans) w p k ≡ None → ⊥
not_first c first plans w p k here e =
    let found : channel_from c (first ∷ plans) w p k ≡ Some (c, first) =
    ap (λ b. cond b (Some (c, first)) (channel_from (suc c) plans w p k)) here in
    cc

not_none : (c : ℕ) (plans : List ChannelPlan) (w p k : ℕ) (plan : ChannelPlan) → In plan plans
    → goes_between w p k plan ≡ true → channel_from c plans w p k ≡ None → ⊥
not_none c [] w p k plan h goes e = h
not_none c (first ∷ plans) w p k plan h goes e =
    elim h [
      | inl is ↦ not_first c first plans w p k (ap (goes_between w p k) is ∙ goes) e
      | inr later ↦ elim (cases_Bool (goes_between w p k first)) [
        | inl here ↦ not_first c first plans w p k here e
        | inr there ↦
            (let next : channel_from c (first ∷ plans) w p k
            ≡ channel_from (suc c) plans w p k = ap
            (λ b. cond b (Some (c, first)) (channel_from (suc c) plans w p k)) there in
            not_none (suc c) plans w p k plan later goes (sym next ∙ e))
      ]
    ]

goes_own : (n : Nest) (p k w : ℕ) → goes_between w p k (plan_of n p k w) ≡ true
goes_own n p k w = rw (eq-eqb w w refl, eq-eqb p p refl, eq-eqb k k refl) refl

-- All Gets of a channel are made

gets_made : (n : Nest) (p k w q : ℕ) (o : Option (ℕ × ChannelPlan)) → channel_from 0 (plans_of n) w p k ≡ o
    → (o ≡ None → ⊥) → HasSlots n p k w o
    → length (gets_of
    (option_map (λ (found : ℕ × ChannelPlan).
    record { channel = found.0; base = slot_base (plans_of n) p found.0; slots = found.1.slots; number = q }) o))
    ≡ gets_by (uses_of (used n p k w)) (suc q) - gets_by (uses_of (used n p k w)) q
gets_made n p k w q None e some h = absurd (some refl)
gets_made n p k w q (Some found) e some h =
    let slots : SlotPlan = found.1.slots in
    let made : length
    (map (λ m. Get found.0 (slot_base (plans_of n) p found.0 + slice_index slots.slot_of_get m))
    (range_with_len (gets_for_uses slots q) (gets_for_uses slots (suc q) - gets_for_uses slots q)))
    ≡ gets_for_uses slots (suc q) - gets_for_uses slots q =
    length-map-range_with_len (λ m. Get found.0 (slot_base (plans_of n) p found.0 + slice_index slots.slot_of_get m))
    (gets_for_uses slots q) (gets_for_uses slots (suc q) - gets_for_uses slots q) in
    omega (arith, made, ap (λ s. gets_for_uses s q) h, ap (λ s. gets_for_uses s (suc q)) h)

fire_makes : (n : Nest) (p k f : ℕ) (source : Option Tag) → p < length n.statements → k < read_count n p
    → slice_get (sources_at n p k) f ≡ Some source → OnlyBelow (length n.statements) source
    → gets_until n p k (suc f) ≤ gets_until n p k f + length (gets_of (usage n p f k))
fire_makes n p k f None process read e below =
    let sources : List (Option Tag) = sources_at n p k in
    let next : f + 1 ≡ suc f = omega arith in
    let same : gets_until n p k (suc f) ≤ gets_until n p k f =
    sum_by-le-sum_by (λ w. gets_by (uses_of (used n p k w)) (uses_before sources (suc f) w)) (λ w. gets_by (uses_of (used n p k w)) (uses_before sources f w)) (range_with_len 0 (length n.statements)) (λ w. (let q : uses_before sources (suc f) w
    ≡ uses_before sources f w = sym (ap (λ j. uses_before sources j w) next) ∙ before_more sources f w None e
    ∙ omega arith in
    omega (arith, ap (gets_by (uses_of (used n p k w))) q))) in
    omega (arith, same)
fire_makes n p k f (Some t) process read e below =
    let sources : List (Option Tag) = sources_at n p k in
    let v : ℕ = t.process in
    let q : ℕ = uses_before sources f v in
    let uses : ℕ → List ℕ = λ w. uses_of (used n p k w) in
    let next : f + 1 ≡ suc f = omega arith in
    let here : uses_before sources (suc f) v ≡ suc q =
    sym (ap (λ j. uses_before sources j v) next) ∙ before_more sources f v (Some t) e
    ∙ ap (λ xs. q + length xs) (turn_of-own v t refl) ∙ omega arith in
    let others : (w : ℕ) → w ≢ v → uses_before sources (suc f) w ≡ uses_before sources f w = λ w ne.
    sym (ap (λ j. uses_before sources j w) next) ∙ before_more sources f w (Some t) e
    ∙ ap (λ xs. uses_before sources f w + length xs) (turn_of-foreign w t (λ same. ne (sym same))) ∙ omega arith in
    let some : channel_from 0 (plans_of n) v p k ≡ None → ⊥ =
    λ none. not_none 0 (plans_of n) v p k (plan_of n p k v) (plan_there n p k v process read below
    (any_passes_from_place (is_from v) (sources_at n p k) f (Some t) e (eq-eqb v v refl)))
    (goes_own n p k v) none in
    let found : length (gets_of (usage n p f k)) ≡ gets_by (uses v) (suc q) - gets_by (uses v) q =
    subst (λ o. length
    (gets_of (option_and_then
    (λ source. option_and_then (λ (t : Tag). usage_from (plans_of n) sources p k f t.process) source) o))
    ≡ gets_by (uses v) (suc q) - gets_by (uses v) q) (sym e)
    (gets_made n p k v q (channel_from 0 (plans_of n) v p k) refl some
    (found_slots n p k v 0 (plans_of n) (all_planned n))) in
    sum_risen (λ w. gets_by (uses w) (uses_before sources f w))
    (λ w. gets_by (uses w) (uses_before sources (suc f) w)) v (length (gets_of (usage n p f k)))
    (omega (arith, found, ap (gets_by (uses v)) here))
    (λ w ne. ap (gets_by (uses w)) (others w ne)) 0 (length n.statements)

read_makes : (n : Nest) (p k f : ℕ) → p < length n.statements → k < read_count n p → f ≤ turn_count n p
    → gets_until n p k f ≤ sum_by (λ g. length (gets_of (usage n p g k))) (range_with_len 0 f)
read_makes n p k zero process read le = sum_one (λ w. 0) 0 0 0 (length n.statements) (λ q e. refl) (omega arith)
read_makes n p k (suc f) process read le =
    let sources : List (Option Tag) = sources_at n p k in
    let here = slice_get-get_or sources f None (omega (arith, length-sources n p k)) in
    omega (
      arith,
      sum_push (λ g. length (gets_of (usage n p g k))) f,
      read_makes n p k f process read (omega arith),
      fire_makes n p k f (get_or sources f None) process read here (processes_below n p k f),
    )

point_counts : (n : Nest) (p f : ℕ) → point_gets n p f ≤ count_by is_any_get (point_events n p f)
point_counts n p f =
    let reads : List ℕ = range_with_len 0 (read_count n p) in
    let usages : List (Option Usage) = map (usage n p f) reads in
    let gets : List Event = flat_map gets_of usages in
    omega (
      arith,
      sum_by-append (λ e. cond (is_any_get e) 1 0) gets (Fire (map ref_of usages) ∷ puts_from 0 (plans_of n) p f),
      all_count gets (point_has_gets n p f),
      length-flat_map gets_of usages,
      sum_map (λ u. length (gets_of u)) (usage n p f) reads,
    )

-- no process has more slots than Gets
script_holds : (n : Nest) (p : ℕ) → p < length n.statements → slots_of (plans_of n) p ≤ count_by is_any_get (script n p)
script_holds n p lt =
    let fires : List ℕ = range_with_len 0 (turn_count n p) in
    let reads : List ℕ = range_with_len 0 (read_count n p) in
    omega (
      arith,
      process_holds n p,
      sum_counted (λ k. gets_until n p k (turn_count n p)) (λ k. sum_by (λ f. length (gets_of (usage n p f k))) fires) 0
          (read_count n p) (λ k from below. read_makes n p k (turn_count n p) lt (omega arith) (omega arith)),
      sum_turned (λ f k. length (gets_of (usage n p f k))) fires reads,
      sum_by-le-sum_by (point_gets n p) (λ f. count_by is_any_get (point_events n p f)) fires (point_counts n p),
      sum_joined (λ e. cond (is_any_get e) 1 0) (point_events n p) fires,
    )

slots_past : (n : Nest) (p : ℕ) → length n.statements ≤ p → (net_of (net n)).slots p ≡ 0
unfolding net
slots_past n p le =
    ap (λ (o : Option Process). option_map_or (λ process. process.slots) o 0)
    (slice_get_past (map (process_of n) (range_with_len 0 (length n.statements))) p
    (omega (arith, length-map-range_with_len (process_of n) 0 (length n.statements))))

slots_few : (n : Nest) (p : ℕ) → (net_of (net n)).slots p ≤ count_by is_any_get ((net_of (net n)).script p)
slots_few n p =
    elim (cases_lt p (length n.statements)) [
      | inl lt ↦ omega (arith, slots_there n p lt, script_holds n p lt, ap (count_by is_any_get) (script_at n p lt))
      | inr le ↦ omega (arith, slots_past n p le)
    ]

all_slots : (n : Nest) → sum_by (λ process. process.slots) (net n).processes ≤ 8 * length (trace n)
unfolding net
all_slots n =
    let processes : List ℕ = range_with_len 0 (length n.statements) in
    omega (
      arith,
      sum_map (λ (process : Process). process.slots) (process_of n) processes,
      sum_scaled 8 (slots_of (plans_of n)) (turn_count n) processes (few_slots n),
      all_turns n (length n.statements),
    )

pub has_few_slots : (n : Nest) → HasFewSlots n
has_few_slots n = record { of_each = slots_few n; of_all = all_slots n }

is_shaped : (n : Nest) → IsShaped (net_of (net n)) (points_of n)
is_shaped n = record {
  processes = count_processes n ∙ sym (points_length n);
  wired = is_wired n;
  turns = fires_are n;
  few_slots = slots_few n;
}

read_there : (n : Nest) (c : ℕ) (channel : Channel) → slice_get (net n).channels c ≡ Some channel
    → c < length (plans_of n) → channel.read < read_count n channel.reader
read_there n c channel e lt =
    let item = slice_get-some (plans_of n) c lt in
    let is = each_in (IsChannelOf n) item.0 (plans_of n) (all_channels n) (at_in item.0 (plans_of n) c item.1) in
    let same : channel_of item.0 ≡ channel =
    same_Some (channel_of item.0) channel (sym (channel_at n c item.0 item.1) ∙ e) in
    subst (λ (ch : Channel). ch.read < read_count n ch.reader) same is.read

channel_count : (n : Nest) → length (net n).channels ≡ length (plans_of n)
unfolding net
channel_count n = length-map (plans_of n) channel_of

pub fits_nest : (n : Nest) → FitsNest n (net n)
fits_nest n = record {
  shaped = is_shaped n;
  references = λ p k refs e. (event_is n p k (Fire refs) e).1.1;
  reads = λ c channel e. read_there n c channel e
      (omega (arith, slice_get_within (net n).channels c channel e, channel_count n));
}
