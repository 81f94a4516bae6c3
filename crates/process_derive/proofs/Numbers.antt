-- The network's numbers are below 2 ^ 32: its processes, its channels and its events.
--
-- Events are bounded by the length L of the trace. A point has one Fire. The Gets of one read, over all its writers,
-- are at most its uses, so at most the points of its process, counted fire by fire (`read_gets`). The Puts of a channel
-- are its tokens, and each token has a use (`Puts.antt`). A process has at most eight reads, so all Gets and all Puts
-- are at most 8 L each, and all events at most 17 L.
use Rattle.std.proofs.Common.{◌≡◌, ◌≢◌, ◌<◌, ◌≤◌, ◌+◌, ◌-◌, ◌*◌, ℕ, zero, suc, eqb, List, [], ◌∷◌, map, length, take}
use Rattle.std.proofs.Common.{get_or, refl, sym, ap, ◌∙◌, subst, inl, inr, arith, eqb-true, length-append}
use Rattle.std.specs.Prelude.{Option, Some, None, slice_get, slice_index}
use Rattle.std.specs.List.{cons_option, flat_map, range_with_len, sum_by}
use Rattle.std.specs.Option.{option_and_then, option_map, option_map_or}
use Rattle.std.proofs.lemmas.Bool.{cases_Bool}
use Rattle.std.proofs.lemmas.List.{length-map}
use Rattle.std.proofs.lemmas.List.Concat.{length-flat_map}
use Rattle.std.proofs.lemmas.List.FromFn.{get_or-map-range_with_len, length-range_with_len, length-map-range_with_len}
use Rattle.std.proofs.lemmas.Option.{slice_get-get_or}
use Rattle.std.proofs.lemmas.List.Sums.{sum_by-le-sum_by}
use Rattle.sanlp.specs.Access.{read_count}
use Rattle.sanlp.specs.declared.nest.Nest.{Nest}
use Rattle.sanlp.specs.declared.nest.Tag.{Tag}
use Rattle.sanlp.specs.Trace.{trace}
use Rattle.sanlp.proofs.Each.{Each}
use Rattle.sanlp.proofs.Lists.{slice_get-map-range_with_len}
use Rattle.sanlp.proofs.NestFacts.{few_statements, few_read_count}
use Rattle.sanlp.specs.Size.{SizeIsOk}
use Rattle.reorder_slots.specs.declared.slots.SlotPlan.{SlotPlan}
use Rattle.reorder_slots.specs.Slots.{gets_for}
use Rattle.channel_plan.specs.declared.plans.ChannelPlan.{ChannelPlan}
use Rattle.channel_plan.specs.Plans.{plans_of, slot_plan, sources_at, turn_count}
use Rattle.channel_plan.specs.Tokens.{tokens_below, turn_of, turns_used, uses_of}
use Rattle.channel_plan.proofs.OneSlot.{turn_of-own, turn_of-foreign}
use Rattle.net_core.specs.declared.network.Event.TheVariants.{Get, Fire}
use Rattle.net_core.specs.declared.network.Process.{Process}
use Rattle.net_core.specs.Machine.{net_of}
use Rattle.net_core.specs.Shape.{FitsNumbers, events_below}
use Rattle.process_derive.specs.Derived.{channel_of, net, process_of}
use Rattle.process_derive.specs.Few.{HasFewEvents}
use Rattle.process_derive.specs.Scripts.{Usage, channel_from, gets_for_uses, gets_of, point_events, puts_from, ref_of}
use Rattle.process_derive.specs.Scripts.{script, slot_base, usage, usage_from}
use Rattle.process_derive.specs.Uses.{OnlyBelow, uses_before}
use Rattle.process_derive.proofs.Bounds.{few_entries, few_plans}
use Rattle.process_derive.proofs.Counts.{before_more}
use Rattle.process_derive.proofs.Puts.{all_puts, point_puts, process_puts}
use Rattle.process_derive.proofs.Shares.{all_turns, uses_within, used, uses_shared}
use Rattle.process_derive.proofs.EachPlan.{each_plan}
use Rattle.process_derive.proofs.Slots.{each_take, few_gets}
use Rattle.process_derive.proofs.Sums.{sum_added, sum_map, sum_push, sum_raised, sum_turned, sum_within}
use Rattle.process_derive.proofs.Tags.{length-sources, processes_below}

-- The Gets of a channel before its uses

abbrev pub gets_by : List ℕ → ℕ → ℕ
gets_by uses q = gets_for_uses (slot_plan uses) q

pub gets_here : (uses : List ℕ) (q : ℕ) → q < length uses → gets_by uses (suc q) ≡ gets_for (take (q + 1) uses)
gets_here uses q lt =
    get_or-map-range_with_len (λ q. gets_for (take (q + 1) uses)) 0 (length uses) q q 0 lt (omega arith)

gets_grow : (uses : List ℕ) (q : ℕ) → gets_for (take q uses) ≤ gets_for (take (suc q) uses)
gets_grow uses zero = omega arith
gets_grow [] (suc q) = omega arith
gets_grow (token ∷ uses) (suc q) = omega (arith, gets_grow uses q)

gets_rise : (uses : List ℕ) (q : ℕ) → q < length uses → gets_by uses q ≤ gets_by uses (suc q)
gets_rise uses zero lt = omega arith
gets_rise uses (suc q) lt =
    let next : suc q ≡ q + 1 = omega arith in
    omega (
      arith,
      gets_here uses q (omega arith),
      gets_here uses (suc q) lt,
      gets_grow uses (suc q),
      ap (λ k. gets_for (take k uses)) next,
      (let later : suc (suc q) ≡ suc q + 1 = omega arith in ap (λ k. gets_for (take k uses)) later),
    )

read_few : (f : ℕ → ℕ) (limit : ℕ) → ((q : ℕ) → f q ≤ limit) → (a m q : ℕ)
    → get_or (map f (range_with_len a m)) q 0 ≤ limit
read_few f limit all a zero q = omega arith
read_few f limit all a (suc m) zero = all a
read_few f limit all a (suc m) (suc q) = read_few f limit all (a + 1) m q

gets_few : (uses : List ℕ) (limit q : ℕ) → Each (λ token. token < limit) uses → gets_by uses q ≤ limit
gets_few uses limit zero h = omega arith
gets_few uses limit (suc q) h =
    read_few (λ q. gets_for (take (q + 1) uses)) limit
    (λ q. few_gets (take (q + 1) uses) limit (each_take limit (q + 1) uses h)) 0 (length uses) q

-- The channel that is found has the slots of its uses

abbrev pub IsPlanned : Nest → ChannelPlan → Type 0
IsPlanned n plan = plan.slots ≡ slot_plan (uses_of (used n plan.reader plan.read plan.writer))

pub all_planned : (n : Nest) → Each (IsPlanned n) (plans_of n)
all_planned n = each_plan n (IsPlanned n) (λ p k w process read writer from. refl)

abbrev pub HasSlots : Nest → ℕ → ℕ → ℕ → Option (ℕ × ChannelPlan) → Type 0
HasSlots n p k w None = Unit {0}
HasSlots n p k w (Some found) = found.1.slots ≡ slot_plan (uses_of (used n p k w))

pub found_slots : (n : Nest) (p k w c : ℕ) (plans : List ChannelPlan) → Each (IsPlanned n) plans
    → HasSlots n p k w (channel_from c plans w p k)
found_slots n p k w c [] h = tt
found_slots n p k w c (plan ∷ plans) h =
    elim (cases_Bool (eqb plan.writer w)) [
      | inl from ↦ elim (cases_Bool (eqb plan.reader p)) [
        | inl own ↦ elim (cases_Bool (eqb plan.read k)) [
          | inl to ↦
              let same : plan.slots ≡ slot_plan (uses_of (used n p k w)) =
              h.0 ∙ ap (λ v. slot_plan (uses_of (used n plan.reader plan.read v))) (eqb-true plan.writer w from)
              ∙ ap (λ r. slot_plan (uses_of (used n r plan.read w))) (eqb-true plan.reader p own)
              ∙ ap (λ j. slot_plan (uses_of (used n p j w))) (eqb-true plan.read k to) in
              rw (from, own, to) same
          | inr to ↦ rw (from, own, to) (found_slots n p k w (suc c) plans h.1)
        ]
        | inr own ↦ rw (from, own) (found_slots n p k w (suc c) plans h.1)
      ]
      | inr from ↦ rw from (found_slots n p k w (suc c) plans h.1)
    ]

-- The Gets of one use

gets_of_one : (n : Nest) (p k w q : ℕ) (plans : List ChannelPlan) (r : Option (ℕ × ChannelPlan)) → HasSlots n p k w r
    → length (gets_of
    (option_map (λ (found : ℕ × ChannelPlan).
    record { channel = found.0; base = slot_base plans p found.0; slots = found.1.slots; number = q }) r))
    ≤ gets_by (uses_of (used n p k w)) (suc q) - gets_by (uses_of (used n p k w)) q
gets_of_one n p k w q plans None h = omega arith
gets_of_one n p k w q plans (Some found) h =
    let slots : SlotPlan = found.1.slots in
    let made : length
    (map (λ m. Get found.0 (slot_base plans p found.0 + slice_index slots.slot_of_get m))
    (range_with_len (gets_for_uses slots q) (gets_for_uses slots (suc q) - gets_for_uses slots q)))
    ≡ gets_for_uses slots (suc q) - gets_for_uses slots q =
    length-map-range_with_len (λ m. Get found.0 (slot_base plans p found.0 + slice_index slots.slot_of_get m))
    (gets_for_uses slots q) (gets_for_uses slots (suc q) - gets_for_uses slots q) in
    omega (arith, made, ap (λ s. gets_for_uses s q) h, ap (λ s. gets_for_uses s (suc q)) h)

-- the Gets for read k that stand before fire f, over all writers
abbrev pub gets_until : Nest → ℕ → ℕ → ℕ → ℕ
gets_until n p k f =
    sum_by (λ w. gets_by (uses_of (used n p k w)) (uses_before (sources_at n p k) f w))
    (range_with_len 0 (length n.statements))

kept_more : (o : Option ℕ) (xs ys : List ℕ) → length xs ≤ length ys
    → length (cons_option o xs) ≤ length (cons_option o ys)
kept_more None xs ys h = h
kept_more (Some x) xs ys h = omega (arith, h)

pub before_within : (sources : List (Option Tag)) (f w : ℕ) → uses_before sources f w ≤ length (turns_used w sources)
before_within sources zero w = omega arith
before_within [] (suc f) w = omega arith
before_within (source ∷ sources) (suc f) w =
    kept_more (turn_of w source) (turns_used w (take f sources)) (turns_used w sources) (before_within sources f w)

fire_gets : (n : Nest) (p k f : ℕ) (source : Option Tag) → slice_get (sources_at n p k) f ≡ Some source
    → OnlyBelow (length n.statements) source
    → gets_until n p k f + length (gets_of (usage n p f k)) ≤ gets_until n p k (suc f)
fire_gets n p k f None e below =
    let sources : List (Option Tag) = sources_at n p k in
    let none : length (gets_of (usage n p f k)) ≡ 0 =
    ap (λ o. length
    (gets_of (option_and_then
    (λ source. option_and_then (λ (t : Tag). usage_from (plans_of n) sources p k f t.process) source) o))) e in
    let next : f + 1 ≡ suc f = omega arith in
    let same : gets_until n p k f ≤ gets_until n p k (suc f) =
    sum_by-le-sum_by (λ w. gets_by (uses_of (used n p k w)) (uses_before sources f w)) (λ w. gets_by (uses_of (used n p k w)) (uses_before sources (suc f) w)) (range_with_len 0 (length n.statements)) (λ w. (let q : uses_before sources f w
    ≡ uses_before sources (suc f) w = omega
    (arith, before_more sources f w None e, ap (λ j. uses_before sources j w) next) in
    omega (arith, ap (gets_by (uses_of (used n p k w))) q))) in
    omega (arith, none, same)
fire_gets n p k f (Some t) e below =
    let sources : List (Option Tag) = sources_at n p k in
    let v : ℕ = t.process in
    let q : ℕ = uses_before sources f v in
    let uses : ℕ → List ℕ = λ w. uses_of (used n p k w) in
    let next : f + 1 ≡ suc f = omega arith in
    let here : uses_before sources (suc f) v ≡ suc q =
    sym (ap (λ j. uses_before sources j v) next) ∙ before_more sources f v (Some t) e
    ∙ ap (λ xs. q + length xs) (turn_of-own v t refl) ∙ omega arith in
    let others : (w : ℕ) → w ≢ v → uses_before sources f w ≡ uses_before sources (suc f) w = λ w ne.
    sym (sym (ap (λ j. uses_before sources j w) next) ∙ before_more sources f w (Some t) e
    ∙ ap (λ xs. uses_before sources f w + length xs) (turn_of-foreign w t (λ same. ne (sym same))) ∙ omega arith) in
    let found : length (gets_of (usage n p f k)) ≤ gets_by (uses v) (suc q) - gets_by (uses v) q =
    subst (λ o. length
    (gets_of (option_and_then
    (λ source. option_and_then
    (λ (t : Tag). usage_from (plans_of n) sources p k f t.process) source) o)) ≤ gets_by (uses v)
    (suc q) - gets_by (uses v) q) (sym e)
    (gets_of_one n p k v q (plans_of n) (channel_from 0 (plans_of n) v p k)
    (found_slots n p k v 0 (plans_of n) (all_planned n))) in
    let within : q < length (uses v) =
    omega (arith, here, before_within sources (suc f) v, length-map (used n p k v) (tokens_below (used n p k v))) in
    sum_raised (λ w. gets_by (uses w) (uses_before sources f w))
    (λ w. gets_by (uses w) (uses_before sources (suc f) w)) v (length (gets_of (usage n p f k)))
    (omega (arith, found, gets_rise (uses v) q within, ap (gets_by (uses v)) here))
    (λ w ne. ap (gets_by (uses w)) (others w ne)) 0 (length n.statements) (omega arith) (omega (arith, below))

read_gets : (n : Nest) (p k f : ℕ) → f ≤ turn_count n p
    → sum_by (λ g. length (gets_of (usage n p g k))) (range_with_len 0 f) ≤ gets_until n p k f
read_gets n p k zero le = omega arith
read_gets n p k (suc f) le =
    let sources : List (Option Tag) = sources_at n p k in
    let here = slice_get-get_or sources f None (omega (arith, length-sources n p k)) in
    omega (
      arith,
      sum_push (λ g. length (gets_of (usage n p g k))) f,
      read_gets n p k f (omega arith),
      fire_gets n p k f (get_or sources f None) here (processes_below n p k f),
    )

pub until_few : (n : Nest) (p k f : ℕ) → gets_until n p k f ≤ turn_count n p
until_few n p k f =
    let before : ℕ → ℕ = λ w. uses_before (sources_at n p k) f w in
    omega (
      arith,
      uses_shared n p k (length n.statements),
      sum_by-le-sum_by (λ w. gets_by (uses_of (used n p k w)) (before w)) (λ w. length (used n p k w)) (range_with_len 0 (length n.statements)) (λ w. gets_few (uses_of (used n p k w)) (length (used n p k w)) (before w) (uses_within (used n p k w))),
    )

-- The events of one process

abbrev pub point_gets : Nest → ℕ → ℕ → ℕ
point_gets n p f = sum_by (λ k. length (gets_of (usage n p f k))) (range_with_len 0 (read_count n p))

point_few : (n : Nest) (p f : ℕ) → length (point_events n p f) ≤ point_gets n p f + point_puts n p f + 1
point_few n p f =
    let usages : List (Option Usage) = map (usage n p f) (range_with_len 0 (read_count n p)) in
    omega (
      arith,
      length-append (flat_map gets_of usages) (Fire (map ref_of usages) ∷ puts_from 0 (plans_of n) p f),
      length-flat_map gets_of usages,
      sum_map (λ u. length (gets_of u)) (usage n p f) (range_with_len 0 (read_count n p)),
    )

process_gets : (n : Nest) (p : ℕ) → sum_by (point_gets n p) (range_with_len 0 (turn_count n p)) ≤ 8 * turn_count n p
process_gets n p =
    let turns : ℕ = turn_count n p in
    let fires : List ℕ = range_with_len 0 turns in
    let reads : List ℕ = range_with_len 0 (read_count n p) in
    subst (λ k. k ≤ 8 * turns) (sym (sum_turned (λ f k. length (gets_of (usage n p f k))) fires reads))
    (sum_within (λ k. sum_by (λ f. length (gets_of (usage n p f k))) fires) turns 8 reads
    (λ k. omega (arith, read_gets n p k turns (omega arith), until_few n p k turns))
    (omega (arith, length-range_with_len 0 (read_count n p), few_read_count n p)))

script_few : (n : Nest) (p : ℕ) → length (script n p) ≤ 9 * turn_count n p + process_puts n p
script_few n p =
    let fires : List ℕ = range_with_len 0 (turn_count n p) in
    omega (
      arith,
      length-flat_map (point_events n p) fires,
      sum_by-le-sum_by (λ f. length (point_events n p f)) (λ f. point_gets n p f + point_puts n p f + 1) fires (point_few n p),
      sum_added (λ f. point_gets n p f + point_puts n p f) (λ f. 1) fires,
      sum_added (point_gets n p) (point_puts n p) fires,
      process_gets n p,
      sum_within (λ f. 1) 1 (turn_count n p) fires (λ f. omega arith)
          (omega (arith, length-range_with_len 0 (turn_count n p))),
    )

-- The network

pub script_at : (n : Nest) (p : ℕ) → p < length n.statements → (net_of (net n)).script p ≡ script n p
unfolding net
script_at n p lt =
    ap (λ (o : Option Process). option_map_or (λ process. process.script) o [])
    (slice_get-map-range_with_len (process_of n) 0 (length n.statements) p p lt (omega arith))

events_few : (n : Nest) (m : ℕ) → m ≤ length n.statements
    → events_below (net_of (net n)) m
    ≤ 9 * sum_by (turn_count n) (range_with_len 0 m) + sum_by (process_puts n) (range_with_len 0 m)
events_few n zero le = omega arith
events_few n (suc m) le =
    omega (
      arith,
      events_few n m (omega arith),
      ap length (script_at n m (omega arith)),
      script_few n m,
      sum_push (turn_count n) m,
      sum_push (process_puts n) m,
    )

pub count_processes : (n : Nest) → (net_of (net n)).processes ≡ length n.statements
unfolding net
count_processes n = length-map-range_with_len (process_of n) 0 (length n.statements)

pub count_channels : (n : Nest) → (net_of (net n)).channels ≡ length (plans_of n)
unfolding net
count_channels n = length-map (plans_of n) channel_of

pub has_few_events : (n : Nest) → HasFewEvents n
has_few_events n =
    omega (
      arith,
      ap (events_below (net_of (net n))) (count_processes n),
      events_few n (length n.statements) (omega arith),
      all_turns n (length n.statements),
      all_puts n (length n.statements),
    )

pub numbers_fit : (n : Nest) → SizeIsOk n → FitsNumbers (net_of (net n))
numbers_fit n ok =
    let events : events_below (net_of (net n)) (net_of (net n)).processes ≤ 17 * length (trace n) = has_few_events n in
    record {
      processes = omega (arith, count_processes n, few_statements n);
      channels = omega (arith, count_channels n, few_plans n);
      events = omega (arith, events, few_entries n ok);
    }
