-- The slots that the Gets of a channel name are all that the channel holds.
--
-- The text tells how many slots there are from the least to the greatest that the reader's Gets of a channel name. The
-- Gets of the script are those for all uses, and each is into a slot below the hold, counted from where the channel's
-- slots begin. None of these is left out, since each was made for some Get (`slots_span`), so that number is the hold.
-- It rests on there being a use, as else there is no Get: each channel of a nest has one, because it is there only for
-- a writer of some source of the read (`turns_used-some`). For other networks the number needn't be what a channel holds.
use Rattle.std.proofs.Common.{◌≡◌, ◌<◌, ◌≤◌, ◌+◌, ◌-◌, ℕ, true, eqb, List, [], ◌∷◌, map, length, take, refl, sym, ap}
use Rattle.std.proofs.Common.{◌∙◌, subst, inl, inr, arith}
use Rattle.std.specs.Prelude.{Option, Some, slice_get, slice_index}
use Rattle.std.specs.List.{flat_map, list_any, range_with_len}
use Rattle.std.specs.Option.{option_map_or}
use Rattle.std.proofs.lemmas.Bool.{cases_Bool}
use Rattle.std.proofs.lemmas.List.{length-map}
use Rattle.std.proofs.Math.Seq.{take-length}
use Rattle.sanlp.specs.declared.nest.Nest.{Nest}
use Rattle.sanlp.specs.declared.nest.Tag.{Tag}
use Rattle.sanlp.proofs.Each.{Each, each_map, each_of, each_range_with_len}
use Rattle.sanlp.proofs.Members.{In, at_in, each_in, in_map, in_range_with_len}
use Rattle.reorder_slots.specs.Slots.{Held, gets_for, held_after, hold_of, slots_of_gets}
use Rattle.reorder_slots.specs.Readers.{KeepsTokens}
use Rattle.reorder_slots.proofs.Gets.{KeepsTokens-held, length-held}
use Rattle.reorder_slots.proofs.Uses.{named_below}
use Rattle.channel_plan.specs.declared.plans.ChannelPlan.{ChannelPlan}
use Rattle.channel_plan.specs.Plans.{plan_of, plans_of, sources_at, turn_count}
use Rattle.channel_plan.specs.Tokens.{is_from, tokens_below, turns_used, uses_of}
use Rattle.channel_plan.proofs.OneSlot.{turns_used-some}
use Rattle.channel_plan.proofs.PlanEnds.{plans_of-plan_of}
use Rattle.net_core.specs.declared.network.Channel.{Channel}
use Rattle.net_core.specs.declared.network.Event.{Event}
use Rattle.net_core.specs.declared.network.Event.TheVariants.{Get, Fire, Put}
use Rattle.net_core.specs.Machine.{net_of}
use Rattle.process_derive.specs.Derived.{net}
use Rattle.process_derive.specs.Scripts.{script, slot_base}
use Rattle.process_derive.proofs.Numbers.{script_at}
use Rattle.process_derive.proofs.Tags.{length-sources}
use Rattle.process_derive.proofs.ScriptNames.{channel_at}
use Rattle.derived_names.proofs.Gets.{exists, points_got, slots_got}
use Rattle.derived_names.proofs.UsesOfReads.{IsPlanOf, plans_are}
use Rattle.net_text.specs.NetworkText.{hold, slot_got, span}
use Rattle.derived_text.proofs.Spans.{span_is}

-- The slots that are held

-- the Gets for all uses name each slot that is held, and no other
slots_span : (uses : List ℕ) (base : ℕ) → 0 < length uses
    → span (map (λ m. base + slice_index (slots_of_gets uses) m) (range_with_len 0 (gets_for uses))) ≡ hold_of uses
slots_span uses base some =
    let held : Held = held_after uses (length uses) in
    let keeps : KeepsTokens uses (length uses) held = KeepsTokens-held uses (length uses) in
    let gets : ℕ = gets_for uses in
    let count : length held.slot_of_get ≡ gets = length-held uses (length uses) ∙ ap gets_for (take-length uses) in
    let slot : ℕ → ℕ = λ m. base + slice_index held.slot_of_get m in
    let all : List ℕ = map slot (range_with_len 0 gets) in
    let made : 0 < hold_of uses = omega (arith, keeps.made 0 (omega (arith, count, named_below uses 0 some))) in
    let last : ℕ = hold_of uses - 1 in
    let there : (s : ℕ) → s < hold_of uses → In (base + s) all = λ s lt.
    let m : ℕ = slice_index held.slots s in
    subst (λ k. In (base + k) all) (keeps.taken s lt)
    (in_map slot (range_with_len 0 gets) m
    (in_range_with_len 0 gets m (omega arith) (omega (arith, count, keeps.got s lt))))
    in
    let above : Each (λ x. base ≤ x) all =
    each_map (λ x. base ≤ x) slot (range_with_len 0 gets)
    (each_of (λ m. base ≤ slot m) (range_with_len 0 gets) (λ m. omega arith)) in
    let below : Each (λ x. x ≤ base + last) all =
    each_map (λ x. x ≤ base + last) slot (range_with_len 0 gets)
    (each_range_with_len (λ m. slot m ≤ base + last) 0 gets
    (λ m first lt. omega (arith, keeps.made m (omega (arith, count))))) in
    let front : base + 0 ≡ base = omega arith in
    omega (
      arith,
      span_is all base (base + last) above below (subst (λ k. In k all) front (there 0 made))
          (there last (omega arith)),
    )

-- The Gets of a channel

-- the text looks at the slots that are got
got_by : (c : ℕ) (events : List Event) → flat_map (slot_got c) events ≡ slots_got c events
got_by c [] = refl
got_by c (Get channel slot ∷ events) =
    let later = got_by c events in
    elim (cases_Bool
    (eqb c channel)) [ inl this ↦ rw this (ap (λ slots. slot ∷ slots) later) | inr other ↦ rw other later ]
got_by c (Fire refs ∷ events) = got_by c events
got_by c (Put channel ∷ events) = got_by c events

-- what the text tells as the hold of a channel that some fire uses
planned : (n : Nest) (p k w c : ℕ) → slice_get (plans_of n) c ≡ Some (plan_of n p k w)
    → list_any (is_from w) (sources_at n p k) ≡ true
    → hold (net_of (net n)) c ≡ hold_of (uses_of (turns_used w (sources_at n p k)))
planned n p k w c there read =
    let sources : List (Option Tag) = sources_at n p k in
    let used : List ℕ = turns_used w sources in
    let uses : List ℕ = uses_of used in
    let turns : ℕ = turn_count n p in
    let base : ℕ = slot_base (plans_of n) p c in
    let count : length uses ≡ length used = length-map used (tokens_below used) in
    let reader : (net_of (net n)).reader c ≡ p =
    ap (λ (o : Option Channel). option_map_or (λ channel. channel.reader) o 0)
    (channel_at n c (plan_of n p k w) there) in
    let events : (net_of (net n)).script ((net_of (net n)).reader c) ≡ script n p =
    ap (net_of (net n)).script reader ∙ script_at n p (exists n p k w c there).reader in
    let every : take (length (turns_used w (take turns sources))) uses ≡ uses =
    ap (λ m. take (length (turns_used w (take m sources))) uses) (sym (length-sources n p k))
    ∙ ap (λ xs. take (length (turns_used w xs)) uses) (take-length sources)
    ∙ ap (λ m. take m uses) (sym count)
    ∙ take-length uses in
    ap (λ es. span (flat_map (slot_got c) es)) events
    ∙ ap span (got_by c (script n p) ∙ points_got n p k w c there turns (omega arith))
    ∙ ap (λ xs. span (map (λ m. base + slice_index (slots_of_gets uses) m) (range_with_len 0 (gets_for xs)))) every
    ∙ slots_span uses base (omega (arith, count, turns_used-some w sources read))

-- what the text tells as a channel's hold is the hold of its plan
pub hold_planned : (n : Nest) (c : ℕ) (plan : ChannelPlan) → slice_get (plans_of n) c ≡ Some plan
    → hold (net_of (net n)) c ≡ plan.slots.hold
hold_planned n c plan there =
    let is : plan ≡ plan_of n plan.reader plan.read plan.writer = plans_of-plan_of n c plan there in
    let own : IsPlanOf n plan =
    each_in (IsPlanOf n) plan (plans_of n) (plans_are n) (at_in plan (plans_of n) c there) in
    planned n plan.reader plan.read plan.writer c (there ∙ ap Some is) own.is_read
    ∙ ap (λ (q : ChannelPlan). q.slots.hold) (sym is)
