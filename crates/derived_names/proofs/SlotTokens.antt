-- The latest Get of the slot that a fire names is that of its token.
--
-- It joins three things: the m-th Get is into the plan's slot for m (Gets), no Get takes the slot of a token with a
-- use to come (reorder_slots), and the slots of different channels of one reader lie apart, side by side (`apart`).
-- With them the premises of Latest hold at the fire. It isn't an induction of its own, and the place of the fire comes
-- from splitting the script at it.
use Rattle.std.proofs.Common.{◌≡◌, ℕ, zero, suc, ◌+◌, ◌-◌, ◌<◌, ◌≤◌, cond, Some, List, [], ◌∷◌, ◌++◌, length, take}
use Rattle.std.proofs.Common.{slice_get, get_or, count_by, refl, sym, ap, ◌∙◌, inl, inr, arith, append_assoc}
use Rattle.std.specs.Prelude.{slice_index, ◌==◌}
use Rattle.std.specs.List.{flat_map, range_with_len}
use Rattle.std.proofs.lemmas.Bool.{cases_lt, eq-eqb}
use Rattle.std.proofs.lemmas.List.{get_or-map, take_at}
use Rattle.std.proofs.lemmas.List.Concat.{flat_map-append}
use Rattle.std.proofs.lemmas.List.Sums.{sum_by-cons}
use Rattle.std.proofs.lemmas.Option.{slice_get-get_or}
use Rattle.channel_plan.specs.declared.plans.ChannelPlan.{ChannelPlan}
use Rattle.channel_plan.specs.Plans.{plan_of, plans_of, sources_at, turn_count}
use Rattle.channel_plan.specs.Tokens.{turns_used, uses_of}
use Rattle.channel_plan.proofs.PlanEnds.{plans_of-plan_of}
use Rattle.net_core.specs.declared.network.Event.{Event}
use Rattle.net_core.specs.declared.network.Event.TheVariants.{Get, Fire}
use Rattle.net_core.specs.Machine.{net_of}
use Rattle.net_core.specs.Names.{latest_gets}
use Rattle.net_core.specs.Shape.{is_get}
use Rattle.net_core.proofs.EventCounts.{count_past}
use Rattle.process_derive.specs.Derived.{net}
use Rattle.process_derive.specs.Scripts.{point_events, puts_from, script, slot_base}
use Rattle.process_derive.proofs.Numbers.{script_at}
use Rattle.process_derive.proofs.Slots.{gets_inside}
use Rattle.process_derive.proofs.Sums.{sum_at}
use Rattle.process_derive.proofs.ScriptNames.{event_is, slots_there}
use Rattle.reorder_slots.specs.Slots.{gets_for, hold_of, slots_of_gets, slots_of_uses}
use Rattle.reorder_slots.proofs.Laws.{keeps_until_used}
use Rattle.reorder_slots.proofs.Uses.{named_before}
use Rattle.sanlp.specs.declared.nest.Nest.{Nest}
use Rattle.sanlp.specs.declared.nest.Tag.{Tag}
use Rattle.sanlp.proofs.Lists.{range_with_len-append}
use Rattle.derived_names.proofs.Gets.{before_fire, events_before, events_split, exists, few_uses, fire_count, place}
use Rattle.derived_names.proofs.Gets.{point_refs, slot_is, uses_made, uses_next}
use Rattle.derived_names.proofs.Latest.{IsLastInto, latest}
use Rattle.derived_names.proofs.UsesOfFires.{turns_read}

-- Slots side by side

-- the slots of a channel end before those of a later one begin
ends_before : (plans : List ChannelPlan) (p c d : ℕ) (plan : ChannelPlan) → slice_get plans c ≡ Some plan
    → plan.reader ≡ p → c < d
    → slot_base plans p c + plan.slots.hold ≤ slot_base plans p d
ends_before [] p c d plan e own lt = absurd (cc)
ends_before (x ∷ plans) p c zero plan e own lt = absurd (omega arith)
ends_before (x ∷ plans) p zero (suc d) plan e own lt =
    let same : x ≡ plan = cc in
    let here : cond (x.reader == p) x.slots.hold 0 ≡ plan.slots.hold =
    ap (λ (y : ChannelPlan). cond (y.reader == p) y.slots.hold 0) same
    ∙ ap (λ b. cond b plan.slots.hold 0) (eq-eqb plan.reader p own) in
    omega (arith, here, sum_by-cons (λ (y : ChannelPlan). cond (y.reader == p) y.slots.hold 0) x (take d plans))
ends_before (x ∷ plans) p (suc c) (suc d) plan e own lt =
    omega (
      arith,
      ends_before plans p c d plan e own (omega arith),
      sum_by-cons (λ (y : ChannelPlan). cond (y.reader == p) y.slots.hold 0) x (take c plans),
      sum_by-cons (λ (y : ChannelPlan). cond (y.reader == p) y.slots.hold 0) x (take d plans),
    )

apart : (plans : List ChannelPlan) (p c d i j : ℕ) (x y : ChannelPlan) → slice_get plans c ≡ Some x
    → slice_get plans d ≡ Some y → x.reader ≡ p → y.reader ≡ p
    → (d ≡ c → ⊥) → i < x.slots.hold → j < y.slots.hold → slot_base plans p d + j ≡ slot_base plans p c + i → ⊥
apart plans p c d i j x y at there own too ne inside within same =
    elim (cases_lt c d) [
      | inl before ↦ omega (arith, ends_before plans p c d x at own before)
      | inr le ↦ omega (arith, ends_before plans p d c y there too (omega arith))
    ]

-- The place of a fire

-- the events of the points behind point f
abbrev pub points_after : Nest → ℕ → ℕ → List Event
points_after n p f = flat_map (point_events n p) (range_with_len (0 + suc f) (turn_count n p - suc f))

pub script_past : (n : Nest) (p f : ℕ) → f < turn_count n p
    → script n p ≡ events_before n p (suc f) ++ points_after n p f
script_past n p f lt =
    let whole : turn_count n p ≡ suc f + (turn_count n p - suc f) = omega arith in
    ap (λ m. flat_map (point_events n p) (range_with_len 0 m)) whole
    ∙ ap (flat_map (point_events n p)) (range_with_len-append 0 (suc f) (turn_count n p - suc f))
    ∙ flat_map-append (point_events n p) (range_with_len 0 (suc f))
    (range_with_len (0 + suc f) (turn_count n p - suc f))

pub script_splits : (n : Nest) (p f : ℕ) → f < turn_count n p
    → script n p ≡ before_fire n p f ++ (Fire (point_refs n p f) ∷ (puts_from 0 (plans_of n) p f ++ points_after n p f))
script_splits n p f lt =
    script_past n p f lt
    ∙ ap (λ es. es ++ points_after n p f) (events_split n p f)
    ∙ append_assoc (before_fire n p f) (Fire (point_refs n p f) ∷ puts_from 0 (plans_of n) p f) (points_after n p f)

pub take_before : (n : Nest) (p f : ℕ) → p < length n.statements → f < turn_count n p
    → take (length (before_fire n p f)) ((net_of (net n)).script p) ≡ before_fire n p f
take_before n p f process lt =
    ap (take (length (before_fire n p f))) (script_at n p process ∙ script_splits n p f lt)
    ∙ take_at (before_fire n p f) (Fire (point_refs n p f) ∷ (puts_from 0 (plans_of n) p f ++ points_after n p f))
    (length (before_fire n p f)) refl

-- The Get of the token that a fire uses

module _ (n : Nest) (p k w c : ℕ) (found : slice_get (plans_of n) c ≡ Some (plan_of n p k w)) (f : ℕ)
    (fire : f < turn_count n p) (t : Tag)
    (source : slice_get (sources_at n p k) f ≡ Some (Some t)) (own : t.process ≡ w) where
  abbrev uses : List ℕ
  uses = uses_of (turns_read n p k w)

  -- the number of the fire's use
  abbrev use_number : ℕ
  use_number = length (turns_used w (take f (sources_at n p k)))

  abbrev token : ℕ
  token = get_or uses use_number 0

  few : use_number < length uses
  few = omega (arith, few_uses n p k w c found (suc f), uses_next n p k w c found f t source own)

  got_so_far : count_by (is_get c) (take (length (before_fire n p f)) ((net_of (net n)).script p))
      ≡ gets_for (take (suc use_number) uses)
  got_so_far =
      ap (count_by (is_get c)) (take_before n p f (exists n p k w c found).reader fire)
      ∙ fire_count n p k w c found f fire
      ∙ ap (λ j. gets_for (take j uses)) (uses_next n p k w c found f t source own)

  is_got : token < gets_for (take (suc use_number) uses)
  is_got = named_before uses (suc use_number) use_number (omega arith) few

  inside : slice_index (slots_of_gets uses) token < hold_of uses
  inside = gets_inside uses (suc use_number) token is_got

  into_slot : place n p k w c found token < (net_of (net n)).slots p
  into_slot =
      let plan : ChannelPlan = plan_of n p k w in
      let whole = sum_at (λ (y : ChannelPlan). cond (y.reader == p) y.slots.hold 0) (plans_of n) c plan found in
      let here : cond (plan.reader == p) plan.slots.hold 0 ≡ hold_of uses =
      ap (λ b. cond b (hold_of uses) 0) (eq-eqb p p refl) in
      omega (arith, whole, here, inside, slots_there n p (exists n p k w c found).reader)

  kept : (i slot : ℕ) → i < length (before_fire n p f) → slice_get ((net_of (net n)).script p) i ≡ Some (Get c slot)
      → token < count_by (is_get c) (take i ((net_of (net n)).script p)) → slot ≡ place n p k w c found token → ⊥
  kept i slot below at later into =
      let events = (net_of (net n)).script p in
      let m : ℕ = count_by (is_get c) (take i events) in
      let gets = slots_of_gets uses in
      let next : use_number + 1 ≡ suc use_number = omega arith in
      let earlier : m < gets_for (take (use_number + 1) uses) =
      omega (
        arith,
        count_past (is_get c) events i (length (before_fire n p f)) (Get c slot) at (eq-eqb c c refl) below,
        got_so_far,
        ap (λ j. gets_for (take j uses)) next,
      ) in
      let same : get_or gets m 0 ≡ get_or gets token 0 = omega (arith, into, (slot_is n p k w c found i slot at).1) in
      keeps_until_used uses use_number token m (slice_get-get_or uses use_number 0 few) later earlier same

  of_others : (i d slot : ℕ) → slice_get ((net_of (net n)).script p) i ≡ Some (Get d slot) → (d ≡ c → ⊥)
      → slot ≡ place n p k w c found token → ⊥
  of_others i d slot at ne into =
      let events = (net_of (net n)).script p in
      let m : ℕ = count_by (is_get d) (take i events) in
      let has = (event_is n p i (Get d slot) at).1.0 in
      let plan : ChannelPlan = has.0 in
      let there : slice_get (plans_of n) d ≡ Some (plan_of n p plan.read plan.writer) =
      has.1 ∙ ap Some (plans_of-plan_of n d plan has.1 ∙ ap (λ r. plan_of n r plan.read plan.writer) has.2) in
      let is = slot_is n p plan.read plan.writer d there i slot at in
      let others : List ℕ = uses_of (turns_read n p plan.read plan.writer) in
      apart (plans_of n) p c d (slice_index (slots_of_gets uses) token) (slice_index (slots_of_gets others) m)
      (plan_of n p k w) (plan_of n p plan.read plan.writer) found there refl refl ne inside
      (gets_inside others (uses_made n p plan.read plan.writer d there (turn_count n p)) m is.0)
      (sym is.1 ∙ into)

  is_last : IsLastInto (net_of (net n)) p c token (place n p k w c found token) (length (before_fire n p f))
  is_last = record {
    there = into_slot;
    this = λ i slot at number. (slot_is n p k w c found i slot at).1 ∙ ap (place n p k w c found) number;
    later = kept;
    other = of_others;
  }

  -- at the fire, the latest Get of the slot of its use is that of its token
  pub finds_token : slice_get (latest_gets (net_of (net n)) p (length (before_fire n p f)))
      (slot_base (plans_of n) p c + slice_index (slots_of_uses uses) use_number) ≡ Some (Some (c, token))
  finds_token =
      ap (λ s. slice_get (latest_gets (net_of (net n)) p (length (before_fire n p f))) (slot_base (plans_of n) p c + s))
      (get_or-map (λ i. get_or (slots_of_gets uses) i 0) uses use_number 0 0 few)
      ∙ latest (net_of (net n)) p c token (place n p k w c found token) (length (before_fire n p f)) is_last
      (length (before_fire n p f)) (omega arith) (omega (arith, got_so_far, is_got))
