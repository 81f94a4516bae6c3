-- The slots of a nest's network lie apart by channels.
--
-- The slots of a reader's channels stand side by side, in the order of their numbers: those of a channel end
-- before those of a later one begin (`ends_before`). Each Get of a channel is into a slot of its own
-- (`slot_of_get`), since it is into the slot that the channel's plan has for its number. So two Gets into one slot
-- are of one channel, wherever they stand.
use Rattle.std.proofs.Common.{◌≡◌, ℕ, zero, suc, ◌+◌, ◌<◌, ◌≤◌, cond, Some, List, [], ◌∷◌, take, slice_get, count_by}
use Rattle.std.proofs.Common.{ap, sym, ◌∙◌, refl, inl, inr, arith, eq-eqb}
use Rattle.std.specs.Prelude.{slice_index, ◌==◌}
use Rattle.std.proofs.lemmas.Bool.{cases_lt}
use Rattle.std.proofs.lemmas.List.Sums.{sum_by-cons}
use Rattle.channel_plan.specs.declared.plans.ChannelPlan.{ChannelPlan}
use Rattle.channel_plan.specs.Plans.{plan_of, plans_of, turn_count}
use Rattle.channel_plan.specs.Tokens.{uses_of}
use Rattle.channel_plan.proofs.PlanEnds.{plans_of-plan_of}
use Rattle.net_core.specs.declared.network.Event.{Event}
use Rattle.net_core.specs.declared.network.Event.TheVariants.{Get}
use Rattle.net_core.specs.Machine.{Net, net_of}
use Rattle.net_core.specs.Shape.{is_get}
use Rattle.port_design.specs.Clocked.{HasSlotsApart}
use Rattle.process_derive.specs.Derived.{net}
use Rattle.process_derive.specs.Scripts.{slot_base}
use Rattle.process_derive.proofs.ScriptNames.{event_is}
use Rattle.process_derive.proofs.Slots.{gets_inside}
use Rattle.reorder_slots.specs.Slots.{slots_of_gets}
use Rattle.sanlp.specs.declared.nest.Nest.{Nest}
use Rattle.derived_names.proofs.Gets.{slot_is, uses_made}
use Rattle.derived_names.proofs.UsesOfFires.{turns_read}

ends_before : (plans : List ChannelPlan) (p c d : ℕ) (plan : ChannelPlan) → slice_get plans c ≡ Some plan
    → plan.reader ≡ p → c < d
    → slot_base plans p c + plan.slots.hold ≤ slot_base plans p d
ends_before [] p c d plan e own lt = absurd (cc)
ends_before (x ∷ plans) p c zero plan e own lt = absurd (omega arith)
ends_before (x ∷ plans) p zero (suc d) plan e own lt =
    let same : x ≡ plan = cc in
    let here : cond (x.reader == p) x.slots.hold 0 ≡ plan.slots.hold =
    ap (λ (y : ChannelPlan). cond (y.reader == p) y.slots.hold 0) same
    ∙ ap (λ b. cond b plan.slots.hold 0) (eq-eqb plan.reader p own) in
    omega (arith, here, sum_by-cons (λ (y : ChannelPlan). cond (y.reader == p) y.slots.hold 0) x (take d plans))
ends_before (x ∷ plans) p (suc c) (suc d) plan e own lt =
    omega (
      arith,
      ends_before plans p c d plan e own (omega arith),
      sum_by-cons (λ (y : ChannelPlan). cond (y.reader == p) y.slots.hold 0) x (take c plans),
      sum_by-cons (λ (y : ChannelPlan). cond (y.reader == p) y.slots.hold 0) x (take d plans),
    )

-- a Get is into a slot of its channel
record IsOwnSlot (n : Nest) (p c slot : ℕ) : Type 0 where
  plan : ChannelPlan
  there : slice_get (plans_of n) c ≡ Some plan
  reader : plan.reader ≡ p
  offset : ℕ
  within : offset < plan.slots.hold
  is : slot ≡ slot_base (plans_of n) p c + offset

slot_of_get : (n : Nest) (p i c slot : ℕ) → slice_get ((net_of (net n)).script p) i ≡ Some (Get c slot)
    → IsOwnSlot n p c slot
slot_of_get n p i c slot at =
    let has = (event_is n p i (Get c slot) at).1.0 in
    let plan : ChannelPlan = has.0 in
    let there : slice_get (plans_of n) c ≡ Some (plan_of n p plan.read plan.writer) =
    has.1 ∙ ap Some (plans_of-plan_of n c plan has.1 ∙ ap (λ r. plan_of n r plan.read plan.writer) has.2) in
    let is = slot_is n p plan.read plan.writer c there i slot at in
    let uses : List ℕ = uses_of (turns_read n p plan.read plan.writer) in
    let m : ℕ = count_by (is_get c) (take i ((net_of (net n)).script p)) in
    record {
      plan = plan_of n p plan.read plan.writer;
      there = there;
      reader = refl;
      offset = slice_index (slots_of_gets uses) m;
      within = gets_inside uses (uses_made n p plan.read plan.writer c there (turn_count n p)) m is.0;
      is = is.1;
    }

-- two Gets into one slot are of one channel
one_channel : (n : Nest) (p j k c d slot : ℕ) → slice_get ((net_of (net n)).script p) j ≡ Some (Get c slot)
    → slice_get ((net_of (net n)).script p) k ≡ Some (Get d slot) → c ≡ d
one_channel n p j k c d slot first second =
    let x = slot_of_get n p j c slot first in
    let y = slot_of_get n p k d slot second in
    elim (cases_lt c d) [
      | inl lt ↦
          absurd (omega (arith, ends_before (plans_of n) p c d x.plan x.there x.reader lt, x.is, y.is, x.within))
      | inr le ↦
          elim (cases_lt d c) [
            | inl lt ↦
                absurd (omega (arith, ends_before (plans_of n) p d c y.plan y.there y.reader lt, x.is, y.is, y.within))
            | inr ge ↦ omega arith
          ]
    ]

pub apart_in : (nest : Nest) (n : Net) → ((p : ℕ) → n.script p ≡ (net_of (net nest)).script p) → HasSlotsApart n
apart_in nest n same p j k c d slot first second counts =
    one_channel nest p j k c d slot (ap (λ (script : List Event). slice_get script j) (sym (same p)) ∙ first)
    (ap (λ (script : List Event). slice_get script k) (sym (same p)) ∙ second)
