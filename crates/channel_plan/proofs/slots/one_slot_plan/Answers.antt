use Rattle.std.proofs.Common.{◌≡◌, ◌<◌, ◌+◌, length, get_or, refl, ap, ◌∙◌, arith}
use Rattle.std.proofs.lemmas.List.{take_all}
use Rattle.reorder_slots.specs.Slots.{gets_for}
use Rattle.reorder_slots.proofs.Plans.{gets_before-all}
use Rattle.channel_plan.proofs.Channels.{slots_are}
use Rattle.channel_plan.proofs.InOrder.{gets_at, gets_before_next, gets_in_one, one_hold, uses_in_one}
use Rattle.channel_plan.proofs.slots.one_slot_plan.Goals as goal

pub overflow_add-gets : goal.overflow_add-gets
overflow_add-gets c = omega (arith, c.requires.small c.loop-token.token-index 0 c.loop-token-test.true)

pub loop-token-preserved : goal.loop-token-preserved
loop-token-preserved c =
    let uses = c.args.uses.now in
    let q = c.loop-token.token-index in
    let lt : q < length uses = c.loop-token-test.true in
    let gets = get_or uses q 0 + 1 in
    record {
      gets = omega (arith, gets_at uses q c.requires.order lt);
      before = gets_before_next uses q gets c.loop-token.gets_before.items _ c.requires.order lt refl
          c.loop-token.invariant.before c.in_ok-push.ensures.items;
    }

pub returns : goal.returns
returns c =
    let uses = c.args.uses.now in
    let gets = c.loop-token.gets in
    let all : gets ≡ gets_for uses =
    c.loop-token.invariant.gets ∙ ap gets_for (take_all c.loop-token.token-index uses (omega arith)) in
    slots_are _ uses
    (c.from_vec.ensures ∙ c.loop-token.invariant.before ∙ gets_before-all uses c.loop-token.token-index (omega arith))
    (c.from_vec-2.ensures ∙ c.in_ok-slot_of_get.ensures.items_if_clones_equal (λ y h. h)
    ∙ gets_in_one uses gets c.requires.order all)
    (c.from_vec-3.ensures ∙ c.in_ok-slot_of_use.ensures.items_if_clones_equal (λ y h. h)
    ∙ uses_in_one uses gets c.requires.order all)
    (c.min.ensures ∙ one_hold uses gets c.requires.order all)
