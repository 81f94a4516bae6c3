use Rattle.std.proofs.Common.{◌++◌, ◌∷◌, [], ap, ap₂, sym, ◌∙◌}
use Rattle.std.specs.Prelude.{slice_index}
use Rattle.network_numbers.specs.PlanNumbers.{channel_by_plan}
use Rattle.network_numbers.proofs.NumberedItems.{entries_more}
use Rattle.network_numbers.proofs.numbers.channel_numbers.Goals as goal
use Rattle.plan_numbers.specs.declared.numbers.PlanNumbers.{PlanNumbers}

pub loop-channel-preserved : goal.loop-channel-preserved
loop-channel-preserved c =
    let plan = c.index-plans-channel.result in
    c.in_ok-push.ensures.items
    ∙ ap₂ (λ xs x. xs ++ x ∷ []) c.loop-channel.invariant
    (c.channel_by_plan.ensures ∙ ap (channel_by_plan plan) c.number_at.ensures
    ∙ ap (λ x. channel_by_plan x (slice_index c.args.capacities.now c.loop-channel.channel)) c.index-plans-channel.is)
    ∙ sym (entries_more (λ k (x : PlanNumbers). channel_by_plan x (slice_index c.args.capacities.now k)) c.args.plans.now
    c.loop-channel.channel c.index-plans-channel.result c.loop-channel-test.true)
