use Rattle.std.proofs.Common.{◌++◌, ◌∷◌, [], ap₂, sym, ◌∙◌}
use Rattle.network_numbers.specs.PlanNumbers.{process_by_plans}
use Rattle.network_numbers.proofs.NumberedItems.{entries_more}
use Rattle.network_numbers.proofs.numbers.process_numbers.Goals as goal

pub loop-process-preserved : goal.loop-process-preserved
loop-process-preserved c =
    c.in_ok-push.ensures.items
    ∙ ap₂ (λ xs x. xs ++ x ∷ []) c.loop-process.invariant c.process_by_plans.ensures
    ∙ sym (entries_more (process_by_plans c.args.plans.now) c.args.turns.now c.loop-process.process 0
    c.loop-process-test.true)
