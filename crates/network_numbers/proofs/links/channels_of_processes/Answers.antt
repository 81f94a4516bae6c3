use Rattle.std.proofs.Common.{◌++◌, ◌∷◌, [], ap₂, sym, ◌∙◌, arith}
use Rattle.std.proofs.lemmas.List.FromFn.{map-range_with_len_more}
use Rattle.network_numbers.specs.Links.{channels_at}
use Rattle.network_numbers.proofs.links.channels_of_processes.Goals as goal

pub loop-process-preserved : goal.loop-process-preserved
loop-process-preserved c =
    let k = c.loop-process.process in
    let plans = c.args.plans.now in
    c.in_ok-push.ensures.items
    ∙ ap₂ (λ xs x. xs ++ x ∷ []) c.loop-process.invariant c.in_ok-channels_at.ensures
    ∙ sym (map-range_with_len_more (channels_at plans) 0 k k (omega arith))
