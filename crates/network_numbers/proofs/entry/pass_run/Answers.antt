use Rattle.std.proofs.Common.{◌<◌, List, ℕ, length, subst, ap, sym, ◌∙◌, arith}
use Rattle.std.specs.List.{All, fold}
use Rattle.std.proofs.lemmas.List.{take_all}
use Rattle.network_numbers.proofs.RunQueues.{channels_below, run_done, with_channel}
use Rattle.network_numbers.proofs.entry.pass_run.Goals as goal

pub pass_channel-requires-clause-plan : goal.pass_channel-requires-clause-plan
pass_channel-requires-clause-plan c =
    let plans = c.args.plans.now in
    subst (λ (cs : List ℕ). All (λ k. k < length plans) cs) (sym c.requires.channels)
    (channels_below plans c.args.process) c.loop-channel.channel-index 0 c.loop-channel-test.true

pub pass_channel-requires-clause-queue : goal.pass_channel-requires-clause-queue
pass_channel-requires-clause-queue c =
    let plans = c.args.plans.now in
    omega (
      arith,
      c.loop-channel.invariant.many,
      c.requires.queues,
      subst (λ (cs : List ℕ). All (λ k. k < length plans) cs) (sym c.requires.channels)
          (channels_below plans c.args.process) c.loop-channel.channel-index 0 c.loop-channel-test.true,
    )

pub returns : goal.returns
returns c =
    let step =
    with_channel c.args.plans.now c.args.lists.now c.args.table.now c.args.process c.args.first c.args.count in
    c.loop-channel.invariant.counted
    ∙ ap (fold step c.args.queues.now) (take_all c.loop-channel.channel-index c.args.channels.now (omega arith))
    ∙ run_done c.args.plans.now c.args.lists.now c.args.table.now c.args.process c.args.first c.args.count
    c.args.channels.now c.args.queues.now c.requires.channels c.requires.queues
