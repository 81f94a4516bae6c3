use Rattle.script_blocks.proofs.Repetitions.{once, once_more}
use Rattle.script_blocks.proofs.folding.repetitions.Goals as goal
use Rattle.std.proofs.Common.{◌++◌}

pub returns-then-is_empty : goal.returns-then-is_empty
returns-then-is_empty c = once c.args.first.now c.args.labels.now

pub loop-times-init : goal.loop-times-init
loop-times-init c = once c.args.first.now c.args.labels.now

pub loop-times-preserved : goal.loop-times-preserved
loop-times-preserved c =
    once_more c.loop-times.times (c.args.first.now ++ c.args.labels.now) c.args.first.now c.loop-times.rest.now
    c.in-Some.next.now c.loop-times.invariant c.in-Some.ensures
