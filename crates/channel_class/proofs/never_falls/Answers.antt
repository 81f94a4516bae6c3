use Rattle.std.proofs.Common.{◌-◌, sym, ◌∙◌, arith}
use Rattle.channel_class.proofs.Neighbours.{falls_last}
use Rattle.channel_class.proofs.never_falls.Goals as goal

pub returns : goal.returns
returns c = sym (falls_last c.args.uses.now (c.loop-at.at - 1) (omega arith)) ∙ c.loop-at.invariant
