use Rattle.std.proofs.Common.{All, subst, suc, arith}
use Rattle.net_checker.specs.TurnQueues.{HasToken}
use Rattle.net_checker.proofs.turn_queue.refill.Goals as goal

pub returns-in-Some-clause-stretches : goal.returns-in-Some-clause-stretches
returns-in-Some-clause-stretches c k d lt =
    subst (All HasToken) c.in-Some.ensures.items c.requires (suc k) d (omega (arith, lt))
