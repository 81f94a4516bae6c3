use Rattle.std.proofs.lemmas.Result.{on_ok_weaker}
use Rattle.stride_trees.proofs.leaves.push_own.Goals as goal

pub returns : goal.returns
returns c = on_ok_weaker c.push.result (λ is. (c.in_ok-own.own, is, c.in_ok-own.ensures)) c.push.ensures.ok
