use Rattle.std.proofs.Common.{◌-◌, sym, ◌∙◌, refl, arith}
use Rattle.net_checker.proofs.QueueLemmas.{first_token}
use Rattle.net_checker.proofs.turn_queue.TurnQueue.pop.Goals as goal

pub returns : goal.returns
returns c =
    let front = c.refill.new.front in
    sym c.self.view_is ∙ sym c.refill.ensures.turns
    ∙ first_token front (record { turn = front.turn; count = front.count - 1 }) c.refill.new.back
    c.refill.new.middle.items (omega (arith, c.if-self-eq0.false)) refl refl
