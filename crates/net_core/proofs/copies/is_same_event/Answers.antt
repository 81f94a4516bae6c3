use Rattle.std.proofs.Common.{◌∙◌, sym}
use Rattle.net_core.proofs.copies.is_same_event.Goals as goal

pub returns : goal.returns
returns c = (
  λ t. c.equal_is_same.ensures.event c.args.event.now c.args.other.now (sym c.eq.ensures ∙ t),
  λ e. c.eq.ensures ∙ rw (← e) (c.same_is_equal.ensures c.args.event.now),
)
