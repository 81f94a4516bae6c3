use Rattle.loop_walk.proofs.WalkLemmas.{nothing_invalid, nothing_left, on_some_from}
use Rattle.loop_walk.proofs.walk.entered_assignment.Goals as goal

pub returns-then-frame-eq0-clause-left : goal.returns-then-frame-eq0-clause-left
returns-then-frame-eq0-clause-left c =
    on_some_from _ _ c.only_assignment.result (λ s is. nothing_left c.args.deeper.now _ c.args.body.now s c.requires
    c.if-frame.true c.if-frame-eq0.true is) c.only_assignment.ensures

pub returns-then-frame-eq0-clause-valid : goal.returns-then-frame-eq0-clause-valid
returns-then-frame-eq0-clause-valid c =
    on_some_from _ _ c.only_assignment.result (λ s is. nothing_invalid c.args.deeper.now _ c.args.body.now s c.requires
    c.if-frame.true c.if-frame-eq0.true is) c.only_assignment.ensures
