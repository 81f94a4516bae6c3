use Rattle.stride_trees.proofs.Opens.{up_first, up_second}
use Rattle.stride_trees.proofs.leaves.up.Goals as goal

pub returns-in-Ok : goal.returns-in-Ok
returns-in-Ok c = λ whole h.
    up_first c.args.w.now c.args.rows whole c.args.opens.now c.args.last c.args.own h c.push.new.self c.in-First.form
    c.in-First.no c.in-First.is c.in-Ok.ensures.ok

pub returns-in_ok-test-in-Second : goal.returns-in_ok-test-in-Second
returns-in_ok-test-in-Second c = λ whole h.
    up_second c.args.w.now c.args.rows whole c.args.opens.now c.args.last c.args.own h c.in-Second.form c.in-Second.yes
    c.in_ok-test-in-Second.field-0 c.in-Second.is c.in_ok-test-in-Second.ensures
