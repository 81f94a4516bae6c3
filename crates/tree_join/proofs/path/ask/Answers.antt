use Rattle.std.proofs.Common.{◌∙◌, refl, arith}
use Rattle.tree_join.specs.declared.path.Step.TheVariants.{Made, On}
use Rattle.tree_join.specs.declared.path.Walk.{Walk}
use Rattle.tree_join.proofs.Turning.{asked, dead_made, first_ready, ready_context}
use Rattle.tree_join.proofs.path.ask.Goals as goal

pub enter-requires : goal.enter-requires
enter-requires c =
    let task = c.args.task.now in
    let walk = c.args.walk.now in
    ready_context task.read.now task.candidates.now _ walk.seen walk.left c.args.first c.requires.sides.above

pub returns-in-Some : goal.returns-in-Some
returns-in-Some c = λ most less.
    let task = c.args.task.now in
    let walk = c.args.walk.now in
    let new : Walk = record walk { context = c.enter.new.context; frames = c.push.new.self } in
    asked task walk new c.args.form c.args.first c.args.second c.len-count.result c.in_ok-left.left (Made c.in-Some.tree) most c.requires.frames
    c.requires.sides c.len-count.ensures (c.in_ok-left.ensures ∙ c.as_slice.ensures) c.in_ok-dead.ensures.context refl
    refl c.in_ok-push.ensures.ok
    (dead_made task.read.now task.candidates.now _ _ walk.seen walk.left c.args.first c.in_ok-dead.dead c.in-Some.tree
    c.requires.sides.above c.in_ok-dead.ensures.context c.in-Some.is c.in_ok-dead.ensures.dead c.in_ok-dead.ensures.low)
    (omega arith) less

pub returns : goal.returns
returns c = λ most less.
    let task = c.args.task.now in
    let walk = c.args.walk.now in
    let new : Walk = record walk { context = c.enter.new.context; frames = c.push.new.self } in
    asked task walk new c.args.form c.args.first c.args.second c.len-count.result c.in_ok-left.left (On c.args.first) most c.requires.frames
    c.requires.sides c.len-count.ensures (c.in_ok-left.ensures ∙ c.as_slice.ensures) c.in_ok-dead.ensures.context refl
    refl c.in_ok-push.ensures.ok
    (first_ready task walk new c.args.form c.args.first c.args.second c.requires.sides c.in_ok-dead.ensures.context refl refl)
    (omega arith) less
