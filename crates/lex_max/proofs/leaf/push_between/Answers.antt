use Rattle.std.proofs.Common.{◌≡◌, ◌<◌, arith}
use Rattle.tree_graphs.specs.Asked.{depth_of_write}
use Rattle.lex_max.specs.Choices.{chosen_place}
use Rattle.lex_max.proofs.LevelProofs.{between_all, between_next, between_none}
use Rattle.lex_max.proofs.Ready.{ready_of}
use Rattle.lex_max.proofs.leaf.push_between.Goals as goal

pub loop-level-init : goal.loop-level-init
loop-level-init c = between_none c.args.graph.now.writes c.args.graph.now.edges.now c.args.here
    (chosen_place c.args.choices.now) c.args.proofs.now

pub loop-level-preserved : goal.loop-level-preserved
loop-level-preserved c =
    let inside : c.loop-level.level < depth_of_write c.args.graph.now.writes = omega (arith, c.depth-level-end.ensures)
    in
    between_next c.args.graph.now.writes c.args.graph.now.edges.now c.args.here c.loop-level.level c.args.choices.now
    c.in_ok-between_proof.field-0 c.args.proofs.now c.loop-level.proofs c.push.new.self inside
    c.in_ok-between_proof.ensures c.loop-level.invariant c.in_ok-push.ensures.ok

pub returns : goal.returns
returns c cx context leaf =
    let all : c.loop-level.level ≡ depth_of_write c.args.graph.now.writes = omega (arith, c.depth-level-end.ensures) in
    between_all c.args.graph.now.writes c.args.graph.now.edges.now c.args.graph.now.bounds.now c.args.here
    c.loop-level.level
    (chosen_place c.args.choices.now) c.args.proofs.now c.loop-level.proofs (ready_of c.args.graph.now) all
    c.loop-level.invariant cx context leaf
