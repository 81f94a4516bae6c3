use Rattle.std.proofs.Common.{◌≡◌, ◌++◌, length, take, ℤ, suc, Some, None, ap, sym, subst, ◌∙◌, append-nil, arith}
use Rattle.std.proofs.lemmas.Option.{slice_get_within}
use Rattle.net_core.specs.Machine.{net_of}
use Rattle.net_core.specs.Rooms.{Store, store_past_event}
use Rattle.net_core.specs.Rules.{values, value_limits}
use Rattle.net_core.specs.Sound.{tag_value}
use Rattle.node_runner.specs.Nodes.{calls_of, CanTurn}
use Rattle.node_runner.proofs.EventSteps.{Stands, can_turn, turned, begins, ends, told_more, all_made, event_is, left_then}
use Rattle.node_runner.proofs.EventSteps.{stands_passed}
use Rattle.node_runner.proofs.node.run_node.Given.{Over}
use Rattle.node_runner.proofs.node.run_node.Goals.{In_default}
use Rattle.node_runner.proofs.node.run_node.Goals as goal

pub loop-event-init : goal.loop-event-init
loop-event-init g c =
    let r = c.requires in
    record {
      made = 0;
      inside = omega arith;
      left = ap (λ (s : Store _). s.left) r.room;
      stands =
          begins c.args.nest.now c.args.network.now c.args.inputs.now r.sound r.numbers c.args.process
          (g.E.Ends.from c.args.ends.now)
          (g.E.Ends.to c.args.ends.now) r.incoming r.outgoing c.args.room.now r.room;
      told = λ t. sym (append-nil (g.E.Ends.calls c.args.ends.now));
    }

pub turn-requires : goal.turn-requires
turn-requires g c =
    let r = c.requires in
    let i = c.loop-event.invariant in
    let n = net_of c.args.network.now in
    let v = tag_value c.args.nest.now c.args.inputs.now in
    let p = c.args.process in
    let start = g.E.Ends.from c.args.ends.now in
    let onto = g.E.Ends.to c.args.ends.now in
    let from = g.E.Ends.from c.loop-event.ends in
    let to = g.E.Ends.to c.loop-event.ends in
    let is =
    event_is (n.script p) c.loop-event.room.left i.made (Some c.in-Some.event) i.left c.in-Some.ensures.event in
    subst (λ (s : Store ℤ). CanTurn (value_limits c.args.nest.now) p c.in-Some.event from to s)
    (sym c.in-Some.ensures.passed)
    (
    can_turn c.args.nest.now c.args.network.now c.args.inputs.now r.sound r.numbers p start onto r.incoming r.outgoing
    i.made c.in-Some.event from to (store_past_event c.loop-event.room) is
    (stands_passed n v p start onto i.made from to c.loop-event.room i.stands)
    )

pub loop-event-preserved : goal.loop-event-preserved
loop-event-preserved g c =
    let r = c.requires in
    let i = c.loop-event.invariant in
    let n = net_of c.args.network.now in
    let v = tag_value c.args.nest.now c.args.inputs.now in
    let rule = values c.args.nest.now c.args.inputs.now in
    let p = c.args.process in
    let e = c.in-Some.event in
    let start = g.E.Ends.from c.args.ends.now in
    let onto = g.E.Ends.to c.args.ends.now in
    let from = g.E.Ends.from c.loop-event.ends in
    let to = g.E.Ends.to c.loop-event.ends in
    let room = c.loop-event.room in
    let is = event_is (n.script p) room.left i.made (Some e) i.left c.in-Some.ensures.event in
    let stands =
    subst (λ (s : Store ℤ). Stands n v p start onto i.made from to s) (sym c.in-Some.ensures.passed)
    (stands_passed n v p start onto i.made from to room i.stands) in
    record {
      made = suc i.made;
      inside = slice_get_within (n.script p) i.made e is;
      left = left_then rule p e from to _ _ room c.pass.new.self c.turn.new.room
          (n.script p) i.made c.in-Some.ensures.passed c.turn.ensures.turned i.left;
      stands =
          turned c.args.nest.now c.args.network.now c.args.inputs.now r.sound r.numbers p start onto r.incoming
          r.outgoing i.made e from to _ _ c.pass.new.self c.turn.new.room is stands c.turn.ensures.turned;
      told = λ t. told_more (n.script p) i.made e (g.E.Ends.calls c.args.ends.now) (g.E.Ends.calls c.loop-event.ends)
          (g.E.Ends.calls c.turn.new.ends) is (i.told t) (c.turn.ensures.told t);
    }

-- where no event is left all were made
at_end : (g : Over) (c : In_default g)
    → (c.loop-event.invariant.made ≡ length ((net_of c.args.network.now).script c.args.process))
    × (take c.loop-event.invariant.made ((net_of c.args.network.now).script c.args.process)
    ≡ (net_of c.args.network.now).script c.args.process)
at_end g c =
    let i = c.loop-event.invariant in
    let script = (net_of c.args.network.now).script c.args.process in
    all_made script i.made i.inside
    (event_is script c.loop-event.room.left i.made None i.left c.in_default.ensures.event)

pub returns-clause-kept : goal.returns-clause-kept
returns-clause-kept g c =
    let r = c.requires in
    let i = c.loop-event.invariant in
    ap (λ (s : Store ℤ). s.kept) c.in_default.ensures.passed
    ∙ ends c.args.nest.now c.args.network.now c.args.inputs.now r.sound r.numbers c.args.process
    (g.E.Ends.from c.args.ends.now) (g.E.Ends.to c.args.ends.now) r.incoming r.outgoing
    i.made (g.E.Ends.from c.loop-event.ends) (g.E.Ends.to c.loop-event.ends) c.loop-event.room (at_end g c).0 i.stands

pub returns-clause-told : goal.returns-clause-told
returns-clause-told g c t =
    c.loop-event.invariant.told t ∙ ap (λ events. g.E.Ends.calls c.args.ends.now ++ calls_of events) (at_end g c).1
