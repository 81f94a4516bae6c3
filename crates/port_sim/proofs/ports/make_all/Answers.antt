use Rattle.std.proofs.Common.{get_or, sym, subst}
use Rattle.std.proofs.lemmas.Option.{slice_get-get_or}
use Rattle.sanlp.specs.declared.nest.Tag.{Tag}
use Rattle.net_core.specs.Machine.{net_of}
use Rattle.port_runs.specs.Ports.{PortState}
use Rattle.port_sim.specs.declared.ports.EventIndex.{EventIndex}
use Rattle.port_sim.specs.Windows.{IsAt}
use Rattle.port_sim.proofs.RunLists.{after_first, after_more, may_next}
use Rattle.port_sim.proofs.ports.make_all.Goals as goal

pub make_event-requires : goal.make_event-requires
make_event-requires c =
    let n = net_of c.args.network.now in
    let list = c.args.list.now in
    let i = c.loop-at.at-index in
    let none : EventIndex = record { process = 0; place = 0 } in
    let read = slice_get-get_or list i none c.loop-at-test.true in
    let s = c.requires.0 in (
      after_first n s list i,
      c.loop-at.invariant s c.requires.1 c.requires.2,
      may_next n list i s (get_or list i none) c.requires.2 read,
    )

pub loop-at-preserved : goal.loop-at-preserved
loop-at-preserved c =
    λ s at run.
    let n = net_of c.args.network.now in
    let list = c.args.list.now in
    let i = c.loop-at.at-index in
    let none : EventIndex = record { process = 0; place = 0 } in
    let item = get_or list i none in
    let read = slice_get-get_or list i none c.loop-at-test.true in
    subst (λ (t : PortState Tag). IsAt n t c.make_event.new.ports) (sym (after_more n list i s item read))
    (c.in_ok-make_event.ensures (after_first n s list i) (c.loop-at.invariant s at run)
    (may_next n list i s item run read))
