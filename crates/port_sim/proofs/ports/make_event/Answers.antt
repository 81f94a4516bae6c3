use Rattle.std.proofs.Common.{List, ℕ, drop, length, ap, sym, subst, ◌∙◌, refl, arith}
use Rattle.std.proofs.lemmas.List.{take_at}
use Rattle.net_core.specs.Machine.{net_of}
use Rattle.port_runs.proofs.PortSteps.{coming}
use Rattle.port_sim.specs.Windows.{CanCount, queued_after}
use Rattle.port_sim.proofs.PortsHeld.{at_next, can_count, read_window}
use Rattle.port_sim.proofs.ports.make_event.Goals as goal

pub make_event-requires-clause-first : goal.make_event-requires-clause-first
make_event-requires-clause-first c =
    let n = net_of c.args.network.now in
    let co = coming n c.requires.0 c.args.process c.args.place c.requires.2 in
    (read_window n c.requires.0 c.args.ports.now c.requires.1 c.args.process c.args.place co c.index_mut.result.now
    c.index_mut.ensures.value).first

pub make_event-requires-clause-within : goal.make_event-requires-clause-within
make_event-requires-clause-within c =
    let n = net_of c.args.network.now in
    let co = coming n c.requires.0 c.args.process c.args.place c.requires.2 in
    (read_window n c.requires.0 c.args.ports.now c.requires.1 c.args.process c.args.place co c.index_mut.result.now
    c.index_mut.ensures.value).within

pub make_event-requires-clause-small : goal.make_event-requires-clause-small
make_event-requires-clause-small c =
    let n = net_of c.args.network.now in
    let co = coming n c.requires.0 c.args.process c.args.place c.requires.2 in
    (read_window n c.requires.0 c.args.ports.now c.requires.1 c.args.process c.args.place co c.index_mut.result.now
    c.index_mut.ensures.value).small

pub count_token-requires : goal.count_token-requires
count_token-requires c =
    let n = net_of c.args.network.now in
    let ports = c.args.ports.now in
    let s = c.requires.0 in
    let p = c.args.process in
    let k = c.args.place in
    let co = coming n s p k c.requires.2 in
    let w = c.index_mut.result.now in
    let read = read_window n s ports c.requires.1 p k co w c.index_mut.ensures.value in
    let made =
    c.in_ok-event.ensures (n.script p) (s.has_come p) co.event (c.requires.1.windows p w read.held) co.is co.new co.due in
    subst (λ (l : List ℕ). CanCount l c.in_ok-event.event) (sym c.deref_mut.ensures.value)
    (subst (CanCount ports.queued.items) (sym made.0) (can_count n s ports c.requires.1 p k co))

pub returns : goal.returns
returns c =
    λ s at may.
    let n = net_of c.args.network.now in
    let ports = c.args.ports.now in
    let p = c.args.process in
    let k = c.args.place in
    let co = coming n s p k may in
    let w = c.index_mut.result.now in
    let held = (read_window n s ports at p k co w c.index_mut.ensures.value).held in
    let made = c.in_ok-event.ensures (n.script p) (s.has_come p) co.event (at.windows p w held) co.is co.new co.due in
    at_next n s ports at p k co _ w c.make_event.new.self held refl made.1
    (take_at c.count_token.new.queued (drop (length c.count_token.new.queued) ports.queued.items) ports.queued.len
    (omega (arith, c.count_token.auto.queued, c.deref_mut.ensures.len, ports.queued.ok.0))
    ∙ c.count_token.ensures
    ∙ ap (λ (l : List ℕ). queued_after l c.in_ok-event.event) c.deref_mut.ensures.value
    ∙ ap (queued_after ports.queued.items) made.0)
