use Rattle.std.proofs.Common.{length, sym, ◌∙◌, refl}
use Rattle.std.proofs.lemmas.Option.{slice_get_read}
use Rattle.net_core.specs.Machine.{net_of}
use Rattle.port_sim.specs.Windows.{is_of_kind}
use Rattle.port_sim.proofs.MayWindows.{comes_if_may, comes_no_chance, comes_no_kind}
use Rattle.port_sim.proofs.ports.comes.Goals as goal

pub returns-then-not-is_of_kind : goal.returns-then-not-is_of_kind
returns-then-not-is_of_kind c =
    λ clock s p before queues is.
    let n = net_of c.args.network.now in
    let w = c.args.window.now in
    let x = c.index.result.now in
    let read = slice_get_read w.events.items (length w.events.items) c.args.at x refl c.requires.at c.index.ensures in
    sym (comes_no_kind n s p w is c.args.at x read (is_of_kind c.args.kind) clock
    (sym c.is_of_kind.ensures ∙ c.if-not-is_of_kind.true))

pub can_come-requires-clause-channel : goal.can_come-requires-clause-channel
can_come-requires-clause-channel c =
    let w = c.args.window.now in
    let x = c.index.result.now in
    c.requires.channel x
    (slice_get_read w.events.items (length w.events.items) c.args.at x refl c.requires.at c.index.ensures)

pub returns-then-not-can_come : goal.returns-then-not-can_come
returns-then-not-can_come c =
    λ clock s p before queues is.
    let n = net_of c.args.network.now in
    let w = c.args.window.now in
    let x = c.index.result.now in
    let read = slice_get_read w.events.items (length w.events.items) c.args.at x refl c.requires.at c.index.ensures in
    sym (comes_no_chance n s p w is c.args.at x read (is_of_kind c.args.kind) clock
    (sym (c.can_come.ensures clock before) ∙ c.if-not-can_come.true))

pub returns : goal.returns
returns c =
    λ clock s p before queues is.
    let n = net_of c.args.network.now in
    let w = c.args.window.now in
    let x = c.index.result.now in
    let read = slice_get_read w.events.items (length w.events.items) c.args.at x refl c.requires.at c.index.ensures in
    c.may_come.ensures s p queues is
    ∙ sym (comes_if_may n s p w is c.args.at x read (is_of_kind c.args.kind) clock
    (sym c.is_of_kind.ensures ∙ c.if-not-is_of_kind.false)
    (sym (c.can_come.ensures clock before) ∙ c.if-not-can_come.false))
