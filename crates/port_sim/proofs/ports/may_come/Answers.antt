use Rattle.std.proofs.Common.{List, length, slice_get, ap, sym, ◌∙◌, refl}
use Rattle.std.proofs.lemmas.Option.{slice_get_read}
use Rattle.net_core.specs.Machine.{net_of}
use Rattle.port_sim.specs.declared.window.Pending.{Pending}
use Rattle.port_sim.proofs.MayWindows.{may_if_can, may_not_yet, window_here}
use Rattle.port_sim.proofs.ports.may_come.Goals as goal

pub returns-then-not-is_due : goal.returns-then-not-is_due
returns-then-not-is_due c =
    λ s p queues is.
    let n = net_of c.args.network.now in
    let w = c.args.window.now in
    let x = c.index.result.now in
    let at = c.args.at in
    let read = slice_get_read w.events.items (length w.events.items) at x refl c.requires.at c.index.ensures in
    let list = c.deref.ensures.value in
    let due =
    c.is_due.ensures (n.script p) (s.has_come p) w.first x is.before
    (λ i y found. window_here n s p w is i y (ap (λ (l : List Pending). slice_get l i) (sym list) ∙ found))
    (ap (λ (l : List Pending). slice_get l at) list ∙ read) in
    sym (may_not_yet n s p w is at x read (sym due ∙ c.if-not-is_due.true))

pub can_come-requires-clause-channel : goal.can_come-requires-clause-channel
can_come-requires-clause-channel c =
    let w = c.args.window.now in
    let x = c.index.result.now in
    c.requires.channel x
    (slice_get_read w.events.items (length w.events.items) c.args.at x refl c.requires.at c.index.ensures)

pub returns : goal.returns
returns c =
    λ s p queues is.
    let n = net_of c.args.network.now in
    let w = c.args.window.now in
    let x = c.index.result.now in
    let at = c.args.at in
    let read = slice_get_read w.events.items (length w.events.items) at x refl c.requires.at c.index.ensures in
    let list = c.deref.ensures.value in
    let due =
    c.is_due.ensures (n.script p) (s.has_come p) w.first x is.before
    (λ i y found. window_here n s p w is i y (ap (λ (l : List Pending). slice_get l i) (sym list) ∙ found))
    (ap (λ (l : List Pending). slice_get l at) list ∙ read) in
    c.can_come.ensures s queues
    ∙ sym (may_if_can n s p w is at x read c.if-pending.false (sym due ∙ c.if-not-is_due.false))
