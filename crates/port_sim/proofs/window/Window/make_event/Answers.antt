use Rattle.std.proofs.Common.{◌≡◌, ◌+◌, ◌-◌, ◌++◌, Some, List, true, length, map, slice_get, slice_set, ap, sym, ◌∙◌, refl}
use Rattle.std.proofs.Common.{arith}
use Rattle.std.proofs.lemmas.Option.{slice_get_read}
use Rattle.port_runs.specs.Ports.{is_due}
use Rattle.port_sim.specs.declared.window.Pending.{Pending}
use Rattle.port_sim.specs.declared.window.Window.{Window}
use Rattle.port_sim.specs.Windows.{round, waiting}
use Rattle.port_sim.proofs.Rounds.{event_here}
use Rattle.port_sim.proofs.WindowEvents.{after_fire, after_other}
use Rattle.port_sim.proofs.window.Window.make_event.Goals.{then-is_of_kind+in_ok-take_round, else-is_of_kind}
use Rattle.port_sim.proofs.window.Window.make_event.Goals as goal

pub returns : goal.returns
returns c =
    λ script has_come e is found new due.
    let w = c.args.self.now in
    let place = c.args.place in
    let at = place - w.first in
    let x = c.index.result.now in
    let low = c.requires.first in
    let high = c.requires.within in
    let read : slice_get w.events.items at ≡ Some x =
    slice_get_read w.events.items (length w.events.items) at x refl (omega arith) c.index.ensures in
    let here : w.first + at ≡ place = omega arith in
    let this : slice_get script place ≡ Some x.event =
    ap (slice_get script) (sym here) ∙ event_here script has_come w is at x read in
    let both : Some x.event ≡ Some e = sym this ∙ found in
    let same : x.event ≡ e = cc in
    let due' : is_due script has_come x.event place ≡ true = ap (λ f. is_due script has_come f place) same ∙ due in (
      same,
      elim c.if-is_of_kind.branch [
        | then-is_of_kind+in_ok-take_round v ↦
            after_fire script has_come w c.if-is_of_kind.self at place x is read here new
            (sym c.is_of_kind.ensures ∙ v.if-is_of_kind.true) due'
            (ap (λ (u : Window). u.first) v.self-is
            ∙ ap (λ m. w.first + m)
            (let many : v.len.result ≡ length w.events.items = omega (arith, v.len.ensures, w.events.ok.0) in many))
            (ap (λ (u : Window). u.events.items) v.self-is ∙ v.in_ok-take_round.ensures.events
            ∙ ap (λ (l : List Pending). l ++ map waiting (round w.rest)) v.clear.ensures.items)
            (ap (λ (u : Window). u.rest) v.self-is ∙ v.in_ok-take_round.ensures.rest)
        | else-is_of_kind v ↦
            let again : slice_get w.events.items at ≡ Some v.index_mut.result.now =
            slice_get_read w.events.items (length w.events.items) at v.index_mut.result.now refl (omega arith)
            v.index_mut.ensures.value in
            let two : Some v.index_mut.result.now ≡ Some x = sym again ∙ read in
            let one : v.index_mut.result.now ≡ x = cc in
            after_other script has_come w c.if-is_of_kind.self at place x is read here new
            (sym c.is_of_kind.ensures ∙ v.if-is_of_kind.false) (ap (λ (u : Window). u.first) v.self-is)
            (ap (λ (u : Window). u.events.items) v.self-is
            ∙ ap (λ (y : Pending). slice_set w.events.items at (record { event = y.event; has_come = true })) one)
            (ap (λ (u : Window). u.rest) v.self-is)
      ],
    )
