use Rattle.std.proofs.Common.{◌≡◌, false, [], ◌∷◌, ◌++◌, Some, List, drop, length, map, slice_get, ap, sym, subst}
use Rattle.std.proofs.Common.{◌∙◌, refl, inl, inr, arith, length-append}
use Rattle.std.proofs.lemmas.Option.{slice_get_read}
use Rattle.net_core.specs.declared.network.Event.{Event}
use Rattle.net_core.specs.declared.network.Process.{Process}
use Rattle.port_sim.specs.declared.window.Pending.{Pending}
use Rattle.port_sim.specs.declared.window.Window.{Window}
use Rattle.port_sim.specs.Windows.{IsWindow, round, waiting}
use Rattle.port_sim.proofs.WindowEvents.{first_window}
use Rattle.port_sim.proofs.ports.first_windows.Goals as goal
use Rattle.plain_data.proofs.Lists.{slice_get_push-cases}

pub loop-process-preserved : goal.loop-process-preserved
loop-process-preserved c =
    let i = c.loop-process.process-index in
    let old = c.loop-process.windows.items in
    let processes = c.args.processes.now in
    let item = c.process-item.result in
    let w : Window = record { first = 0; events = c.take_round.new.events; rest = c.take_round.new.rest } in
    let there : slice_get processes i ≡ Some item =
    slice_get_read processes (length processes) i item refl c.loop-process-test.true c.process-item.is in
    let script : c.in_ok-rest.rest ≡ item.script = c.in_ok-rest.ensures in
    let new : IsWindow item.script (λ k. false) w =
    first_window item.script w refl
    (c.in_ok-take_round.ensures.events
    ∙ ap (λ (l : List Pending). l ++ map waiting (round c.in_ok-rest.rest)) c.new-events.ensures.items
    ∙ ap (λ (l : List Event). map waiting (round l)) script)
    (c.in_ok-take_round.ensures.rest ∙ ap (λ (l : List Event). drop (length (round l)) l) script) in
    record {
      number = omega (
        arith,
        ap length c.in_ok-push.ensures.items,
        length-append old (w ∷ []),
        c.loop-process.invariant.number,
      );
      each = λ p u process read found.
          elim (slice_get_push-cases old w p u
          (ap (λ (l : List Window). slice_get l p) (sym c.in_ok-push.ensures.items) ∙ read)) [
            | inl before ↦ c.loop-process.invariant.each p u process before found
            | inr last ↦
                let same : p ≡ i = last.0 ∙ c.loop-process.invariant.number in
                let both : Some process ≡ Some item = sym found ∙ ap (slice_get processes) same ∙ there in
                let this : process ≡ item = cc in
                subst (λ (r : Process). IsWindow r.script (λ k. false) u) (sym this)
                (subst (λ (x : Window). IsWindow item.script (λ k. false) x) last.1 new)
          ];
    }
