use Rattle.std.proofs.Common.{◌≡◌, ◌⊎◌, ◌+◌, ◌-◌, Some, true, false, length, ap, sym, ◌∙◌, refl, inl, inr, arith}
use Rattle.std.proofs.lemmas.Option.{slice_get_read}
use Rattle.port_runs.specs.Ports.{are_dependent, is_due}
use Rattle.port_sim.specs.declared.window.Pending.{Pending}
use Rattle.port_sim.proofs.DueWindows.{due_passed, due_start, due_stop}
use Rattle.port_sim.proofs.window.is_due.Goals.{else-not-other-via-then-not-other+else-are_dependent}
use Rattle.port_sim.proofs.window.is_due.Goals.{else-not-other-via-else-not-other}
use Rattle.port_sim.proofs.window.is_due.Goals as goal

pub loop-passed-init : goal.loop-passed-init
loop-passed-init c =
    λ script has_come first x before here found.
    let same : c.args.at - 0 ≡ c.args.at = omega arith in
    ap (λ k. is_due script has_come x.event (first + k)) same

pub returns-then-are_dependent : goal.returns-then-are_dependent
returns-then-are_dependent c =
    λ script has_come first x before here found.
    let events = c.args.events.now in
    let at = c.args.at in
    let j = at - 1 - c.loop-passed.passed in
    let other = c.index-events-earlier.result in
    let inside = c.requires.at in
    let read =
    slice_get_read events (length events) j other refl (omega (arith, inside, c.loop-passed-test.true))
    c.index-events-earlier.is in
    let mine =
    slice_get_read events (length events) at c.index-events-at.result refl inside c.index-events-at.is in
    let both : Some c.index-events-at.result ≡ Some x = sym mine ∙ found in
    let same : c.index-events-at.result ≡ x = cc in
    sym (due_stop events script has_come first x before here j at other (omega (arith, c.loop-passed-test.true)) read
    c.if-not-other.true
    (ap (λ (y : Pending). are_dependent y.event other.event) (sym same ∙ c.index-events-at.is)
    ∙ sym c.are_dependent.ensures
    ∙ c.if-are_dependent.true))

pub loop-passed-preserved : goal.loop-passed-preserved
loop-passed-preserved c =
    λ script has_come first x before here found.
    let events = c.args.events.now in
    let at = c.args.at in
    let passed = c.loop-passed.passed in
    let j = at - 1 - passed in
    let other = c.index-events-earlier.result in
    let inside = c.requires.at in
    let read =
    slice_get_read events (length events) j other refl (omega (arith, inside, c.loop-passed-test.true))
    c.index-events-earlier.is in
    let free : (other.has_come ≡ true) ⊎ (are_dependent x.event other.event ≡ false) =
    elim c.else-not-other.branch [
      | else-not-other-via-then-not-other+else-are_dependent w ↦
          let mine =
          slice_get_read events (length events) at w.index-events-at.result refl inside w.index-events-at.is in
          let both : Some w.index-events-at.result ≡ Some x = sym mine ∙ found in
          let same : w.index-events-at.result ≡ x = cc in
          inr (ap (λ (y : Pending). are_dependent y.event other.event) (sym same ∙ w.index-events-at.is)
          ∙ sym w.are_dependent.ensures
          ∙ w.if-are_dependent.false)
      | else-not-other-via-else-not-other w ↦ inl w.if-not-other.false
    ] in
    let here_is : j + 1 ≡ at - passed = omega (arith, c.loop-passed-test.true) in
    let next_is : at - (passed + 1) ≡ j = omega arith in
    ap (λ k. is_due script has_come x.event (first + k)) next_is
    ∙ sym (due_passed events script has_come first x before here j other read free)
    ∙ ap (λ k. is_due script has_come x.event (first + k)) here_is
    ∙ c.loop-passed.invariant script has_come first x before here found

pub returns : goal.returns
returns c =
    λ script has_come first x before here found.
    let none : 0 ≡ c.args.at - c.loop-passed.passed = omega (arith, c.loop-passed-test.false) in
    sym (due_start c.args.events.now script has_come first x before here)
    ∙ ap (λ k. is_due script has_come x.event (first + k)) none
    ∙ c.loop-passed.invariant script has_come first x before here found
