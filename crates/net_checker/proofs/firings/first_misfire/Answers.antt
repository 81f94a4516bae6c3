use Rattle.std.proofs.Common.{ℤ, List, Some, length, slice_get, sym, ap, ◌∙◌, arith, below_more}
use Rattle.script_blocks.proofs.Loops.{had_all, had_more, next_inside, next_item, one_longer}
use Rattle.net_core.specs.Machine.{net_of}
use Rattle.net_core.specs.Shape.{turns}
use Rattle.net_checker.specs.declared.verdict.Refusal.TheVariants.{Fires}
use Rattle.net_checker.proofs.FirstFault.{event_fine, place_wrong, few_fires, enough_fires, fired_yes, fired_no, fired_all}
use Rattle.net_checker.proofs.firings.first_misfire.Goals as goal
use Rattle.net_checker.proofs.firings.first_misfire.Goals.{then-is_fire, else-is_fire}

pub loop-event-init : goal.loop-event-init
loop-event-init c = record {
  whole = c.into_iter-event-iterator.ensures.into_iter_gives ∙ c.iter-event-items.ensures.items ∙ c.script_of.ensures;
  place = omega arith;
  fired = omega arith;
  fine = λ k lt. absurd (omega arith);
}

pub returns-then-not-may_stand : goal.returns-then-not-may_stand
returns-then-not-may_stand c =
    let candidate = c.args.candidate.now in
    let net = net_of candidate.network.now in
    let p = c.args.process in
    let script = net.script p in
    let h = c.loop-event.invariant in
    let e = c.in-Some.event in
    let lt =
    next_inside script c.loop-event.yielded c.loop-event.event-iterator h.whole e c.next.new.self
    c.in-Some.ensures.steps in
    let is =
    ap (slice_get script) h.place
    ∙ next_item script c.loop-event.yielded c.loop-event.event-iterator h.whole e c.next.new.self
    c.in-Some.ensures.steps in
    place_wrong candidate.nest.now net p c.loop-event.place c.loop-event.fired e (omega (arith, lt, h.place)) is h.fired
    (sym c.may_stand.ensures ∙ c.if-not-may_stand.true) h.fine

pub loop-event-preserved : goal.loop-event-preserved
loop-event-preserved c =
    let candidate = c.args.candidate.now in
    let net = net_of candidate.network.now in
    let p = c.args.process in
    let script = net.script p in
    let h = c.loop-event.invariant in
    let k = c.loop-event.place in
    let e = c.in-Some.event in
    let is =
    ap (slice_get script) h.place
    ∙ next_item script c.loop-event.yielded c.loop-event.event-iterator h.whole e c.next.new.self
    c.in-Some.ensures.steps in
    record {
      whole = had_more script c.loop-event.yielded c.loop-event.event-iterator h.whole e c.next.new.self
          c.in-Some.ensures.steps;
      place = omega (arith, h.place, one_longer c.loop-event.yielded e);
      fired = elim c.if-is_fire.branch [
        | then-is_fire w ↦ fired_yes net p k e c.loop-event.fired c.if-is_fire.fired is h.fired
            (sym c.is_fire.ensures ∙ w.if-is_fire.true) w.fired-is
        | else-is_fire w ↦ fired_no net p k e c.loop-event.fired c.if-is_fire.fired is h.fired
            (sym c.is_fire.ensures ∙ w.if-is_fire.false) w.fired-is
      ];
      fine = below_more _ _ h.fine
          (event_fine candidate.nest.now net p k c.loop-event.fired (slice_get script k) e is h.fired
          (sym c.may_stand.ensures ∙ c.if-not-may_stand.false));
    }

pub returns-then-fired-turns_of : goal.returns-then-fired-turns_of
returns-then-fired-turns_of c =
    let candidate = c.args.candidate.now in
    let net = net_of candidate.network.now in
    let p = c.args.process in
    let h = c.loop-event.invariant in
    let all =
    had_all (net.script p) c.loop-event.yielded c.loop-event.event-iterator h.whole c.in-None.ensures.steps.0 in
    let many = sym (h.place ∙ ap length all) in
    let fired = fired_all net p c.loop-event.place c.loop-event.fired many h.fired in
    ap (λ k. Some (Fires p k)) (sym many)
    ∙ few_fires candidate.nest.now net p (λ j lt. h.fine j (omega (arith, many)))
    (omega (
      arith,
      fired,
      c.turns_of.ensures
          ∙ ap (λ (points : List (List (List ℤ))). turns points p) candidate.points_of_nest,
    ))

pub returns : goal.returns
returns c =
    let candidate = c.args.candidate.now in
    let net = net_of candidate.network.now in
    let p = c.args.process in
    let h = c.loop-event.invariant in
    let all =
    had_all (net.script p) c.loop-event.yielded c.loop-event.event-iterator h.whole c.in-None.ensures.steps.0 in
    let many = sym (h.place ∙ ap length all) in
    let fired = fired_all net p c.loop-event.place c.loop-event.fired many h.fired in
    enough_fires candidate.nest.now net p (λ j lt. h.fine j (omega (arith, many)))
    (omega (
      arith,
      fired,
      c.turns_of.ensures
          ∙ ap (λ (points : List (List (List ℤ))). turns points p) candidate.points_of_nest,
    ))
