use Rattle.std.proofs.Common.{◌≡◌, ◌+◌, ap, sym, ◌∙◌, drop, get_or, subst, take, arith}
use Rattle.std.proofs.lemmas.List.{drop_all}
use Rattle.std.proofs.lemmas.List.Sums.{fold_more}
use Rattle.witness_plan.specs.Effects.{HasQueue, after_effect, after_effects, first_point, puts_in_front}
use Rattle.witness_plan.specs.declared.effects.Effect.TheVariants.{Take}
use Rattle.witness_plan.proofs.PointEffects.{fire_passed, other_passed}
use Rattle.witness_plan.proofs.points.pass_fire.Goals as goal

pub note_effect-requires : goal.note_effect-requires
note_effect-requires c =
    let i = c.loop-effect.effect-index in
    subst (λ queues. HasQueue queues (get_or c.args.effects.now i (Take 0))) (sym c.loop-effect.invariant.many)
    (c.requires i (Take 0) c.loop-effect-test.true)

pub returns-then-is_nothing-clause-point : goal.returns-then-is_nothing-clause-point
returns-then-is_nothing-clause-point c =
    let es = c.args.effects.now in
    let i = c.loop-effect.effect-index in
    let fire = fire_passed es i (Take 0) c.loop-effect-test.true (c.is_nothing.ensures.fire c.if-is_nothing.true) in
    let next : c.loop-effect.passed + 1 ≡ i + 1 = omega (arith, c.loop-effect.invariant.passed) in
    omega (arith, c.loop-effect.invariant.point, fire, next, ap (λ k. puts_in_front (drop k es)) next)

pub returns-then-is_nothing-clause-queues : goal.returns-then-is_nothing-clause-queues
returns-then-is_nothing-clause-queues c =
    let es = c.args.effects.now in
    let i = c.loop-effect.effect-index in
    let next : i + 1 ≡ c.loop-effect.passed + 1 = omega (arith, c.loop-effect.invariant.passed) in
    c.note_effect.ensures
    ∙ ap (λ queues. after_effect queues (get_or es i (Take 0))) c.loop-effect.invariant.queues
    ∙ sym (fold_more after_effect c.args.queues.now es i (Take 0) c.loop-effect-test.true)
    ∙ ap (λ k. after_effects c.args.queues.now (take k es)) next

pub loop-effect-preserved : goal.loop-effect-preserved
loop-effect-preserved c =
    let es = c.args.effects.now in
    let i = c.loop-effect.effect-index in
    let other = other_passed es i (Take 0) c.loop-effect-test.true (c.is_nothing.ensures.other c.if-is_nothing.false) in
    record {
      passed = omega (arith, c.loop-effect.invariant.passed);
      many = c.note_effect.auto.queues ∙ c.loop-effect.invariant.many;
      point = omega (arith, c.loop-effect.invariant.point, other);
      queues = c.note_effect.ensures
          ∙ ap (λ queues. after_effect queues (get_or es i (Take 0))) c.loop-effect.invariant.queues
          ∙ sym (fold_more after_effect c.args.queues.now es i (Take 0) c.loop-effect-test.true);
    }

pub returns-clause-point : goal.returns-clause-point
returns-clause-point c =
    let es = c.args.effects.now in
    let i = c.loop-effect.effect-index in
    let passed = c.loop-effect.invariant.passed in
    let none = ap first_point (drop_all i es (omega arith)) in
    let left = ap puts_in_front (drop_all c.loop-effect.passed es (omega (arith, passed))) in
    omega (arith, c.loop-effect.invariant.point, none, left, passed)

pub returns-clause-queues : goal.returns-clause-queues
returns-clause-queues c =
    c.loop-effect.invariant.queues
    ∙ ap (λ k. after_effects c.args.queues.now (take k c.args.effects.now)) (sym c.loop-effect.invariant.passed)
