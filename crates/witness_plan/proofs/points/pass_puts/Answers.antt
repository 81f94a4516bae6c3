use Rattle.std.proofs.Common.{ap, sym, ◌∙◌, get_or, subst, take, arith}
use Rattle.std.proofs.lemmas.List.{drop_all}
use Rattle.std.proofs.lemmas.List.Sums.{fold_more}
use Rattle.witness_plan.specs.Effects.{HasQueue, after_effect, after_effects, puts_in_front}
use Rattle.witness_plan.specs.declared.effects.Effect.TheVariants.{Take}
use Rattle.witness_plan.proofs.PointEffects.{no_put_there, put_passed}
use Rattle.witness_plan.proofs.points.pass_puts.Goals as goal

pub returns-then-not-is_append-clause-puts : goal.returns-then-not-is_append-clause-puts
returns-then-not-is_append-clause-puts c =
    let none = no_put_there c.args.effects.now c.loop-effect.effect-index (Take 0) c.loop-effect-test.true
    (c.is_append.ensures.other c.if-not-is_append.true) in
    omega (arith, c.loop-effect.invariant.puts, none, c.loop-effect.invariant.passed)

pub returns-then-not-is_append-clause-queues : goal.returns-then-not-is_append-clause-queues
returns-then-not-is_append-clause-queues c =
    c.loop-effect.invariant.queues
    ∙ ap (λ k. after_effects c.args.queues.now (take k c.args.effects.now)) (sym c.loop-effect.invariant.passed)

pub note_effect-requires : goal.note_effect-requires
note_effect-requires c =
    let i = c.loop-effect.effect-index in
    subst (λ queues. HasQueue queues (get_or c.args.effects.now i (Take 0))) (sym c.loop-effect.invariant.many)
    (c.requires i (Take 0) c.loop-effect-test.true)

pub loop-effect-preserved : goal.loop-effect-preserved
loop-effect-preserved c =
    let es = c.args.effects.now in
    let i = c.loop-effect.effect-index in
    let is = c.is_append.ensures.put c.if-not-is_append.false in
    let put = put_passed es i (Take 0) c.loop-effect-test.true is.0 is.1 in
    record {
      passed = omega (arith, c.loop-effect.invariant.passed);
      many = c.note_effect.auto.queues ∙ c.loop-effect.invariant.many;
      puts = omega (arith, c.loop-effect.invariant.puts, put);
      queues = c.note_effect.ensures
          ∙ ap (λ queues. after_effect queues (get_or es i (Take 0))) c.loop-effect.invariant.queues
          ∙ sym (fold_more after_effect c.args.queues.now es i (Take 0) c.loop-effect-test.true);
    }

pub returns-clause-puts : goal.returns-clause-puts
returns-clause-puts c =
    let none = ap puts_in_front (drop_all c.loop-effect.effect-index c.args.effects.now (omega arith)) in
    omega (arith, c.loop-effect.invariant.puts, none, c.loop-effect.invariant.passed)

pub returns-clause-queues : goal.returns-clause-queues
returns-clause-queues c =
    c.loop-effect.invariant.queues
    ∙ ap (λ k. after_effects c.args.queues.now (take k c.args.effects.now)) (sym c.loop-effect.invariant.passed)
