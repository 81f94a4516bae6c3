use Rattle.std.proofs.Common.{◌≡◌, ◌+◌, add-one, ap, ap₂, ◌∙◌, drop, length, subst, sym, take, arith}
use Rattle.std.specs.List.{All}
use Rattle.std.proofs.lemmas.List.{length-drop}
use Rattle.std.proofs.lemmas.List.Elements.{All-drop}
use Rattle.witness_plan.specs.Effects.{HasQueue, after_effects, first_point, first_points}
use Rattle.witness_plan.proofs.PointEffects.{passed_further}
use Rattle.witness_plan.proofs.points.pass_points.Goals as goal

pub pass_point-passed-requires : goal.pass_point-passed-requires
pass_point-passed-requires c =
    let queues = length c.args.queues.now in
    subst (λ n. All (HasQueue n) c.behind.result.now) (sym c.loop.invariant.many)
    (subst (All (HasQueue queues)) (sym c.behind.ensures)
    (All-drop (HasQueue queues) c.loop.passed c.args.effects.now c.requires))

pub overflow_add-passed : goal.overflow_add-passed
overflow_add-passed c =
    omega (
      arith,
      c.pass_point-passed.ensures.within,
      ap length c.behind.ensures,
      length-drop c.loop.passed c.args.effects.now,
      c.loop.invariant.within,
    )

pub loop-preserved : goal.loop-preserved
loop-preserved c =
    let es = c.args.effects.now in
    let here : c.pass_point-passed.result ≡ first_point (drop c.loop.passed es) =
    c.pass_point-passed.ensures.point ∙ ap first_point c.behind.ensures in
    record {
      within = omega (
        arith,
        c.pass_point-passed.ensures.within,
        ap length c.behind.ensures,
        length-drop c.loop.passed es,
        c.loop.invariant.within,
      );
      many = c.pass_point-passed.auto.queues ∙ c.loop.invariant.many;
      points = ap₂ (λ a b. a + b) c.loop.invariant.points
          (here ∙ ap (λ k. first_point (drop k es)) c.loop.invariant.points)
          ∙ ap (λ n. first_points n es) (sym (add-one c.loop.counter));
      queues = c.pass_point-passed.ensures.queues
          ∙ ap (λ xs. after_effects c.loop.queues (take c.pass_point-passed.result xs)) c.behind.ensures
          ∙ ap (λ queues. after_effects queues (take c.pass_point-passed.result (drop c.loop.passed es))) c.loop.invariant.queues
          ∙ passed_further c.args.queues.now c.loop.passed c.pass_point-passed.result es;
    }

pub returns-clause-points : goal.returns-clause-points
returns-clause-points c =
    let all : c.loop.counter ≡ c.args.count = omega arith in
    c.loop.invariant.points ∙ ap (λ n. first_points n c.args.effects.now) all
