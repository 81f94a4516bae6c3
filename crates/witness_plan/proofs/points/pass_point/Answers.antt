use Rattle.std.proofs.Common.{ap, ◌∙◌, drop, length, subst, sym, take, arith}
use Rattle.std.specs.List.{All}
use Rattle.std.proofs.lemmas.List.{length-drop}
use Rattle.std.proofs.lemmas.List.Elements.{All-drop}
use Rattle.witness_plan.specs.Effects.{HasQueue, after_effects, puts_in_front}
use Rattle.witness_plan.proofs.PointEffects.{passed_further}
use Rattle.witness_plan.proofs.points.pass_point.Goals as goal

pub pass_puts-puts-requires : goal.pass_puts-puts-requires
pass_puts-puts-requires c =
    let queues = length c.args.queues.now in
    subst (λ n. All (HasQueue n) c.behind.result.now) (sym c.pass_fire-fired.auto.queues)
    (subst (All (HasQueue queues)) (sym c.behind.ensures)
    (All-drop (HasQueue queues) c.pass_fire-fired.result c.args.effects.now c.requires))

pub returns-clause-within : goal.returns-clause-within
returns-clause-within c =
    omega (
      arith,
      c.pass_fire-fired.ensures.within,
      c.pass_puts-puts.ensures.within,
      ap length c.behind.ensures,
      length-drop c.pass_fire-fired.result c.args.effects.now,
    )

pub returns-clause-point : goal.returns-clause-point
returns-clause-point c =
    omega (
      arith,
      c.pass_fire-fired.ensures.point,
      c.pass_puts-puts.ensures.puts,
      ap puts_in_front c.behind.ensures,
    )

pub returns-clause-queues : goal.returns-clause-queues
returns-clause-queues c =
    let puts = c.pass_puts-puts.result in
    c.pass_puts-puts.ensures.queues
    ∙ ap (λ es. after_effects c.pass_fire-fired.new.queues (take puts es)) c.behind.ensures
    ∙ ap (λ queues. after_effects queues (take puts (drop c.pass_fire-fired.result c.args.effects.now))) c.pass_fire-fired.ensures.queues
    ∙ passed_further c.args.queues.now c.pass_fire-fired.result puts c.args.effects.now
