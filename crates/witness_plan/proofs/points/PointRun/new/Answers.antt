use Rattle.std.proofs.Common.{◌∙◌, ap, replicate, map}
use Rattle.net_core.specs.declared.network.Process.{Process}
use Rattle.witness_plan.specs.Effects.{effect_of, no_totals}
use Rattle.witness_plan.proofs.PointRunLemmas.{run_first}
use Rattle.witness_plan.proofs.points.PointRun.new.Goals as goal

pub returns-clause-run : goal.returns-clause-run
returns-clause-run c =
    run_first c.args.network.now c.requires.wired c.requires.numbers _ c.in_ok-schedule.ensures.items
    (c.in_ok-effects.ensures
    ∙ ap (map (λ (process : Process). map effect_of process.script)) c.as_slice.ensures)
    (c.in_ok-positions.ensures.items_if_clones_equal (λ y h. h) ∙ ap (λ k. replicate k 0) c.len.ensures)
    (c.in_ok-queues.ensures.items_if_clones_equal (λ y h. h) ∙ ap (λ k. replicate k no_totals) c.len-2.ensures)
