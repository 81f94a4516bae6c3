use Rattle.std.proofs.Common.{ap, ◌∙◌}
use Rattle.sanlp.specs.Meaning.{arrays_from}
use Rattle.sanlp.proofs.Outputs.{arrays_are_sink_values}
use Rattle.loop_run.proofs.run.interpret.Goals as goal

pub returns-clause-sinks : goal.returns-clause-sinks
returns-clause-sinks c =
    c.in_ok-output_arrays.ensures
    ∙ ap (λ m. arrays_from m 0 c.args.nest.now.arrays) c.in_ok-run_nest.ensures
    ∙ arrays_are_sink_values c.args.nest.now c.args.inputs.now
