use Rattle.sanlp.proofs.Outputs.{sinks_read_cells, sinks_give_arrays, arrays_are_sink_values}
use Rattle.sanlp.proofs.law.sinks_give_arrays.Goals as goal

pub returns-clause-cells : goal.returns-clause-cells
returns-clause-cells c = sinks_read_cells c.args.nest.now c.args.inputs.now

pub returns-clause-lists : goal.returns-clause-lists
returns-clause-lists c = sinks_give_arrays c.args.nest.now c.args.inputs.now

pub returns-clause-whole : goal.returns-clause-whole
returns-clause-whole c = arrays_are_sink_values c.args.nest.now c.args.inputs.now
