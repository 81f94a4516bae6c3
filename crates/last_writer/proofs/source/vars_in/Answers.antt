use Rattle.std.proofs.Common.{arith}
use Rattle.last_writer.proofs.JointTrees.{few_loops}
use Rattle.last_writer.proofs.source.vars_in.Goals as goal

pub overflow_add-result : goal.overflow_add-result
overflow_add-result c = omega (arith, few_loops c.args.w.now c.requires, c.requires.few)
