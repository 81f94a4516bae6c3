use Rattle.std.proofs.Common.{length, ap, arith}
use Rattle.tree_cuts.specs.Sources.{loop_of}
use Rattle.stride_trees.proofs.QuotientProblem.{alone_other}
use Rattle.stride_trees.proofs.problem.lone_loop.Goals as goal

pub variable-requires-clause-within : goal.variable-requires-clause-within
variable-requires-clause-within c =
    omega (
      arith,
      c.loop_of.ensures.value,
      ap loop_of c.as_slice-coefs.ensures.value,
      ap length c.as_slice-coefs.ensures.value,
      alone_other c.args.write.now c.requires,
    )
