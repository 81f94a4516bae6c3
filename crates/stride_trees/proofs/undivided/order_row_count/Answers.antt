use Rattle.std.proofs.Common.{arith}
use Rattle.stride_trees.proofs.TestNodes.{room}
use Rattle.stride_trees.proofs.undivided.order_row_count.Goals as goal

pub overflow_cast-level : goal.overflow_cast-level
overflow_cast-level c = omega (arith, (room c.args.s.now c.requires).level)

pub overflow_mul-level : goal.overflow_mul-level
overflow_mul-level c = omega (arith, (room c.args.s.now c.requires).level)

pub overflow_add-result : goal.overflow_add-result
overflow_add-result c = omega (arith, (room c.args.s.now c.requires).level)

pub returns-then-s-clause-few : goal.returns-then-s-clause-few
returns-then-s-clause-few c = omega (arith, (room c.args.s.now c.requires).level)

pub returns-else-s-clause-few : goal.returns-else-s-clause-few
returns-else-s-clause-few c = omega (arith, (room c.args.s.now c.requires).level)
