use Rattle.std.proofs.Common.{arith}
use Rattle.tree_graphs.proofs.ProblemBounds.{few_common}
use Rattle.lex_max.proofs.LeafProofs.{after_few, after_more, at_last, below_last}
use Rattle.lex_max.proofs.leaf.after_count.Goals as goal

pub overflow_add-result : goal.overflow_add-result
overflow_add-result c = omega (arith, few_common c.args.w.now)

pub returns-then-w-clause-few : goal.returns-then-w-clause-few
returns-then-w-clause-few c = omega (arith, few_common c.args.w.now)

pub returns-else-w-clause-few : goal.returns-else-w-clause-few
returns-else-w-clause-few c = omega (arith, few_common c.args.w.now)

pub returns-then-w-clause-levels : goal.returns-then-w-clause-levels
returns-then-w-clause-levels c l lt = at_last c.args.w.now l lt c.if-w.true

pub returns-then-w-clause-all : goal.returns-then-w-clause-all
returns-then-w-clause-all c place = after_more c.args.w.now place c.args.w.now.loops

pub returns-else-w-clause-levels : goal.returns-else-w-clause-levels
returns-else-w-clause-levels c l lt = below_last c.args.w.now l lt

pub returns-else-w-clause-all : goal.returns-else-w-clause-all
returns-else-w-clause-all c place = after_few c.args.w.now place c.args.w.now.loops c.if-w.false
