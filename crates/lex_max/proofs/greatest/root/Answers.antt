use Rattle.std.proofs.Common.{arith}
use Rattle.tree_graphs.proofs.ProblemBounds.{writes_fit}
use Rattle.lex_max.proofs.greatest.root.Goals as goal

pub overflow_cast-vars : goal.overflow_cast-vars
overflow_cast-vars c = omega (arith, (writes_fit c.args.w.now).few_vars)
