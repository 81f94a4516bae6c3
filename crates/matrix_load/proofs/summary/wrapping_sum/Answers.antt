use Rattle.std.proofs.lemmas.Int.{wraps}
use Rattle.std.proofs.lemmas.List.Sums.{fold_more}
use Rattle.std.proofs.Common.{rules}
use Rattle.matrix_load.proofs.summary.wrapping_sum.Goals as goal

pub loop-cell-preserved : goal.loop-cell-preserved
loop-cell-preserved c = search (rules, wraps, fold_more)
