use Rattle.tree_cuts.proofs.CutRows.{converted_is_cut_sum}
use Rattle.tree_cuts.proofs.law.converted_sums_are_cut_sums.Goals as goal

pub returns : goal.returns
returns c = converted_is_cut_sum
