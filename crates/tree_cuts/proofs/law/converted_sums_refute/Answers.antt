use Rattle.tree_cuts.proofs.CutRows.{converted_refutes}
use Rattle.tree_cuts.proofs.law.converted_sums_refute.Goals as goal

pub returns : goal.returns
returns c = converted_refutes
