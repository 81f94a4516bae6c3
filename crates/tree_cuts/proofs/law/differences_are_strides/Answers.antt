use Rattle.tree_cuts.proofs.Shifts.{difference_is_stride}
use Rattle.tree_cuts.proofs.law.differences_are_strides.Goals as goal

pub returns : goal.returns
returns c = difference_is_stride
