use Rattle.std.proofs.Common.{◌^◌}
use Rattle.tree_cuts.proofs.Coefficients.{found_small}
use Rattle.tree_cuts.proofs.class.small_stride.Goals as goal

pub returns-clause-small : goal.returns-clause-small
returns-clause-small c = found_small (2 ^ 32) c.args.form.now.coefs c.stride_of.result c.requires.coefs c.stride_of.ensures
