use Rattle.matrix_load.proofs.Lengths.{lengths_fit}
use Rattle.matrix_load.proofs.cells.matrix_inputs.Goals as goal

pub returns-clause-lengths : goal.returns-clause-lengths
returns-clause-lengths c =
    λ nest is. lengths_fit c.args.count c.in_ok-arrays.arrays nest c.requires c.in_ok-arrays.ensures is
