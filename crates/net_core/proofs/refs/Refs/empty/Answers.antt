use Rattle.std.proofs.Common.{refl}
use Rattle.net_core.specs.Packing.{refs_at, zeros_of, rows_of}
use Rattle.net_core.proofs.refs.Refs.empty.Goals as goal

pub invariant_of-result : goal.invariant_of-result
unfolding refs_at zeros_of rows_of
invariant_of-result c = refl

pub returns : goal.returns
unfolding refs_at
returns c = refl
