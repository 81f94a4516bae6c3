use Rattle.std.proofs.Common.{◌^◌, sym, subst}
use Rattle.tree_sums.specs.Parts.{IsWithin}
use Rattle.tree_graphs.proofs.Small.{negative_within}
use Rattle.tree_graphs.proofs.forms.difference.Goals as goal

pub sum-requires-clause-second : goal.sum-requires-clause-second
sum-requires-clause-second c =
    subst (IsWithin (2 ^ 60)) (sym c.negative.ensures) (negative_within (2 ^ 60) c.args.b.now c.requires.second)
