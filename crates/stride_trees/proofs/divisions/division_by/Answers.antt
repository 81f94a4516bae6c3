use Rattle.std.proofs.Common.{◌^◌, sym, subst, arith}
use Rattle.tree_sums.specs.Parts.{IsWithin}
use Rattle.tree_sums.proofs.Within.{IsWithin-weaker}
use Rattle.stride_trees.proofs.TestForms.{moved_within}
use Rattle.stride_trees.proofs.divisions.division_by.Goals as goal

pub negative-turned-requires : goal.negative-turned-requires
negative-turned-requires c =
    subst (IsWithin (2 ^ 60)) (sym c.moved-form.ensures)
    (IsWithin-weaker (2 ^ 33) (2 ^ 60) _ (omega arith)
    (moved_within c.args.write.now c.args.read.now c.requires.write c.requires.read))
