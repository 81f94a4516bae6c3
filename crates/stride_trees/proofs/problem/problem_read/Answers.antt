use Rattle.std.proofs.Common.{◌^◌, length, sym, ap, subst, arith}
use Rattle.affine_core.specs.declared.form.Form.{Form}
use Rattle.tree_graphs.proofs.Small.{negative_over}
use Rattle.tree_sums.specs.Parts.{IsWithin}
use Rattle.tree_sums.proofs.Within.{IsWithin-weaker}
use Rattle.stride_trees.proofs.TestForms.{moved_within}
use Rattle.stride_trees.proofs.problem.problem_read.Goals as goal

pub negative-less-requires : goal.negative-less-requires
negative-less-requires c =
    IsWithin-weaker (2 ^ 33) (2 ^ 60) c.moved.result (omega arith)
    (subst (IsWithin (2 ^ 33)) (sym c.moved.ensures)
    (moved_within c.args.write.now c.args.read.now c.requires.write c.requires.read))

pub widened-requires-clause-wider : goal.widened-requires-clause-wider
widened-requires-clause-wider c =
    omega (
      arith,
      ap (λ (f : Form). length f.coefs) c.negative-less.ensures,
      negative_over c.moved.result,
      ap (λ (f : Form). length f.coefs) c.moved.ensures,
      c.requires.over,
    )
