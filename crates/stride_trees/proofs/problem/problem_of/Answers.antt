use Rattle.std.proofs.Common.{◌^◌, length, refl, sym, ap, ◌∙◌, subst}
use Rattle.std.specs.Prelude.{All}
use Rattle.tree_sums.specs.Parts.{IsWithin}
use Rattle.stride_trees.specs.Problem.{problem_rows, problem_writes}
use Rattle.stride_trees.proofs.ProblemBounds.{all_within}
use Rattle.stride_trees.proofs.TestNodes.{fitting_of}
use Rattle.stride_trees.proofs.problem.problem_of.Goals as goal

pub divided_rows-requires : goal.divided_rows-requires
divided_rows-requires c =
    let s = c.args.s.now in
    subst (All (IsWithin (2 ^ 32))) (sym c.as_slice.ensures)
    (all_within (length s.write.statement.now.loops) s.write.statement.now.rows (fitting_of s c.requires.strided).rows)

pub returns : goal.returns
returns c = record {
  write = refl;
  rows = c.in_ok-rows.ensures ∙ ap problem_rows c.as_slice.ensures;
  write_forms = c.in_ok-write_forms.ensures ∙ ap problem_writes c.as_slice-2.ensures;
  read_forms = c.in_ok-read_forms.ensures;
}
