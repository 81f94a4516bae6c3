use Rattle.std.proofs.Common.{ap, ◌∙◌}
use Rattle.sanlp.specs.Order.{common_loops}
use Rattle.tree_order.specs.Reads.{pair_in}
use Rattle.tree_graphs.specs.Problems.{read_with, write_with}
use Rattle.tree_graphs.proofs.ProblemBounds.{same_problem}
use Rattle.tree_join.proofs.Pairs.{pair_is}
use Rattle.tree_join.proofs.candidates.writes_at.Goals as goal

pub invariant_of-result-clause-problem : goal.invariant_of-result-clause-problem
invariant_of-result-clause-problem c =
    let read = c.args.read.now in
    let problem = c.args.problem.now in
    same_problem read.context.now.vars c.args.level read.reference problem.write c.as_slice-read_forms.result.now
    c.as_slice-rows.result.now c.as_slice-write_forms.result.now problem.read_forms problem.rows problem.write_forms
    c.as_slice-read_forms.ensures c.as_slice-rows.ensures c.as_slice-write_forms.ensures
    (c.requires.joined.problems (pair_in read problem) c.args.level (pair_is read problem c.requires.problem)
    c.requires.asked)

pub invariant_of-result-clause-loops : goal.invariant_of-result-clause-loops
invariant_of-result-clause-loops c =
    c.common_loops.ensures.value ∙ ap (λ loops. common_loops loops c.as_slice.result.now) c.as_slice-loops.ensures
    ∙ ap (common_loops c.args.problem.now.write.statement.now.loops) c.as_slice.ensures

pub returns-clause-read : goal.returns-clause-read
returns-clause-read c = ap (read_with c.args.read.now.reference) c.as_slice-read_forms.ensures

pub returns-clause-write : goal.returns-clause-write
returns-clause-write c =
    let problem = c.args.problem.now in
    ap (λ rows. write_with problem.write rows c.as_slice-write_forms.result.now) c.as_slice-rows.ensures
    ∙ ap (write_with problem.write problem.rows) c.as_slice-write_forms.ensures
