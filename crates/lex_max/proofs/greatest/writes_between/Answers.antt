use Rattle.std.proofs.Common.{length, sym, ap, ◌∙◌, subst}
use Rattle.sanlp.specs.Order.{common_loops}
use Rattle.tree_graphs.specs.Problems.{read_with, write_with, IsProblem}
use Rattle.tree_graphs.proofs.ProblemBounds.{same_problem}
use Rattle.lex_max.proofs.greatest.writes_between.Goals as goal

pub invariant_of-result-clause-problem : goal.invariant_of-result-clause-problem
invariant_of-result-clause-problem c =
    let read = c.args.read in
    let write = c.args.write in
    let reads = c.as_slice-read_forms.result.now in
    let rows = c.as_slice-rows.result.now in
    let writes = c.as_slice-write_forms.result.now in
    subst (λ v. IsProblem v (read_with read reads) (write_with write rows writes) c.args.level)
    (sym (ap length c.as_slice-loops.ensures))
    (same_problem (length read.statement.now.loops) c.args.level read write reads rows writes
    read.access.now.subscripts write.statement.now.rows write.access.now.subscripts c.as_slice-read_forms.ensures
    c.as_slice-rows.ensures c.as_slice-write_forms.ensures c.requires)

pub invariant_of-result-clause-loops : goal.invariant_of-result-clause-loops
invariant_of-result-clause-loops c =
    c.common_loops-common.ensures.value ∙ ap (λ loops. common_loops loops c.as_slice-loops.result.now)
    c.as_slice.ensures
    ∙ ap (common_loops c.args.write.statement.now.loops) c.as_slice-loops.ensures

pub returns-clause-read : goal.returns-clause-read
returns-clause-read c = ap (read_with c.args.read) c.as_slice-read_forms.ensures

pub returns-clause-write : goal.returns-clause-write
returns-clause-write c =
    ap (λ rows. write_with c.args.write rows c.as_slice-write_forms.result.now) c.as_slice-rows.ensures
    ∙ ap (write_with c.args.write c.args.write.statement.now.rows) c.as_slice-write_forms.ensures
