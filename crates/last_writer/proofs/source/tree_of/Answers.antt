-- All writers are gathered from the first statement on. No test has an answer here, so the context is the reader's domain
-- rows.
use Rattle.std.proofs.Common.{length, sym, ap, ◌∙◌, subst, arith}
use Rattle.std.specs.Prelude.{IsTrue}
use Rattle.std.specs.List.{list_all, sum_by}
use Rattle.std.proofs.lemmas.Result.{IfOk-weaker}
use Rattle.last_writer.proofs.RootContexts.{checked_root, gathered, reader_rows, root_made, root_small}
use Rattle.last_writer.proofs.JointTrees.{few_loops}
use Rattle.source_tree.specs.declared.reference.Reference.{Reference}
use Rattle.source_tree.specs.Systems.{writes_from}
use Rattle.tree_cuts.specs.Class.{stride_count, writes_strides}
use Rattle.last_writer.proofs.source.tree_of.Goals as goal

pub push_writers-requires-clause-read : goal.push_writers-requires-clause-read
push_writers-requires-clause-read c = c.requires.read

pub push_writers-requires-clause-count : goal.push_writers-requires-clause-count
push_writers-requires-clause-count c =
    omega (arith, ap length c.as_slice-statements.ensures, c.args.nest.now.well_formed.few_statements)

pub push_writers-requires-clause-strides : goal.push_writers-requires-clause-strides
push_writers-requires-clause-strides c =
    subst (λ ss. IsTrue (list_all writes_strides (writes_from c.args.read.now.access.now.array 0 ss)))
    (sym c.as_slice-statements.ensures) c.requires.each

pub push_writers-requires-clause-few : goal.push_writers-requires-clause-few
push_writers-requires-clause-few c =
    omega (
      arith,
      c.requires.few,
      ap length c.new-tests.ensures,
      ap (λ ss. sum_by stride_count (writes_from c.args.read.now.access.now.array 0 ss)) c.as_slice-statements.ensures,
    )

pub unanswered-w-requires-clause-asked : goal.unanswered-w-requires-clause-asked
unanswered-w-requires-clause-asked c = c.requires

pub unanswered-w-requires-clause-writers : goal.unanswered-w-requires-clause-writers
unanswered-w-requires-clause-writers c =
    gathered c.args.nest.now c.args.read.now c.as_slice-statements.result.now c.new-tests.result
    c.push_writers.new.tests c.as_slice-2.result.now c.new-writers.result c.push_writers.new.writers
    c.as_slice.result.now c.as_slice-statements.ensures c.new-tests.ensures c.new-writers.ensures c.as_slice-2.ensures
    c.as_slice.ensures c.in_ok-push_writers.ensures

pub root-requires : goal.root-requires
root-requires c =
    let of = c.unanswered-w.ensures in
    omega (
      arith,
      few_loops c.unanswered-w.result of.answered,
      ap (λ (u : Reference). length u.statement.now.loops) of.read,
    )

pub answered-requires-clause-answered : goal.answered-requires-clause-answered
answered-requires-clause-answered c = c.unanswered-w.ensures.answered

pub answered-requires-clause-made : goal.answered-requires-clause-made
answered-requires-clause-made c =
    let of = c.unanswered-w.ensures in
    root_made c.unanswered-w.result c.in_ok-context.context of.answered of.answers
    (c.in_ok-context.ensures ∙ ap reader_rows (sym of.read))

pub answered-requires-clause-rows : goal.answered-requires-clause-rows
answered-requires-clause-rows c =
    let of = c.unanswered-w.ensures in
    root_small c.unanswered-w.result c.in_ok-context.context of.answered of.answers
    (c.in_ok-context.ensures ∙ ap reader_rows (sym of.read))

pub returns : goal.returns
returns c =
    let w = c.unanswered-w.result in
    let of = c.unanswered-w.ensures in
    IfOk-weaker c.answered.result _ _
    (λ tree. checked_root w c.args.nest.now c.args.read.now tree of.nest of.read of.answers) c.answered.ensures
