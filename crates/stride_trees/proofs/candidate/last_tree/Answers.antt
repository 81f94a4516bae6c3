-- The problem over quotients is asked in the context of all tests, and its tree becomes one of the nest for the one writer.
use Rattle.std.proofs.Common.{◌≤◌, ◌+◌, ◌++◌, ◌∷◌, [], true, length, sym, ap, ◌∙◌, subst, arith}
use Rattle.std.specs.Prelude.{replicate}
use Rattle.std.proofs.lemmas.Result.{IfOk-weaker}
use Rattle.stride_trees.proofs.Alone.{alone_answered, alone_checked, alone_cuts, alone_joined}
use Rattle.stride_trees.proofs.CandidatePromise.{last_asked, last_is, last_small, rows_count}
use Rattle.stride_trees.proofs.TestCounts.{few_tests}
use Rattle.stride_trees.proofs.TestNodes.{fitting_of}
use Rattle.stride_trees.specs.Contexts.{IsToldTree}
use Rattle.stride_trees.specs.Strides.{tested_context, IsSmallContext}
use Rattle.tree_graphs.proofs.Heights.{height_simple}
use Rattle.stride_trees.proofs.candidate.last_tree.Goals as goal

pub told_tree-requires-clause-places : goal.told_tree-requires-clause-places
told_tree-requires-clause-places c = c.as_slice.ensures ∙ c.in_ok-writer.ensures.places

pub alone-w-requires-clause-writer : goal.alone-w-requires-clause-writer
alone-w-requires-clause-writer c = (
  c.in_ok-writer.writer,
  c.in_ok-writer.ensures,
  c.as_slice-2.ensures ∙ c.in_ok-push.ensures.ok ∙ ap (λ ws. ws ++ c.in_ok-writer.writer ∷ []) c.new-writers.ensures,
)

pub alone-w-requires-clause-answers : goal.alone-w-requires-clause-answers
alone-w-requires-clause-answers c =
    c.as_slice-3.ensures ∙ c.in_ok-push_yes.ensures
    ∙ ap (λ given. given ++ replicate (length c.args.divisions.now) true) c.new-answers.ensures
    ∙ ap (λ ds. replicate (length ds) true) c.requires.tests

pub overflow_cast-len : goal.overflow_cast-len
overflow_cast-len c =
    let s = c.args.s.now in
    omega (
      arith,
      c.len.ensures,
      rows_count s c.requires.strided c.in_ok-context.context c.in_ok-context.ensures,
      few_tests s c.requires.strided,
      (fitting_of s c.requires.strided).few_reader_rows,
    )

pub converted-requires-clause-answered : goal.converted-requires-clause-answered
converted-requires-clause-answered c = alone_answered c.args.s.now c.requires.strided c.alone-w.result c.alone-w.ensures

pub converted-requires-clause-here : goal.converted-requires-clause-here
converted-requires-clause-here c =
    let s = c.args.s.now in
    omega (
      arith,
      c.len.ensures,
      rows_count s c.requires.strided c.in_ok-context.context c.in_ok-context.ensures,
      few_tests s c.requires.strided,
      (fitting_of s c.requires.strided).few_reader_rows,
      height_simple 3584 c.in_ok-tree.tree c.in_ok-tree.ensures.answer.simple,
    )

pub converted-requires-clause-tree : goal.converted-requires-clause-tree
converted-requires-clause-tree c =
    let s = c.args.s.now in
    let context = c.in_ok-context.context in
    let made = c.in_ok-context.ensures in
    let told = subst (λ places. IsToldTree s places context c.in_ok-tree.tree)
    (c.as_slice.ensures ∙ c.in_ok-writer.ensures.places) c.in_ok-tree.ensures in
    alone_joined s c.requires.strided c.alone-w.result c.alone-w.ensures c.len.result c.in_ok-tree.tree
    (subst (IsSmallContext (tested_context s)) (sym c.len.ensures) (last_small s c.requires.strided context made))
    (omega (
      arith,
      c.len.ensures,
      rows_count s c.requires.strided context made,
      few_tests s c.requires.strided,
      (fitting_of s c.requires.strided).few_reader_rows,
    ))
    (last_asked s c.requires.strided context c.in_ok-tree.tree made told) told.answer.simple

pub returns : goal.returns
returns c =
    let s = c.args.s.now in
    let context = c.in_ok-context.context in
    let made = c.in_ok-context.ensures in
    let w = c.alone-w.result in
    let told = subst (λ places. IsToldTree s places context c.in_ok-tree.tree)
    (c.as_slice.ensures ∙ c.in_ok-writer.ensures.places) c.in_ok-tree.ensures in
    let small = subst (IsSmallContext (tested_context s)) (sym c.len.ensures) (last_small s c.requires.strided context made) in
    let few : c.len.result + 3584 ≤ 8192 = omega (
      arith,
      c.len.ensures,
      rows_count s c.requires.strided context made,
      few_tests s c.requires.strided,
      (fitting_of s c.requires.strided).few_reader_rows,
    ) in
    let checked = last_asked s c.requires.strided context c.in_ok-tree.tree made told in
    IfOk-weaker c.converted.result _ _
    (λ own converts. last_is s c.requires.strided context c.in_ok-tree.tree own made told
    (alone_checked s c.requires.strided w c.alone-w.ensures c.len.result c.in_ok-tree.tree small few checked
    told.answer.simple own converts)
    (alone_cuts s c.requires.strided w c.alone-w.ensures c.len.result c.in_ok-tree.tree small few checked
    told.answer.simple own converts) converts.same)
    c.converted.ensures
