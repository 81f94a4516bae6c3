use Rattle.std.proofs.Common.{◌≡◌, ◌^◌, length, sym, ap, ◌∙◌, subst, arith}
use Rattle.std.specs.Prelude.{All}
use Rattle.std.proofs.lemmas.Result.{IfOk-weaker}
use Rattle.tree_sums.specs.Parts.{IsWithin}
use Rattle.stride_trees.specs.Divisions.{divisions_from}
use Rattle.stride_trees.specs.Strides.{depth_of_read, root_of, tests_of, IsTested, IsTestOf}
use Rattle.stride_trees.proofs.ProblemBounds.{all_within}
use Rattle.stride_trees.proofs.TestCounts.{few_tests, tests_are}
use Rattle.stride_trees.proofs.TestNodes.{fitting_of}
use Rattle.stride_trees.proofs.candidate.tree_between.Goals as goal

pub divisions_of-requires-clause-few : goal.divisions_of-requires-clause-few
divisions_of-requires-clause-few c =
    omega (arith, ap length c.as_slice.ensures, (fitting_of c.args.s.now c.requires).few_subscripts)

pub divisions_of-requires-clause-writes : goal.divisions_of-requires-clause-writes
divisions_of-requires-clause-writes c =
    let s = c.args.s.now in
    subst (All (IsWithin (2 ^ 32))) (sym c.as_slice.ensures)
    (all_within (length s.write.statement.now.loops) s.write.access.now.subscripts (fitting_of s c.requires).writes)

pub divisions_of-requires-clause-reads : goal.divisions_of-requires-clause-reads
divisions_of-requires-clause-reads c =
    let s = c.args.s.now in
    subst (All (IsWithin (2 ^ 32))) (sym c.as_slice-2.ensures)
    (all_within (depth_of_read s) s.read.access.now.subscripts (fitting_of s c.requires).reads)

pub last_tree-requires-clause-tests : goal.last_tree-requires-clause-tests
last_tree-requires-clause-tests c =
    c.as_slice-divisions.ensures ∙ c.in_ok-found.ensures
    ∙ ap (λ writes. divisions_from 0 writes c.as_slice-2.result.now) c.as_slice.ensures
    ∙ ap (divisions_from 0 c.args.s.now.write.access.now.subscripts) c.as_slice-2.ensures

pub overflow_cast-root : goal.overflow_cast-root
overflow_cast-root c =
    omega (arith, c.len-root.ensures, (fitting_of c.args.s.now c.requires).few_reader_rows)

pub with_tests-requires-clause-tests : goal.with_tests-requires-clause-tests
with_tests-requires-clause-tests c =
    subst (All (IsTestOf c.args.s.now))
    (sym (c.as_slice-divisions.ensures ∙ c.in_ok-found.ensures
    ∙ ap (λ writes. divisions_from 0 writes c.as_slice-2.result.now) c.as_slice.ensures
    ∙ ap (divisions_from 0 c.args.s.now.write.access.now.subscripts) c.as_slice-2.ensures))
    (tests_are c.args.s.now)

pub with_tests-requires-clause-few : goal.with_tests-requires-clause-few
with_tests-requires-clause-few c =
    omega (
      arith,
      c.len.ensures,
      few_tests c.args.s.now c.requires,
      ap length (c.as_slice-divisions.ensures ∙ c.in_ok-found.ensures
          ∙ ap (λ writes. divisions_from 0 writes c.as_slice-2.result.now) c.as_slice.ensures
          ∙ ap (divisions_from 0 c.args.s.now.write.access.now.subscripts) c.as_slice-2.ensures),
    )

pub with_tests-requires-clause-here : goal.with_tests-requires-clause-here
with_tests-requires-clause-here c =
    omega (
      arith,
      c.len-root.ensures,
      (fitting_of c.args.s.now c.requires).few_reader_rows,
      few_tests c.args.s.now c.requires,
      ap length (c.as_slice-divisions.ensures ∙ c.in_ok-found.ensures
          ∙ ap (λ writes. divisions_from 0 writes c.as_slice-2.result.now) c.as_slice.ensures
          ∙ ap (divisions_from 0 c.args.s.now.write.access.now.subscripts) c.as_slice-2.ensures),
    )

pub returns : goal.returns
returns c =
    let s = c.args.s.now in
    let tests : c.as_slice-divisions.result.now ≡ tests_of s =
    c.as_slice-divisions.ensures ∙ c.in_ok-found.ensures
    ∙ ap (λ writes. divisions_from 0 writes c.as_slice-2.result.now) c.as_slice.ensures
    ∙ ap (divisions_from 0 s.write.access.now.subscripts) c.as_slice-2.ensures in
    IfOk-weaker c.with_tests.result _ _
    (λ tree h. (
      c.in_ok-last.last,
      c.in_ok-last.ensures,
      subst (λ n. IsTested s n (root_of s) (tests_of s) c.in_ok-last.last tree) c.len.ensures
          (subst (λ n. IsTested s c.len.result n (tests_of s) c.in_ok-last.last tree) c.len-root.ensures
          (subst (λ ds. IsTested s c.len.result c.len-root.result ds c.in_ok-last.last tree) tests h)),
    ))
    c.with_tests.ensures
