use Rattle.std.proofs.Common.{◌≡◌, ◌^◌, ◌++◌, length, refl, sym, ap, ◌∙◌, subst, arith}
use Rattle.std.specs.Prelude.{All}
use Rattle.std.specs.List.{range_with_len}
use Rattle.tree_sums.specs.Parts.{IsWithin}
use Rattle.stride_trees.specs.Divisions.{divisions_from}
use Rattle.stride_trees.specs.Strides.{depth_of_read, tests_of}
use Rattle.stride_trees.proofs.ProblemBounds.{all_within}
use Rattle.stride_trees.proofs.TestCounts.{few_tests}
use Rattle.stride_trees.proofs.TestNodes.{fitting_of}
use Rattle.stride_trees.proofs.candidate.writer_of.Goals as goal

pub divisions_of-requires-clause-few : goal.divisions_of-requires-clause-few
divisions_of-requires-clause-few c =
    omega (arith, ap length c.as_slice-writes.ensures, (fitting_of c.args.s.now c.requires).few_subscripts)

pub divisions_of-requires-clause-writes : goal.divisions_of-requires-clause-writes
divisions_of-requires-clause-writes c =
    let s = c.args.s.now in
    subst (All (IsWithin (2 ^ 32))) (sym c.as_slice-writes.ensures)
    (all_within (length s.write.statement.now.loops) s.write.access.now.subscripts (fitting_of s c.requires).writes)

pub divisions_of-requires-clause-reads : goal.divisions_of-requires-clause-reads
divisions_of-requires-clause-reads c =
    let s = c.args.s.now in
    subst (All (IsWithin (2 ^ 32))) (sym c.as_slice-reads.ensures)
    (all_within (depth_of_read s) s.read.access.now.subscripts (fitting_of s c.requires).reads)

pub push_range-requires : goal.push_range-requires
push_range-requires c =
    let s = c.args.s.now in
    let tests : c.in_ok-divisions.divisions ≡ tests_of s =
    c.in_ok-divisions.ensures ∙ ap (λ writes. divisions_from 0 writes c.as_slice-reads.result.now) c.as_slice-writes.ensures
    ∙ ap (divisions_from 0 s.write.access.now.subscripts) c.as_slice-reads.ensures in
    omega (arith, c.len.ensures, ap length tests, few_tests s c.requires)

pub returns : goal.returns
returns c =
    let s = c.args.s.now in
    let tests : c.in_ok-divisions.divisions ≡ tests_of s =
    c.in_ok-divisions.ensures ∙ ap (λ writes. divisions_from 0 writes c.as_slice-reads.result.now) c.as_slice-writes.ensures
    ∙ ap (divisions_from 0 s.write.access.now.subscripts) c.as_slice-reads.ensures in
    record {
      strides = refl;
      divisions = tests;
      places = c.in_ok-push_range.ensures ∙ ap (λ xs. xs ++ range_with_len 0 c.len.result) c.new-places.ensures
          ∙ ap (range_with_len 0) (c.len.ensures ∙ ap length tests);
    }
