use Rattle.std.proofs.Common.{◌≡◌, ◌≤ℤ◌, ◌^◌, pos, length, sym, ap, ◌∙◌, subst, arith}
use Rattle.std.specs.Prelude.{All}
use Rattle.std.proofs.lemmas.Int.{ints}
use Rattle.std.proofs.lemmas.List.Elements.{All-weaker}
use Rattle.stride_trees.specs.Answers.{IsSmallTest}
use Rattle.last_writer.proofs.WriterLists.{small_tests}
use Rattle.tree_sums.specs.Parts.{IsWithin}
use Rattle.stride_trees.proofs.ProblemBounds.{all_within, are_fitting}
use Rattle.stride_trees.proofs.TestCounts.{few_tests}
use Rattle.stride_trees.specs.Divisions.{divisions_from}
use Rattle.stride_trees.specs.declared.divisions.Division.{Division}
use Rattle.stride_trees.specs.Strides.{depth_of_read, depth_of_write, read_of, tests_of, write_of}
use Rattle.last_writer.proofs.writers.writer_of.Goals as goal

abbrev IsPositive : Division → Type 0
IsPositive d = pos 1 ≤ℤ d.divisor

pub divisions_of-requires-clause-few : goal.divisions_of-requires-clause-few
divisions_of-requires-clause-few c =
    let s = c.args.strides in
    omega (
      arith,
      ap length c.as_slice-writes.ensures,
      (are_fitting s.nest.now (read_of s) (write_of s) s.level c.requires.strided.strided).few_subscripts,
    )

pub divisions_of-requires-clause-writes : goal.divisions_of-requires-clause-writes
divisions_of-requires-clause-writes c =
    let s = c.args.strides in
    subst (All (IsWithin (2 ^ 32))) (sym c.as_slice-writes.ensures)
    (all_within (depth_of_write s) (write_of s).access.subscripts
    (are_fitting s.nest.now (read_of s) (write_of s) s.level c.requires.strided.strided).writes)

pub divisions_of-requires-clause-reads : goal.divisions_of-requires-clause-reads
divisions_of-requires-clause-reads c =
    let s = c.args.strides in
    subst (All (IsWithin (2 ^ 32))) (sym c.as_slice-reads.ensures)
    (all_within (depth_of_read s) (read_of s).access.subscripts
    (are_fitting s.nest.now (read_of s) (write_of s) s.level c.requires.strided.strided).reads)

pub push_places-requires-clause-divisors : goal.push_places-requires-clause-divisors
push_places-requires-clause-divisors c =
    let s = c.args.strides in
    let are : c.as_slice.result.now ≡ tests_of s = c.as_slice.ensures ∙ c.in_ok-divisions.ensures
    ∙ ap (λ writes. divisions_from 0 writes c.as_slice-reads.result.now) c.as_slice-writes.ensures
    ∙ ap (divisions_from 0 s.write.access.now.subscripts) c.as_slice-reads.ensures in
    subst (All IsPositive) (sym are)
    (All-weaker (IsSmallTest (depth_of_read s)) IsPositive (λ d small. omega (arith, ints, small.divisor)) (tests_of s)
    (small_tests s c.requires.strided))

pub push_places-requires-clause-few : goal.push_places-requires-clause-few
push_places-requires-clause-few c =
    let s = c.args.strides in
    let are : c.as_slice.result.now ≡ tests_of s = c.as_slice.ensures ∙ c.in_ok-divisions.ensures
    ∙ ap (λ writes. divisions_from 0 writes c.as_slice-reads.result.now) c.as_slice-writes.ensures
    ∙ ap (divisions_from 0 s.write.access.now.subscripts) c.as_slice-reads.ensures in
    omega (arith, c.requires.few, few_tests s c.requires.strided, ap length are)
