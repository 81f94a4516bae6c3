use Rattle.std.proofs.Common.{◌^◌, length, length-append, sym, ap, subst, arith}
use Rattle.std.specs.Prelude.{All}
use Rattle.tree_sums.specs.Parts.{IsWithin}
use Rattle.tree_cuts.specs.Sources.{own_sources, sources_behind}
use Rattle.stride_trees.proofs.SourceCuts.{write_count}
use Rattle.stride_trees.proofs.ProblemBounds.{all_within}
use Rattle.stride_trees.proofs.TestNodes.{fitting_of}
use Rattle.stride_trees.proofs.convert.of_write.Goals as goal

pub overflow_cast-root : goal.overflow_cast-root
overflow_cast-root c =
    omega (arith, c.len-root.ensures, (fitting_of c.args.s.now c.requires.strided).few_reader_rows)

pub write_sources-requires-clause-numbers : goal.write_sources-requires-clause-numbers
write_sources-requires-clause-numbers c =
    let f = fitting_of c.args.s.now c.requires.strided in (
      omega (arith, ap length c.as_slice-rows.ensures, f.few_rows),
      omega (arith, ap length c.as_slice-writes.ensures, f.few_subscripts),
    )

pub write_sources-requires-clause-few : goal.write_sources-requires-clause-few
write_sources-requires-clause-few c = (
  c.requires.here,
  (
    omega (arith, c.len-root.ensures, (fitting_of c.args.s.now c.requires.strided).few_reader_rows),
    c.requires.more,
  ),
)

pub write_sources-requires-clause-rows : goal.write_sources-requires-clause-rows
write_sources-requires-clause-rows c =
    let s = c.args.s.now in
    subst (All (IsWithin (2 ^ 32))) (sym c.as_slice-rows.ensures)
    (all_within (length s.write.statement.now.loops) s.write.statement.now.rows
    (fitting_of s c.requires.strided).rows)

pub write_sources-requires-clause-writes : goal.write_sources-requires-clause-writes
write_sources-requires-clause-writes c =
    let s = c.args.s.now in
    subst (All (IsWithin (2 ^ 32))) (sym c.as_slice-writes.ensures)
    (all_within (length s.write.statement.now.loops) s.write.access.now.subscripts
    (fitting_of s c.requires.strided).writes)

pub overflow_cast-count : goal.overflow_cast-count
overflow_cast-count c =
    omega (arith, ap length c.as_slice-rows.ensures, (fitting_of c.args.s.now c.requires.strided).few_rows)

pub overflow_cast-count-2 : goal.overflow_cast-count-2
overflow_cast-count-2 c =
    omega (arith, ap length c.as_slice-writes.ensures, (fitting_of c.args.s.now c.requires.strided).few_subscripts)

pub overflow_mul-count : goal.overflow_mul-count
overflow_mul-count c =
    omega (arith, ap length c.as_slice-writes.ensures, (fitting_of c.args.s.now c.requires.strided).few_subscripts)

pub overflow_add-count : goal.overflow_add-count
overflow_add-count c =
    let f = fitting_of c.args.s.now c.requires.strided in
    omega (arith, ap length c.as_slice-writes.ensures, f.few_subscripts, c.requires.more)

pub overflow_add-count-2 : goal.overflow_add-count-2
overflow_add-count-2 c =
    let f = fitting_of c.args.s.now c.requires.strided in
    omega (
      arith,
      ap length c.as_slice-rows.ensures,
      ap length c.as_slice-writes.ensures,
      f.few_rows,
      f.few_subscripts,
      c.requires.more,
    )

pub overflow_add-count-3 : goal.overflow_add-count-3
overflow_add-count-3 c =
    let f = fitting_of c.args.s.now c.requires.strided in
    omega (
      arith,
      ap length c.as_slice-rows.ensures,
      ap length c.as_slice-writes.ensures,
      f.few_rows,
      f.few_subscripts,
      c.requires.here,
      c.requires.more,
    )

pub converted-requires : goal.converted-requires
converted-requires c =
    let f = fitting_of c.args.s.now c.requires.strided in
    let rows = c.as_slice-rows.result.now in
    let writes = c.as_slice-writes.result.now in
    let root = c.len-root.result in
    omega (
      arith,
      ap length c.as_slice-rows.ensures,
      ap length c.as_slice-writes.ensures,
      ap length c.as_slice.ensures,
      ap length c.in_ok-sources.ensures,
      length-append (own_sources 0 c.args.here)
          (sources_behind rows writes root c.args.places.now c.args.here c.args.more),
      write_count rows writes root c.args.places.now c.args.here c.args.more,
      f.few_rows,
      f.few_subscripts,
      c.requires.here,
      c.requires.more,
    )
