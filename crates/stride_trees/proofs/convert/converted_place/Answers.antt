use Rattle.std.proofs.Common.{◌^◌, length, take, drop, sym, ap, subst, arith}
use Rattle.std.specs.Prelude.{All}
use Rattle.std.proofs.lemmas.List.{take-append-drop}
use Rattle.tree_sums.specs.Parts.{IsWithin}
use Rattle.tree_graphs.specs.Joint.{IsSum}
use Rattle.stride_trees.proofs.ProblemBounds.{all_within}
use Rattle.stride_trees.proofs.Lists.{all_parts}
use Rattle.stride_trees.proofs.TestNodes.{fitting_of}
use Rattle.stride_trees.proofs.ProofConversion.{placed_cuts, placed_refuted}
use Rattle.stride_trees.proofs.convert.converted_place.Goals as goal

pub overflow_cast-root : goal.overflow_cast-root
overflow_cast-root c =
    omega (arith, c.len-root.ensures, (fitting_of c.args.s.now c.requires.strided).few_reader_rows)

pub front-first-requires : goal.front-first-requires
front-first-requires c = omega (arith, ap length c.as_slice-rows.ensures, c.requires.count)

pub back-second-requires : goal.back-second-requires
back-second-requires c = omega (arith, ap length c.as_slice-rows.ensures, c.requires.count)

pub push_outside-requires-clause-rows : goal.push_outside-requires-clause-rows
push_outside-requires-clause-rows c =
    let s = c.args.s.now in
    subst (All (IsWithin (2 ^ 32))) (sym c.as_slice-rows.ensures)
    (all_within (length s.write.statement.now.loops) s.write.statement.now.rows
    (fitting_of s c.requires.strided).rows)

pub push_outside-requires-clause-sums : goal.push_outside-requires-clause-sums
push_outside-requires-clause-sums c =
    let n = length c.as_slice-rows.result.now in
    subst (All IsSum) (sym c.front-first.ensures)
    (all_parts IsSum (take n c.args.told.now) (drop n c.args.told.now)
    (subst (All IsSum) (sym (take-append-drop n c.args.told.now)) c.requires.sums)).0

pub push_cells-requires-clause-root : goal.push_cells-requires-clause-root
push_cells-requires-clause-root c =
    omega (arith, c.len-root.ensures, (fitting_of c.args.s.now c.requires.strided).few_reader_rows)

pub push_cells-requires-clause-writes : goal.push_cells-requires-clause-writes
push_cells-requires-clause-writes c =
    let s = c.args.s.now in
    subst (All (IsWithin (2 ^ 32))) (sym c.as_slice-writes.ensures)
    (all_within (length s.write.statement.now.loops) s.write.access.now.subscripts
    (fitting_of s c.requires.strided).writes)

pub push_cells-requires-clause-sums : goal.push_cells-requires-clause-sums
push_cells-requires-clause-sums c =
    let n = length c.as_slice-rows.result.now in
    subst (All IsSum) (sym c.back-second.ensures)
    (all_parts IsSum (take n c.args.told.now) (drop n c.args.told.now)
    (subst (All IsSum) (sym (take-append-drop n c.args.told.now)) c.requires.sums)).1

pub returns-clause-refuted : goal.returns-clause-refuted
returns-clause-refuted c =
    placed_refuted c.args.s.now c.requires.strided c.args.places.now c.args.here c.args.told.now c.as_slice-rows.result.now
    c.as_slice-writes.result.now c.front-first.result.now c.back-second.result.now c.len-root.result c.new-proofs.result
    c.push_outside.new.proofs c.push_cells.new.proofs c.as_slice-rows.ensures c.as_slice-writes.ensures c.front-first.ensures
    c.back-second.ensures c.len-root.ensures c.new-proofs.ensures c.requires.count (rw c.in-Ok.is at c.push_outside.ensures)
    (rw c.in-Ok-push_cells.is at c.push_cells.ensures)

pub returns-clause-cuts : goal.returns-clause-cuts
returns-clause-cuts c =
    placed_cuts c.args.s.now c.requires.strided c.args.places.now c.args.here c.args.told.now c.as_slice-rows.result.now
    c.as_slice-writes.result.now c.front-first.result.now c.back-second.result.now c.len-root.result c.new-proofs.result
    c.push_outside.new.proofs c.push_cells.new.proofs c.as_slice-rows.ensures c.as_slice-writes.ensures c.front-first.ensures
    c.back-second.ensures c.len-root.ensures c.new-proofs.ensures c.requires.count (rw c.in-Ok.is at c.push_outside.ensures)
    (rw c.in-Ok-push_cells.is at c.push_cells.ensures)
