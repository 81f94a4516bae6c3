use Rattle.std.proofs.Common.{◌<◌, length, ap, sym, ◌∙◌, arith, FitsSigned}
use Rattle.std.specs.Int.{w64}
use Rattle.std.proofs.lemmas.List.{length-set}
use Rattle.std.proofs.lemmas.Int.{to_z-of_z}
use Rattle.cell_rows.specs.CellMap.{places_in}
use Rattle.cell_lines.specs.LinePlaces.{has_line}
use Rattle.cell_lines.proofs.LineCells.{all_and_write, all_more, all_whole, all_without_write, lines_more, lines_whole}
use Rattle.cell_lines.proofs.LineCells.{write_line}
use Rattle.cell_lines.proofs.statement_lines.lines_of.Goals as goal

pub loop-slot-preserved : goal.loop-slot-preserved
loop-slot-preserved g c =
    let f : FitsSigned w64 c.args.first = c.ranges.first in
    let g : FitsSigned w64 c.args.last = c.ranges.last in
    let room : c.loop-slot.slot < length c.loop-slot.reads = omega
    (arith, c.loop-slot.invariant.0, c.loop-slot-test.true, c.requires.few, ap length c.as_slice-access-items.ensures)
    in
    let here = c.in_ok-line.ensures.line in
    let come = c.in_ok-line.ensures.come in (
      length-set c.loop-slot.reads c.loop-slot.slot c.in_ok-line.line ∙ c.loop-slot.invariant.0,
      simp to_z-of_z
          (lines_more (places_in c.args.cells.now) c.args.outer.now c.args.first c.args.last
          c.as_slice-access-items.result.now c.loop-slot.reads c.loop-slot.slot c.access-item.result
          c.in_ok-line.line
          c.loop-slot-test.true room c.access-item.is (simp to_z-of_z at here)
          (simp to_z-of_z at c.loop-slot.invariant.1)),
      simp to_z-of_z
          (all_more (has_line (places_in c.args.cells.now) c.args.outer.now c.args.first c.args.last)
          c.args.accesses.now.reads c.as_slice-access-items.result.now c.loop-slot.slot c.access-item.result
          c.loop-slot-test.true c.access-item.is (simp to_z-of_z at c.loop-slot.invariant.2)
          (sym (simp to_z-of_z at come))),
    )

pub returns-in_ok-write-in-Some : goal.returns-in_ok-write-in-Some
returns-in_ok-write-in-Some g c =
    let f : FitsSigned w64 c.args.first = c.ranges.first in
    let g : FitsSigned w64 c.args.last = c.ranges.last in
    let along = simp to_z-of_z at c.loop-slot.invariant.1 in
    let all = simp to_z-of_z at c.loop-slot.invariant.2 in
    let here = c.in_ok-write-in-Some.ensures.line in
    let come = c.in_ok-write-in-Some.ensures.come in
    record {
      come = all_and_write (has_line (places_in c.args.cells.now) c.args.outer.now c.args.first c.args.last)
          c.args.accesses.now.reads c.as_slice-access-items.result.now c.loop-slot.slot c.args.accesses.now.write
          c.in-Some.access _
          (all_whole (has_line (places_in c.args.cells.now) c.args.outer.now c.args.first c.args.last)
          c.args.accesses.now.reads c.as_slice-access-items.result.now c.loop-slot.slot
          c.as_slice-access-items.ensures c.loop-slot-test.false all)
          c.in-Some.is (simp to_z-of_z at come);
      lines = record {
        first_small = c.requires.first_small;
        last_small = c.requires.last_small;
        reads = lines_whole
            (places_in c.args.cells.now) c.args.outer.now c.args.first c.args.last c.args.accesses.now.reads
            c.as_slice-access-items.result.now c.loop-slot.reads c.loop-slot.slot
            c.as_slice-access-items.ensures c.loop-slot-test.false along;
        write = write_line
            (places_in c.args.cells.now) c.args.outer.now c.args.first c.args.last c.args.accesses.now.write
            c.in-Some.access c.in_ok-write-in-Some.write c.in-Some.is (simp to_z-of_z at here);
      };
    }

pub returns-in-None : goal.returns-in-None
returns-in-None g c =
    let f : FitsSigned w64 c.args.first = c.ranges.first in
    let g : FitsSigned w64 c.args.last = c.ranges.last in
    let along = simp to_z-of_z at c.loop-slot.invariant.1 in
    let all = simp to_z-of_z at c.loop-slot.invariant.2 in
    record {
      come = all_without_write (has_line (places_in c.args.cells.now) c.args.outer.now c.args.first c.args.last)
          c.args.accesses.now.reads c.as_slice-access-items.result.now c.loop-slot.slot c.args.accesses.now.write
          (all_whole (has_line (places_in c.args.cells.now) c.args.outer.now c.args.first c.args.last)
          c.args.accesses.now.reads c.as_slice-access-items.result.now c.loop-slot.slot
          c.as_slice-access-items.ensures c.loop-slot-test.false all)
          c.in-None.is;
      lines = record {
        first_small = c.requires.first_small;
        last_small = c.requires.last_small;
        reads = lines_whole
            (places_in c.args.cells.now) c.args.outer.now c.args.first c.args.last c.args.accesses.now.reads
            c.as_slice-access-items.result.now c.loop-slot.reads c.loop-slot.slot
            c.as_slice-access-items.ensures c.loop-slot-test.false along;
        write = λ access e. let none = c.in-None.is in cc (e, none);
      };
    }
