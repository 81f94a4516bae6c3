use Rattle.std.proofs.Common.{◌∙◌, sym, arith}
use Rattle.net_core.specs.Machine.{net_of}
use Rattle.net_checker.specs.FittingFires.{fits_reads}
use Rattle.net_checker.proofs.BlockTests.{all_of_none, all_of_repeat, wrong_part}
use Rattle.net_checker.proofs.fitting_fires.+fitting.Goals as goal

pub part_fits-returns-then-count-eq0 : goal.part_fits-returns-then-count-eq0
part_fits-returns-then-count-eq0 t c =
    all_of_none (fits_reads c.args.nest.now (net_of c.args.network.now) c.args.process) c.in-Repeat.count c.in-Repeat.body c.args.part.now
    c.in-Repeat.is (omega arith)

pub part_fits-returns-else-count-eq0 : goal.part_fits-returns-else-count-eq0
part_fits-returns-else-count-eq0 t c =
    c.parts_fit.ensures
    ∙ all_of_repeat (fits_reads c.args.nest.now (net_of c.args.network.now) c.args.process) c.in-Repeat.count c.in-Repeat.body
    c.args.part.now c.as_slice.result.now c.in-Repeat.is c.as_slice.ensures (omega arith)

pub parts_fit-returns-then-not-part_fits : goal.parts_fit-returns-then-not-part_fits
parts_fit-returns-then-not-part_fits t c =
    wrong_part (fits_reads c.args.nest.now (net_of c.args.network.now) c.args.process) c.args.parts.now c.loop-part.part-index
    c.part-item.result c.loop-part-test.true c.part-item.is (sym c.part_fits.ensures ∙ c.if-not-part_fits.true)
