use Rattle.std.proofs.Common.{◌∙◌, sym, arith}
use Rattle.net_core.specs.Machine.{net_of}
use Rattle.net_checker.specs.Shapes.{is_own_event}
use Rattle.net_checker.proofs.BlockTests.{all_of_none, all_of_repeat, wrong_part}
use Rattle.net_checker.proofs.shapes.+own.Goals as goal

pub part_is_own-returns-then-count-eq0 : goal.part_is_own-returns-then-count-eq0
part_is_own-returns-then-count-eq0 t c =
    all_of_none (is_own_event (net_of c.args.network.now) c.args.process) c.in-Repeat.count c.in-Repeat.body c.args.part.now
    c.in-Repeat.is (omega arith)

pub part_is_own-returns-else-count-eq0 : goal.part_is_own-returns-else-count-eq0
part_is_own-returns-else-count-eq0 t c =
    c.parts_are_own.ensures
    ∙ all_of_repeat (is_own_event (net_of c.args.network.now) c.args.process) c.in-Repeat.count c.in-Repeat.body
    c.args.part.now c.as_slice.result.now c.in-Repeat.is c.as_slice.ensures (omega arith)

pub parts_are_own-returns-then-not-part_is_own : goal.parts_are_own-returns-then-not-part_is_own
parts_are_own-returns-then-not-part_is_own t c =
    wrong_part (is_own_event (net_of c.args.network.now) c.args.process) c.args.parts.now c.loop-part.part-index
    c.part-item.result c.loop-part-test.true c.part-item.is (sym c.part_is_own.ensures ∙ c.if-not-part_is_own.true)
