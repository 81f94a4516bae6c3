use Rattle.std.proofs.Common.{arith}
use Rattle.std.proofs.lemmas.Bool.Decides.{nat_tests}
use Rattle.sequencer_text.specs.Tables.{turns_behind}
use Rattle.sequencer_text.proofs.Lists.{greatest_more}
use Rattle.sequencer_text.proofs.tables.greatest_turn_count.Goals as goal

pub loop-instruction-preserved : goal.loop-instruction-preserved
loop-instruction-preserved g c =
    let more = greatest_more turns_behind c.args.instructions.now c.loop-instruction.instruction-index
    c.instruction-item.result c.loop-instruction-test.true c.instruction-item.is in
    grind (
      arith,
      nat_tests,
      more,
      c.max-most.ensures,
      c.turns_of.ensures,
      c.as_slice.ensures,
      c.loop-instruction.invariant,
    )
