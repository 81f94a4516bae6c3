use Rattle.std.proofs.Common.{rules, arith}
use Rattle.script_blocks.specs.declared.blocks.BlockPart.TheViews.{the_lemmas}
use Rattle.script_blocks.proofs.Nestings.{nesting_within}
use Rattle.repeat_sequencer.proofs.sequencer.+levels.Goals as goal

pub levels_of-levels_of_part-requires : goal.levels_of-levels_of_part-requires
levels_of-levels_of_part-requires g t c κs within =
    let below =
    nesting_within c.args.parts.now c.loop-part.part-index c.part-item.result c.loop-part-test.true c.part-item.is in
    (search (rules, the_lemmas), (within, omega arith))
