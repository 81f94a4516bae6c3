use Rattle.std.proofs.Common.{◌∙◌, ◌-◌, rules, sym, arith}
use Rattle.script_blocks.specs.declared.blocks.BlockPart.TheViews.{the_lemmas}
use Rattle.script_blocks.proofs.Nestings.{nesting_within}
use Rattle.repeat_sequencer.proofs.Builds.{all_added, part_added_at}
use Rattle.repeat_sequencer.proofs.sequencer.+code.Goals as goal

pub add_parts-add_part-requires : goal.add_parts-add_part-requires
add_parts-add_part-requires g t c κs within =
    let below =
    nesting_within c.args.parts.now c.loop-part.part-index c.part-item.result c.loop-part-test.true c.part-item.is in
    (search (rules, the_lemmas), (within, omega arith))

pub add_parts-loop-part-preserved : goal.add_parts-loop-part-preserved
add_parts-loop-part-preserved g t c = (
  omega (arith, c.loop-part.invariant.0, c.loop-part-test.true),
  sym (part_added_at c.args.level c.args.ends.now c.ends_before.result.now c.loop-part.code c.add_part.new.code
      c.part-item.result c.in_ok-add_part.ensures c.args.parts.now c.loop-part.part-index (c.loop-part.later - 1)
      c.loop-part-test.true c.part-item.is (omega (arith, c.loop-part.invariant.0, c.loop-part-test.true))
      c.ends_before.ensures.last c.ends_before.ensures.others)
      ∙ c.loop-part.invariant.1,
)

pub add_parts-returns : goal.add_parts-returns
add_parts-returns g t c =
    all_added c.args.level c.args.ends.now c.loop-part.code _ c.args.parts.now c.loop-part.part-index
    (omega (arith, c.loop-part-test.false)) c.loop-part.invariant.1
