use Rattle.std.proofs.Common.{◌∙◌}
use Rattle.script_blocks.proofs.Builds.{items_added}
use Rattle.script_blocks.proofs.folding.push_items.Goals as goal

pub loop-label-preserved : goal.loop-label-preserved
loop-label-preserved g c = (
  items_added c.args.kinds.now c.args.other c.push_item.new.parts c.loop-label.parts c.args.parts.now c.args.labels.now
      c.loop-label.label-index c.loop-label-test.true c.in_ok-push_item.ensures.expansion c.loop-label.invariant.0,
  c.in_ok-push_item.ensures.shallow ∙ c.loop-label.invariant.1,
  c.in_ok-push_item.ensures.proper ∙ c.loop-label.invariant.2,
)
