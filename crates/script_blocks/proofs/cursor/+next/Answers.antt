use Rattle.std.proofs.Common.{rules, arith, drop, sym, ◌∙◌}
use Rattle.script_blocks.specs.declared.blocks.BlockPart.TheViews.{the_lemmas}
use Rattle.script_blocks.specs.Places.{left, left_of_parts}
use Rattle.script_blocks.proofs.Nestings.{nesting_within}
use Rattle.script_blocks.proofs.Walks.{step_found}
use Rattle.script_blocks.proofs.cursor.+next.Goals as goal

pub next_from_part-next_of_part-item-requires : goal.next_from_part-next_of_part-item-requires
next_from_part-next_of_part-item-requires g t c κs within =
    let below = nesting_within c.args.parts.now c.loop-frame.frame.part c.index-parts-frame.result
    c.loop-frame-test.true c.index-parts-frame.is in
    (search (rules, the_lemmas), (within, omega arith))

pub next_from_part-returns-then-is_some : goal.next_from_part-returns-then-is_some
next_from_part-returns-then-is_some g t c =
    step_found c.next_of_part-item.result c.loop-frame.frame c.next_of_part-item.new.frame (left c.loop-frame.deeper)
    (left c.next_of_part-item.new.deeper)
    c.args.parts.now c.index-parts-frame.result
    (left_of_parts c.args.frame.now (left c.args.deeper.now) (drop c.args.frame.now.part c.args.parts.now))
    c.loop-frame-test.true c.index-parts-frame.is c.next_of_part-item.ensures.part c.next_of_part-item.ensures.next
    (sym c.is_some.ensures ∙ c.if-is_some.true) c.loop-frame.invariant
