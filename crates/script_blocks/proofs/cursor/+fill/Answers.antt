use Rattle.std.proofs.Common.{rules, arith, ◌++◌, false, refl, sym, ap, ◌∙◌, ◌+◌}
use Rattle.script_blocks.specs.declared.blocks.BlockPart.TheViews.{the_lemmas}
use Rattle.script_blocks.specs.Expansion.{parts_expansion}
use Rattle.script_blocks.specs.Places.{left}
use Rattle.script_blocks.proofs.Fills.{nothing_added, past_part, turns_done, turns_nothing, within_part}
use Rattle.script_blocks.proofs.Nestings.{nesting_within}
use Rattle.script_blocks.proofs.cursor.+fill.Goals as goal
use Rattle.script_blocks.proofs.cursor.+fill.Goals.{fill_of_new_turns-then-frame-eq0-via-then-frame-eq0}
use Rattle.script_blocks.proofs.cursor.+fill.Goals.{fill_of_new_turns-then-frame-eq0-via-else-frame-eq0+then-len-before}

pub fill_from_part-fill_of_part-requires : goal.fill_from_part-fill_of_part-requires
fill_from_part-fill_of_part-requires g t c κs within =
    let below = nesting_within c.args.parts.now c.loop-frame.frame.part c.index-parts-frame.result
    c.loop-frame-test.true c.index-parts-frame.is in
    (search (rules, the_lemmas), (within, (omega arith, omega arith)))

pub fill_from_part-returns-then-fill_of_part-clause-items : goal.fill_from_part-returns-then-fill_of_part-clause-items
fill_from_part-returns-then-fill_of_part-clause-items g t c =
    c.loop-frame.invariant
    ∙ within_part c.loop-frame.batch c.fill_of_part.new.batch c.loop-frame.frame c.fill_of_part.new.frame
    (left c.loop-frame.deeper) (left c.fill_of_part.new.deeper) c.args.parts.now c.index-parts-frame.result
    c.loop-frame-test.true c.index-parts-frame.is c.fill_of_part.ensures.part c.fill_of_part.ensures.items

pub fill_from_part-loop-frame-preserved : goal.fill_from_part-loop-frame-preserved
fill_from_part-loop-frame-preserved g t c =
    c.loop-frame.invariant
    ∙ past_part c.loop-frame.batch c.fill_of_part.new.batch c.loop-frame.frame c.fill_of_part.new.frame
    (left c.loop-frame.deeper) (left c.fill_of_part.new.deeper) c.args.parts.now c.index-parts-frame.result
    c.loop-frame-test.true c.index-parts-frame.is c.fill_of_part.ensures.part c.fill_of_part.ensures.items
    (c.fill_of_part.ensures.done c.if-fill_of_part.false)
    (record { part = c.fill_of_part.new.frame.part + 1; inside = false; later = c.fill_of_part.new.frame.later })
    refl refl

pub fill_of_new_turns-returns-then-frame-eq0-clause-done : goal.fill_of_new_turns-returns-then-frame-eq0-clause-done
fill_of_new_turns-returns-then-frame-eq0-clause-done g t c = λ _.
    let body = c.args.body.now in
    let none = c.fill_in.ensures.done c.if-fill_in.false in
    elim c.then-frame-eq0.branch [
      | fill_of_new_turns-then-frame-eq0-via-then-frame-eq0 w ↦ turns_done c.turns.frame (left c.fill_in.new.frames)
          body none w.if-frame-eq0.true
      | fill_of_new_turns-then-frame-eq0-via-else-frame-eq0+then-len-before w ↦ turns_nothing c.turns.frame
          (left c.fill_in.new.frames) body none
          (nothing_added c.turns.batch c.fill_in.new.batch (parts_expansion body)
          (ap (λ ys. c.turns.batch ++ ys) (sym c.turns.invariant.2) ∙ c.fill_in.ensures.items
          ∙ ap (λ ys. c.fill_in.new.batch ++ ys) none)
          (omega (arith, w.len.ensures.value, w.if-len-before.true)))
    ]
