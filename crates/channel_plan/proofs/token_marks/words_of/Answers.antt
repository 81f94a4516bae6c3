use Rattle.std.proofs.Common.{◌≡◌, ◌+◌, ℕ, List, length, subst, sym, ap, arith}
use Rattle.channel_plan.proofs.MarkBits.{HasMarks, all_marks, marks_with, marks_without, no_marks}
use Rattle.channel_plan.proofs.token_marks.words_of.Goals as goal
use Rattle.channel_plan.proofs.token_marks.words_of.Goals.{then-mark, else-mark}

pub loop-turn-init : goal.loop-turn-init
loop-turn-init c =
    no_marks c.args.marks.now c.in_ok-words.words.items (c.in_ok-words.ensures.items_if_clones_equal (λ y h. h))

pub set_mark-requires : goal.set_mark-requires
set_mark-requires c = omega (arith, c.loop-turn.invariant.room, c.loop-turn-test.true)

pub loop-turn-preserved : goal.loop-turn-preserved
loop-turn-preserved c =
    let marks = c.args.marks.now in
    let turn = c.loop-turn.turn in
    elim c.if-mark.branch [
      | then-mark w ↦
          subst (λ (words : List ℕ). HasMarks marks (turn + 1) words) (sym (ap (λ v. v.items) w.words-is))
          (marks_with marks turn c.loop-turn.words.items c.loop-turn.invariant w.set_mark.new.words.items
          w.set_mark.ensures.same_length w.set_mark.ensures.marked w.set_mark.ensures.others w.if-mark.true)
      | else-mark w ↦
          subst (λ (words : List ℕ). HasMarks marks (turn + 1) words) (sym (ap (λ v. v.items) w.words-is))
          (marks_without marks turn c.loop-turn.words.items c.loop-turn.invariant w.if-mark.false)
    ]

pub returns-clause-room : goal.returns-clause-room
returns-clause-room c = c.loop-turn.invariant.room

pub returns-clause-marks : goal.returns-clause-marks
returns-clause-marks c =
    let marks = c.args.marks.now in
    let words = c.loop-turn.words.items in
    let all : c.loop-turn.turn ≡ length marks = omega arith in
    all_marks marks words (subst (λ m. HasMarks marks m words) all c.loop-turn.invariant)
