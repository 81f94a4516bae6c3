use Rattle.std.proofs.Common.{◌≡◌, ◌<◌, length, refl, sym, ap, subst, arith}
use Rattle.std.specs.Prelude.{Some}
use Rattle.std.proofs.lemmas.Result.{IfOk-weaker}
use Rattle.tree_order.specs.Comparisons.{IsQuestion}
use Rattle.tree_order.specs.declared.compare.Comparison.TheVariants.{Open}
use Rattle.tree_order.specs.declared.seen.Position.{Position}
use Rattle.tree_order.specs.Seen.{best_in}
use Rattle.tree_join.specs.Walking.{height, most_turns, IsNext, IsTestForm}
use Rattle.tree_join.specs.declared.path.Next.TheVariants.{Compare}
use Rattle.tree_join.proofs.Moves.{above_within, below_over, below_within, fewer_left, ready_side}
use Rattle.tree_join.proofs.Sides.{standing_there}
use Rattle.tree_join.proofs.Walks.{turns_both}
use Rattle.tree_graphs.specs.Asked.{write_of}
use Rattle.tree_graphs.specs.Facts.{with_form}
use Rattle.tree_join.proofs.path.ask_next.Goals as goal

pub test_of_next_loop-requires-clause-points : goal.test_of_next_loop-requires-clause-points
test_of_next_loop-requires-clause-points c =
    let h = c.requires.way.1.1.1 in (
      write_of h.0.candidate.now.writes,
      write_of c.args.at.candidate.now.writes,
      c.args.walk.now.context.vars,
      h.2.points,
    )

pub ask-requires-clause-frames : goal.ask-requires-clause-frames
ask-requires-clause-frames c = c.requires.way.0

pub ask-requires-clause-sides : goal.ask-requires-clause-sides
ask-requires-clause-sides c =
    let task = c.args.task.now in
    let walk = c.args.walk.now in
    let r = task.read.now in
    let context = walk.context in
    let at = c.args.at in
    let pair = c.args.pair in
    let so_far = c.args.so_far in
    let way = c.requires.way in
    let h = way.1.1.1 in
    let w = write_of h.0.candidate.now.writes in
    let u = write_of at.candidate.now.writes in
    let asked = c.in_ok-form.field-0 in
    let q : IsQuestion context w u pair asked =
    c.in_ok-form.ensures.question context w u c.len-here.ensures h.2.points h.3 in
    let test : IsTestForm context asked.form = record { over = q.over; within = q.within } in
    let last = Compare at pair (Open so_far) in
    let more = c.in_ok-form.ensures.more in
    record {
      test = test;
      above = ready_side r task.candidates.now context walk.seen walk.left last (Compare at pair asked.above) asked.form
          way.1.0
          (omega (arith, fewer_left pair so_far asked.above c.requires.next c.requires.half more.0)) refl q.over
          (above_within context asked.form test)
          (standing_there r context asked.form _ at h.0 pair asked.above way.1.1.0 h.1 h.2 q.above);
      below = λ other negated. ready_side r task.candidates.now context walk.seen walk.left last
          (Compare c.in_ok-also.also pair asked.below) other way.1.0
          (omega (arith, fewer_left pair so_far asked.below c.requires.next c.requires.half more.1))
          (ap (λ (p : Position). Some p.candidate.now) c.in_ok-also.ensures)
          (below_over context asked.form other test negated) (below_within context asked.form other test negated)
          (subst (λ p. IsNext r (with_form context other) (best_in walk.seen) (Compare p pair asked.below))
          (sym c.in_ok-also.ensures)
          (standing_there r context other _ at h.0 pair asked.below way.1.1.0 h.1 h.2 (q.below other negated)));
    }

pub returns : goal.returns
returns c =
    let pair = c.args.pair in
    let so_far = c.args.so_far in
    let at = c.args.at in
    let n = length c.args.walk.now.left in
    let asked = c.in_ok-form.field-0 in
    let more = c.in_ok-form.ensures.more in
    let last = Compare at pair (Open so_far) in
    IfOk-weaker c.ask.result _ _
    (λ step told. told (most_turns (height n last))
    (turns_both (height n (Compare at pair asked.above)) (height n (Compare c.in_ok-also.also pair asked.below))
    (height n last)
    (omega (arith, fewer_left pair so_far asked.above c.requires.next c.requires.half more.0))
    (omega (arith, fewer_left pair so_far asked.below c.requires.next c.requires.half more.1)))) c.ask.ensures
