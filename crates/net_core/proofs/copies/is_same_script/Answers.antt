use Rattle.std.proofs.Common.{◌∙◌, sym}
use Rattle.std.proofs.lemmas.Bool.{false≢true}
use Rattle.net_core.proofs.Alike.{alike_more, differ_next}
use Rattle.net_core.proofs.copies.is_same_script.Goals as goal

pub loop-event-init : goal.loop-event-init
loop-event-init c =
    let left = c.into_iter-event-iterator.ensures.into_iter_gives ∙ c.iter-event-items.ensures.items in
    let rest = c.iter-rest.ensures.items in
    (λ e. left ∙ e ∙ sym rest, λ e. sym left ∙ e ∙ rest)

pub returns-then-not-is_next : goal.returns-then-not-is_next
returns-then-not-is_next c = (
  λ e. absurd (false≢true e),
  λ e. absurd
      (differ_next c.args.script.now c.args.other.now c.loop-event.event-iterator c.loop-event.rest
      c.loop-event.invariant c.in-Some.event c.next.new.self
      c.in-Some.ensures.steps
      (c.is_next.ensures.other c.if-not-is_next.true) e),
)

pub loop-event-preserved : goal.loop-event-preserved
loop-event-preserved c =
    alike_more c.args.script.now c.args.other.now c.loop-event.event-iterator c.loop-event.rest c.loop-event.invariant
    c.in-Some.event c.next.new.self
    c.in-Some.ensures.steps c.is_next.new.rest
    (c.is_next.ensures.next c.if-not-is_next.false)
