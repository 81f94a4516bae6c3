use Rattle.std.proofs.Common.{◌≡◌, ◌∙◌, ◌++◌, ◌+◌, ℕ, length, refl, ap, arith}
use Rattle.vhdl_text.specs.Pieces.{event_entries}
use Rattle.vhdl_text.proofs.Columns.{entries_next, fires_few}
use Rattle.vhdl_text.proofs.constants.write_event_entries.Goals as goal

pub loop-event-init : goal.loop-event-init
loop-event-init g c =
    let left = c.into_iter-event-iterator.ensures.into_iter_gives ∙ c.iter-event-items.ensures.items in
    record {
      start = refl;
      text = rw left refl;
      fires = omega arith;
      few = omega (arith, ap length left, c.iter-event-items.ensures.few);
    }

pub fires_after-fires-requires : goal.fires_after-fires-requires
fires_after-fires-requires g c = omega (arith, c.loop-event.invariant.fires, c.loop-event.invariant.few)

pub loop-event-preserved : goal.loop-event-preserved
loop-event-preserved g c =
    let w = g.W.TextWriter.given in
    let h = c.loop-event.invariant in
    let later = c.next.new.self in
    let i = c.loop-event.index in
    record {
      start = c.write_event_entry.ensures.0 ∙ h.start;
      text = ap (λ (f : ℕ). (w c.write_event_entry.new.out).text ++ event_entries c.args.column (i + 1) f later)
          c.fires_after-fires.ensures
          ∙ entries_next w c.args.column i c.loop-event.fires c.loop-event.event-iterator later c.in-Some.event _
          c.in-Some.ensures.steps h.text c.write_event_entry.ensures;
      fires = omega (arith, h.fires, c.fires_after-fires.ensures, fires_few c.loop-event.fires c.in-Some.event);
      few = omega (arith, h.few, ap length c.in-Some.ensures.steps);
    }
