use Rattle.std.proofs.Common.{◌≡◌, ◌+◌, ◌≤◌, ◌<◌, ◌^◌, ◌++◌, length}
use Rattle.vhdl_text.specs.Pieces.{event_entries}
use Rattle.vhdl_text.proofs.constants.write_event_entries.Given as goal

-- What was given, with the entries of the events that are left, is what was given before and all entries. The fires so far
-- are at most the events so far, and these and those that are left are few.
abbrev pub invariant-loop-event : goal.invariant-loop-event
invariant-loop-event g l =
    let given = g.W.TextWriter.given in
    record {
      start : (given l.out).start ≡ (given l.fn.out).start;
      text : (given l.out).text ++ event_entries l.column l.index l.fires l.event-iterator
          ≡ (given l.fn.out).text ++ event_entries l.column 0 0 l.events;
      fires : l.fires ≤ l.index;
      few : l.index + length l.event-iterator < 2 ^ 32;
    }
