-- What a writer to a sink was given.
use Rattle.std.specs.Prelude.{◌++◌}
use Rattle.io_edge.specs.declared.edge.Sink.{Ghosts}
use Rattle.text_out.specs.declared.writer.Writer.{Writer}
use Rattle.text_out.specs.Wrote.{Given}

-- what was handed to the sink, and what waits
abbrev pub given_of : {K : Type 0} (S : Ghosts K) → Writer K S → Given
given_of sinks w = record {
  start = record {
    sink = w.sink.ghost_name;
    held = sinks.held w.past.start;
    faults = sinks.faults w.past.start;
  };
  text = w.past.text ++ w.waiting;
}

-- the sink as it is now
abbrev pub sink_of : {K : Type 0} {S : Ghosts K} → Writer K S → K
sink_of w = w.sink.now
