use Rattle.std.proofs.Common.{◌≡◌}
use Rattle.std.specs.List.{flat_map, range_with_len}
use Rattle.process_derive.specs.Uses.{CountedBefore, events_at, uses_by_read}
use Rattle.process_derive.proofs.events.script_of.Given as goal

abbrev pub invariant-loop-turn : goal.invariant-loop-turn
invariant-loop-turn l = record {
  events : l.events
      ≡ flat_map (events_at l.plans (uses_by_read l.incoming l.sources) l.outgoing) (range_with_len 0 l.turn);
  counts : CountedBefore l.sources l.processes l.turn l.counts.items;
}
