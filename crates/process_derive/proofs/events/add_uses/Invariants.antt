use Rattle.std.proofs.Common.{◌≡◌, ◌++◌, map, take}
use Rattle.std.specs.List.{flat_map}
use Rattle.process_derive.specs.Scripts.{gets_of, ref_of}
use Rattle.process_derive.specs.Uses.{usages_at, uses_by_read}
use Rattle.process_derive.proofs.Points.{Passing}
use Rattle.process_derive.proofs.events.add_uses.Given as goal

abbrev pub invariant-loop-read : goal.invariant-loop-read
invariant-loop-read l = record {
  gets : l.events
      ≡ l.fn.events
      ++ flat_map gets_of (usages_at l.plans (take l.read (uses_by_read l.incoming l.sources)) l.turn);
  refs : l.refs ≡ map ref_of (usages_at l.plans (take l.read (uses_by_read l.incoming l.sources)) l.turn);
  counts : Passing l.sources l.processes l.turn l.read l.counts.items;
}
