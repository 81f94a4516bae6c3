use Rattle.std.proofs.Common.{◌≡◌, ◌<◌, ◌+◌, ◌-◌, ◌++◌, map}
use Rattle.std.specs.Prelude.{slice_index}
use Rattle.std.specs.List.{range_with_len}
use Rattle.net_core.specs.declared.network.Event.TheVariants.{Get}
use Rattle.process_derive.proofs.events.add_gets.Given as goal

abbrev pub invariant-loop-get : goal.invariant-loop-get
invariant-loop-get l = record {
  added : l.events
      ≡ l.fn.events
      ++ map (λ m. Get l.found.channel (l.found.base + slice_index l.slots.slot_of_get m))
      (range_with_len l.done (l.get - l.done));
  none : l.needed < l.done → l.get ≡ l.done;
}
