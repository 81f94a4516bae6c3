use Rattle.std.proofs.Common.{◌≡◌, map}
use Rattle.net_core.specs.Machine.{net_of}
use Rattle.net_core.specs.Names.{tokens_before}
use Rattle.net_core.specs.Shape.{fires}
use Rattle.net_core.specs.Sound.{tag_value}
use Rattle.nest_tests.proofs.alone.values_put.Given as goal

abbrev pub invariant-loop-event : goal.invariant-loop-event
invariant-loop-event l = record {
  values_are : l.values.items
      ≡ map (tag_value l._made.nest l._inputs) (tokens_before (net_of l._made.network) l.channel l.event-index);
  fires_are : l.fires ≡ fires (net_of l._made.network) ((net_of l._made.network).writer l.channel) l.event-index;
}
