use Rattle.std.proofs.Common.{◌∙◌, ◌++◌, ap, sym, arith}
use Rattle.process_derive.specs.Uses.{events_at, uses_by_read}
use Rattle.sanlp.proofs.Lists.{flat_map-range_with_len_more}
use Rattle.process_derive.proofs.events.script_of.Goals as goal

pub loop-turn-init : goal.loop-turn-init
loop-turn-init c = record { events = cc; counts = c.in_ok-counts.ensures }

pub add_point-requires-clause-there : goal.add_point-requires-clause-there
add_point-requires-clause-there c = λ k there. omega (arith, c.requires.there k there, c.loop-turn-test.true)

pub loop-turn-preserved : goal.loop-turn-preserved
loop-turn-preserved c =
    let uses = uses_by_read c.args.incoming.now c.args.sources.now in
    let events = events_at c.args.plans.now uses c.args.outgoing.now in
    record {
      events = c.in_ok-add_point.ensures.events ∙ ap (λ xs. xs ++ events c.loop-turn.turn) c.loop-turn.invariant.events
          ∙ sym (flat_map-range_with_len_more events 0 c.loop-turn.turn c.loop-turn.turn (omega arith));
      counts = c.in_ok-add_point.ensures.counted;
    }
