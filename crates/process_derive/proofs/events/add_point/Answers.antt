use Rattle.std.proofs.lemmas.Result.{on_ok_weaker}
use Rattle.process_derive.specs.Uses.{uses_by_read}
use Rattle.process_derive.proofs.Points.{events_made}
use Rattle.process_derive.proofs.events.add_point.Goals as goal

pub returns : goal.returns
returns c = record {
  events = on_ok_weaker c.add_puts.result
      (events_made c.args.plans.now (uses_by_read c.args.incoming.now c.args.sources.now) c.args.outgoing.now c.args.turn
      c.args.events.now c.add_uses.new.events c.push_event.new.events c.add_puts.new.events c.in_ok-refs.refs
      c.in_ok-refs.ensures.gets c.in_ok-refs.ensures.refs c.in_ok-push_event.ensures)
      c.add_puts.ensures;
  counted = on_ok_weaker c.add_puts.result (λ h. c.in_ok-refs.ensures.counted) c.add_puts.ensures;
}
