use Rattle.std.proofs.Common.{◌≡◌, rules, [], ◌++◌, arith, ap, sym, ◌∙◌, length}
use Rattle.port_items.specs.Items.{put_items}
use Rattle.port_items.specs.Walks.{behind_fire}
use Rattle.port_items.proofs.Lengths.{few_puts}
use Rattle.port_items.proofs.items.put_port.Goals as goal

pub script-requires : goal.script-requires
script-requires c =
    let none : c.loop-event.event-iterator ≡ [] = search rules in
    let whole : c.add_last_fire.new.items ≡ put_items c.args.channel c.args.script.now =
    c.in_ok-add_last_fire.ensures
    ∙ ap (λ s. c.loop-event.items ++ behind_fire c.loop-event.waiting (put_items c.args.channel s)) (sym none)
    ∙ c.loop-event.invariant in
    record {
      short = omega (arith, ap length whole, few_puts c.args.channel c.args.script.now, c.iter-event-items.ensures.few);
    }
