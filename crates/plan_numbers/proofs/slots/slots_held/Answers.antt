use Rattle.std.proofs.Common.{◌<◌, length, sym, ap, ◌∙◌, arith}
use Rattle.std.proofs.lemmas.List.{length-map}
use Rattle.channel_class.specs.Classes.{never_falls}
use Rattle.channel_plan.specs.Tokens.{tokens_below, uses_of}
use Rattle.channel_plan.proofs.OneSlot.{in_order_where}
use Rattle.plan_numbers.proofs.slots.slots_held.Goals as goal
use Rattle.reorder_slots.proofs.Laws.{one_slot}

pub returns-in-InOrder : goal.returns-in-InOrder
returns-in-InOrder c =
    let used = c.args.used.now in
    let uses = uses_of used in
    let some : 0 < length uses = omega (arith, length-map used (tokens_below used), c.requires.some) in
    let order = (in_order_where (never_falls uses)).0 (ap (λ class. class.order) (sym c.requires.class) ∙ c.in-InOrder.is) in
    sym ((one_slot uses some).1 order)
