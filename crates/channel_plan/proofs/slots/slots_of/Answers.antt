use Rattle.std.proofs.Common.{◌∙◌, ap, sym}
use Rattle.channel_class.specs.Classes.{never_falls}
use Rattle.channel_plan.proofs.Channels.{slots_if}
use Rattle.channel_plan.proofs.OneSlot.{in_order_where}
use Rattle.channel_plan.proofs.slots.slots_of.Goals as goal

pub one_slot_plan-requires-clause-order : goal.one_slot_plan-requires-clause-order
one_slot_plan-requires-clause-order c =
    (in_order_where (never_falls c.args.uses.now)).0
    (ap (λ class. class.order) (sym c.requires.class) ∙ c.in-InOrder.is)

pub returns-in-Reorder : goal.returns-in-Reorder
returns-in-Reorder c =
    let slots = c.plan.ensures in
    slots_if c.plan.result c.args.uses.now slots.gets slots.slots slots.uses slots.hold
