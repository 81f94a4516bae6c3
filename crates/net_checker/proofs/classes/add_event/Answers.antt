use Rattle.std.proofs.Common.{Some, length, slice_get, refl, sym, ap, ◌∙◌, arith}
use Rattle.std.proofs.lemmas.Result.{on_ok_weaker}
use Rattle.script_blocks.proofs.Loops.{one_longer}
use Rattle.net_core.specs.Machine.{net_of}
use Rattle.net_checker.specs.SlotRows.{slots_in}
use Rattle.net_checker.proofs.BlockUses.{event_there}
use Rattle.net_checker.proofs.ChannelUses.{collected_as, collected_fire, collected_get, collected_put, get_number}
use Rattle.net_checker.proofs.ChannelUses.{get_short, slots_got}
use Rattle.net_checker.proofs.classes.add_event.Goals as goal

pub overflow_add-gets : goal.overflow_add-gets
overflow_add-gets c =
    let net = net_of c.args.fitting.now.network.now in
    let p = c.args.process in
    let place = c.requires in
    let k = length place.before in
    let is = event_there net p c.args.event.now c.args.gets.now c.args.uses.now (slots_in c.args.slots.now) place
    ∙ ap Some c.in-Get.is in
    omega (
      arith,
      get_number net p place.first_gets place.first_uses c.args.gets.now c.args.uses.now
          (slots_in c.args.slots.now) k place.collected c.in-Get.channel c.in-Get.slot
          c.args.fitting.now.shape.shaped.wired place.fresh is,
      get_short net p k c.in-Get.channel c.in-Get.slot c.args.fitting.now.shape.shaped.wired
          c.args.fitting.now.numbers is,
    )

pub bounds-gets-channel : goal.bounds-gets-channel
bounds-gets-channel c =
    let net = net_of c.args.fitting.now.network.now in
    let p = c.args.process in
    let place = c.requires in
    let is = event_there net p c.args.event.now c.args.gets.now c.args.uses.now (slots_in c.args.slots.now) place
    ∙ ap Some c.in-Get.is in
    omega (
      arith,
      c.args.fitting.now.shape.shaped.wired.get_channel p (length place.before) c.in-Get.channel c.in-Get.slot is,
      place.collected.gets_length,
    )

pub bounds-gets-channel-in-Get : goal.bounds-gets-channel-in-Get
bounds-gets-channel-in-Get c =
    let net = net_of c.args.fitting.now.network.now in
    let p = c.args.process in
    let place = c.requires in
    let is = event_there net p c.args.event.now c.args.gets.now c.args.uses.now (slots_in c.args.slots.now) place
    ∙ ap Some c.in-Get.is in
    omega (
      arith,
      c.args.fitting.now.shape.shaped.wired.get_channel p (length place.before) c.in-Get.channel c.in-Get.slot is,
      place.collected.gets_length,
    )

pub add_fire-requires : goal.add_fire-requires
add_fire-requires c j got h =
    let net = net_of c.args.fitting.now.network.now in
    let place = c.requires in
    omega (
      arith,
      (slots_got net c.args.fitting.now.shape.shaped.wired c.args.process (length place.before) j got
          (ap (λ xs. slice_get xs j) (sym place.collected.slots_are) ∙ h)).0,
      place.collected.uses_length,
    )

pub returns-in_ok-fill-in-Get : goal.returns-in_ok-fill-in-Get
returns-in_ok-fill-in-Get c = λ place.
    let net = net_of c.args.fitting.now.network.now in
    let p = c.args.process in
    let k = length place.before in
    let is = event_there net p c.args.event.now c.args.gets.now c.args.uses.now (slots_in c.args.slots.now) place
    ∙ ap Some c.in-Get.is in
    collected_as net p place.first_gets place.first_uses _ c.args.uses.now _ k _
    (one_longer place.before c.args.event.now)
    (rw c.in_ok-fill-in-Get.ensures
    (collected_get net p place.first_gets place.first_uses c.args.gets.now c.args.uses.now
    (slots_in c.args.slots.now) k place.collected c.in-Get.channel c.in-Get.slot _
    c.args.fitting.now.shape.shaped.wired place.fresh is refl))

pub returns-in-Fire : goal.returns-in-Fire
returns-in-Fire c =
    let net = net_of c.args.fitting.now.network.now in
    let p = c.args.process in
    on_ok_weaker c.add_fire.result
    (λ added place.
    collected_as net p place.first_gets place.first_uses c.args.gets.now c.add_fire.new.uses
    (slots_in c.args.slots.now) (length place.before) _ (one_longer place.before c.args.event.now)
    (collected_fire net p place.first_gets place.first_uses c.args.gets.now c.args.uses.now
    (slots_in c.args.slots.now) (length place.before) place.collected c.in-Fire.refs c.add_fire.new.uses
    (event_there net p c.args.event.now c.args.gets.now c.args.uses.now (slots_in c.args.slots.now) place
    ∙ ap Some c.in-Fire.is) (omega arith) added)) c.add_fire.ensures

pub returns-in-Put : goal.returns-in-Put
returns-in-Put c = λ place.
    let net = net_of c.args.fitting.now.network.now in
    let p = c.args.process in
    let k = length place.before in
    let is = event_there net p c.args.event.now c.args.gets.now c.args.uses.now (slots_in c.args.slots.now) place
    ∙ ap Some c.in-Put.is in
    collected_as net p place.first_gets place.first_uses c.args.gets.now c.args.uses.now (slots_in c.args.slots.now) k _
    (one_longer place.before c.args.event.now)
    (collected_put net p place.first_gets place.first_uses c.args.gets.now c.args.uses.now
    (slots_in c.args.slots.now) k place.collected c.in-Put.channel is)
