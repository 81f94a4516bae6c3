use Rattle.std.proofs.Common.{◌≡◌, Some, None, length, slice_get, refl, sym, ap, ◌∙◌, arith, ltb-true}
use Rattle.std.proofs.Common.{ltb-false}
use Rattle.std.proofs.lemmas.Option.{get_or_from_slice_get, slice_get_read, slice_get_within}
use Rattle.net_checker.proofs.SlotLemmas.{in_map, in_row, slot_past, slot_there}
use Rattle.net_checker.proofs.slots.Slots.get.Goals as goal

pub returns-then-slot-self : goal.returns-then-slot-self
returns-then-slot-self g c = sym (slot_past c.args.self.now c.args.slot (omega arith))

pub returns-in-Some : goal.returns-in-Some
returns-in-Some g c =
    let self = c.args.self.now in
    let look = c.in-Some.ensures.lookup in
    let found : slice_get c.deref.result.now c.args.slot ≡ Some c.in-Some.token.now =
    slice_get_read c.deref.result.now (length c.deref.result.now) c.args.slot c.in-Some.token.now refl
    (ltb-true _ _ (sym look.0)) look.1 in
    let at = ap (λ row. slice_get row c.args.slot) (sym c.deref.ensures.value) ∙ found in
    sym (slot_there self c.args.slot (omega arith)
    ∙ ap Some (in_row self c.args.slot (slice_get_within self.row.items c.args.slot c.in-Some.token.now at)
    ∙ get_or_from_slice_get self.row.items c.args.slot c.in-Some.token.now None at))

pub returns-in-None : goal.returns-in-None
returns-in-None g c =
    let self = c.args.self.now in
    let look = c.in-None.ensures.lookup in
    let past = ltb-false c.args.slot (length c.deref.result.now) (sym look.0) in
    ap Some (c.copied.ensures ∙ c.get-in-None.ensures.value
    ∙ sym (in_map self c.args.slot (omega (arith, past, ap length c.deref.ensures.value))))
    ∙ sym (slot_there self c.args.slot (omega arith))
