use Rattle.std.proofs.Common.{◌≡◌, ◌≤◌, ◌⊎◌, ◌&&◌, ◌++◌, ◌∷◌, [], true, eqb, length, not, sym, ap, ◌∙◌, inl, inr, arith}
use Rattle.std.specs.BTreeSet.{contains}
use Rattle.std.specs.Ordering.{nat_cmp}
use Rattle.reorder_slots.specs.Slots.{is_wanted, lowest_free, filled}
use Rattle.reorder_slots.specs.Readers.{is_free}
use Rattle.reorder_slots.proofs.FreeSlots.{free_after_get, taken_is_lowest, count_after_get}
use Rattle.reorder_slots.proofs.Held.{lowest_free-le}
use Rattle.reorder_slots.proofs.reader.Reader.get.Goals as goal

pub returns-clause-kept : goal.returns-clause-kept
returns-clause-kept c = λ uses number held keeps wanted.
    let taken = c.take_slot-slot.ensures in
    let slot = c.take_slot-slot.result in
    let before = c.args.self.now in
    let found : (contains nat_cmp before.free slot ≡ true) ⊎ (slot ≡ before.hold) =
    elim taken.free_or_new [ inl old ↦ inl old.0 | inr new ↦ inr new.0 ] in
    let lowest : lowest_free uses number held.slots ≡ slot =
    taken_is_lowest uses number held.slots
    (contains nat_cmp before.free) before.hold slot keeps.free keeps.hold taken.lowest found in
    let le : slot ≤ length held.slots = omega (arith, lowest_free-le uses number held.slots) in
    let new : before.slot_of_get.len ≡ length held.slot_of_get = before.slot_of_get.ok.0 ∙ ap length keeps.gets in
    let next_wanted : is_wanted uses number (length held.slot_of_get) ≡ true =
    ap (is_wanted uses number) (sym new) ∙ wanted in
    let with_lowest = ap (λ s. filled held.slots s (length held.slot_of_get)) (sym lowest) in
    record {
      gets = c.in_ok-push.ensures.items ∙ ap (λ xs. xs ++ slot ∷ []) (taken.gets ∙ keeps.gets)
          ∙ ap (λ s. held.slot_of_get ++ s ∷ []) (sym lowest);
      hold = count_after_get uses number held.slots before.hold c.take_slot-slot.new.self.hold slot
          (length held.slot_of_get) keeps.hold
          (elim taken.free_or_new [
            | inl old ↦ inl (sym (keeps.free slot) ∙ old.0, old.1)
            | inr fresh ↦ inr (fresh.0, fresh.1)
          ]) ∙ ap length with_lowest;
      free = λ k. taken.taken k ∙ ap (λ b. not (eqb k slot) && b) (keeps.free k)
          ∙ free_after_get uses number held.slots slot (length held.slot_of_get) k le next_wanted
          ∙ ap (λ slots. is_free uses number slots k) with_lowest;
    }
