use Rattle.std.proofs.Common.{◌≡◌, ◌+◌, ◌<◌, true, false, cond, eqb, length, get_or, not, sym, ap, ◌∙◌, inl, inr, refl}
use Rattle.std.proofs.Common.{arith}
use Rattle.std.proofs.lemmas.Bool.{cases_Bool, eqb-true}
use Rattle.std.proofs.lemmas.List.{get_or_read}
use Rattle.std.proofs.lemmas.Option.{slice_get_within, get_or_from_slice_get}
use Rattle.std.specs.BTreeSet.{contains}
use Rattle.std.specs.Ordering.{nat_cmp}
use Rattle.reorder_slots.specs.Slots.{is_wanted}
use Rattle.reorder_slots.specs.Readers.{is_free}
use Rattle.reorder_slots.proofs.FreeSlots.{free_after_use, used_is_not_free, is_eq-nat_cmp}
use Rattle.reorder_slots.proofs.reader.Reader.find.Goals as goal

pub returns-in_ok-insert-clause-kept : goal.returns-in_ok-insert-clause-kept
returns-in_ok-insert-clause-kept c = λ uses number held keeps tokens here is_last.
    let token = c.args.token in
    let slot = c.index-slot.result.now in
    let gets = c.args.self.now.slot_of_get in
    let lt : number < length uses = slice_get_within uses number token here in
    let named : get_or uses number 0 ≡ token = get_or_from_slice_get uses number token 0 here in
    let got : token < length held.slot_of_get = omega (arith, c.requires, gets.ok.0, ap length keeps.gets) in
    let is_slot : slot ≡ get_or held.slot_of_get token 0 =
    get_or_read gets.items token slot (omega (arith, c.requires, gets.ok.0)) c.index-slot.ensures 0
    ∙ ap (λ xs. get_or xs token 0) keeps.gets in
    let over : not (is_wanted uses (number + 1) token) ≡ true = sym is_last ∙ c.if-is_last.true in
    record {
      gets = keeps.gets;
      hold = keeps.hold;
      free = λ k.
          c.in_ok-insert.ensures.updates.0 k
          ∙ ap (λ t. cond t true (contains nat_cmp c.args.self.now.free k))
          (is_eq-nat_cmp slot k ∙ ap (λ s. eqb s k) is_slot)
          ∙ ap (λ b. cond (eqb (get_or held.slot_of_get token 0) k) true b) (keeps.free k)
          ∙ ap (λ b. cond (eqb (get_or held.slot_of_get token 0) k) b (is_free uses number held.slots k)) (sym over)
          ∙ free_after_use uses number held token k tokens lt named got;
    }

pub returns-else-is_last-clause-kept : goal.returns-else-is_last-clause-kept
returns-else-is_last-clause-kept c = λ uses number held keeps tokens here is_last.
    let token = c.args.token in
    let gets = c.args.self.now.slot_of_get in
    let lt : number < length uses = slice_get_within uses number token here in
    let named : get_or uses number 0 ≡ token = get_or_from_slice_get uses number token 0 here in
    let got : token < length held.slot_of_get = omega (arith, c.requires, gets.ok.0, ap length keeps.gets) in
    let more : not (is_wanted uses (number + 1) token) ≡ false = sym is_last ∙ c.if-is_last.false in
    let slot = get_or held.slot_of_get token 0 in
    record {
      gets = keeps.gets;
      hold = keeps.hold;
      free = λ k.
          let same : cond (eqb slot k) false (is_free uses number held.slots k) ≡ is_free uses number held.slots k =
          elim (cases_Bool (eqb slot k)) [
            | inr off ↦ rw off refl
            | inl on ↦ rw on
                (sym (ap (is_free uses number held.slots) (sym (eqb-true slot k on))
                ∙ used_is_not_free uses number held token tokens lt named got))
          ] in
          keeps.free k
          ∙ sym same
          ∙ ap (λ b. cond (eqb slot k) b (is_free uses number held.slots k)) (sym more)
          ∙ free_after_use uses number held token k tokens lt named got;
    }
