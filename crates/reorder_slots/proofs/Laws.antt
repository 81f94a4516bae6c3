-- Each use finds its token, and one slot serves exactly where the uses never fall.
--
-- When the Gets before a use are over its token has been got and is wanted, so by `KeepsTokens` (Held) it lies in the
-- slot of its Get; a Get's slot stays as later Gets come (`stays`), so that is the slot that the plan names. For the
-- same reason no Get between takes that slot. Where the uses never fall, the only earlier token has no use left when a
-- Get comes, so one slot serves; where a use falls, two tokens must be held at once, and one slot can't.
use Rattle.std.proofs.Common.{◌≡◌, ◌↔◌, ℕ, zero, suc, ◌+◌, ◌-◌, ◌<◌, ◌≤◌, max, true, false, IsTrue, Some, List, [], ◌∷◌}
use Rattle.std.proofs.Common.{length, get_or, take, refl, sym, ap, ◌∙◌, inl, inr, arith, leb}
use Rattle.std.specs.Option.{option_map}
use Rattle.std.proofs.lemmas.Bool.{cases_lt, and_parts, and_from, leb-true, le-leb, false_from_ne_true}
use Rattle.std.proofs.lemmas.List.{take_all, length_push}
use Rattle.std.proofs.lemmas.Option.{slice_get_within, get_or_from_slice_get, slice_get-map, slice_get-get_or}
use Rattle.std.proofs.lemmas.Option.{same_Some}
use Rattle.channel_class.specs.Classes.{never_falls}
use Rattle.reorder_slots.specs.Slots.{FindsItsToken, KeepsUntilUsed, Held, after_get, after_gets, gets_for, held_after}
use Rattle.reorder_slots.specs.Slots.{hold_of, is_wanted, lowest_free, slots_of_gets}
use Rattle.reorder_slots.specs.Readers.{KeepsTokens}
use Rattle.reorder_slots.proofs.Uses.{named_before, named_below, wanted_at, wanted_from}
use Rattle.reorder_slots.proofs.Held.{KeepsTokens-get, length-filled, lowest_free-is}
use Rattle.reorder_slots.proofs.Gets.{KeepsTokens-got, KeepsTokens-held, held-more, held-zero, length-held}
use Rattle.reorder_slots.proofs.Gets.{stays}

-- the token of use q is in the slot of its Get when the Gets before use q are over
in_its_slot : (uses : List ℕ) (q : ℕ) → q < length uses
    → get_or (held_after uses (q + 1)).slots (get_or (held_after uses (q + 1)).slot_of_get (get_or uses q 0) 0) 0
    ≡ get_or uses q 0
in_its_slot uses q lt =
    (KeepsTokens-got uses q).found (get_or uses q 0)
    (omega (arith, length-held uses (q + 1), named_before uses (q + 1) q (omega arith) lt))
    (wanted_from uses q q (get_or uses q 0) (omega arith) lt refl)

-- the slot of a use is that of the Get of its token, when the Gets before it are over
pub slot_of_use : (uses : List ℕ) (q : ℕ) → q < length uses
    → get_or (slots_of_gets uses) (get_or uses q 0) 0 ≡ get_or (held_after uses (q + 1)).slot_of_get (get_or uses q 0) 0
slot_of_use uses q lt =
    stays uses (q + 1) (length uses) (get_or uses q 0) (omega arith) (named_before uses (q + 1) q (omega arith) lt)

pub finds : (uses : List ℕ) → FindsItsToken uses
finds uses = λ q token slot here at.
    let lt : q < length uses = slice_get_within uses q token here in
    let named : get_or uses q 0 ≡ token = get_or_from_slice_get uses q token 0 here in
    let held = held_after uses (q + 1) in
    let f = λ (t : ℕ). get_or (slots_of_gets uses) t 0 in
    let is_slot : f token ≡ slot =
    same_Some (f token) slot (sym (slice_get-map f uses q ∙ ap (option_map f) here) ∙ at) in
    let slot_is : get_or held.slot_of_get token 0 ≡ slot =
    ap (λ t. get_or held.slot_of_get t 0) (sym named) ∙ sym (slot_of_use uses q lt) ∙ ap f named ∙ is_slot in
    let got : token < length held.slot_of_get =
    omega (arith, named, length-held uses (q + 1), named_before uses (q + 1) q (omega arith) lt) in
    let within : slot < length held.slots = omega (arith, slot_is, (KeepsTokens-got uses q).made token got) in
    let found : get_or held.slots slot 0 ≡ token =
    ap (λ s. get_or held.slots s 0) (sym slot_is ∙ ap (λ t. get_or held.slot_of_get t 0) (sym named))
    ∙ in_its_slot uses q lt ∙ named in
    slice_get-get_or held.slots slot 0 within ∙ ap Some found

pub keeps_until_used : (uses : List ℕ) → KeepsUntilUsed uses (λ get. get_or (slots_of_gets uses) get 0)
keeps_until_used uses = λ q token get here later before same.
    let lt : q < length uses = slice_get_within uses q token here in
    let named : get_or uses q 0 ≡ token = get_or_from_slice_get uses q token 0 here in
    let held = held_after uses (q + 1) in
    let within : token < gets_for (take (q + 1) uses) = omega arith in
    let same_slot : get_or held.slot_of_get get 0 ≡ get_or held.slot_of_get token 0 =
    sym (stays uses (q + 1) (length uses) get (omega arith) before) ∙ same
    ∙ stays uses (q + 1) (length uses) token (omega arith) within in
    let in_slot : get_or held.slots (get_or held.slot_of_get token 0) 0 ≡ token =
    ap (λ t. get_or held.slots (get_or held.slot_of_get t 0) 0) (sym named) ∙ in_its_slot uses q lt ∙ named in
    omega (
      arith,
      (KeepsTokens-got uses q).latest get (omega (arith, length-held uses (q + 1))),
      ap (λ s. get_or held.slots s 0) same_slot,
      in_slot,
    )

-- uses that never fall only rise
rises : (uses : List ℕ) (q r : ℕ) → never_falls uses ≡ true → q ≤ r → r < length uses
    → get_or uses q 0 ≤ get_or uses r 0
rises [] q r h le lt = absurd (omega arith)
rises (a ∷ []) zero zero h le lt = omega arith
rises (a ∷ []) zero (suc r) h le lt = absurd (omega arith)
rises (a ∷ []) (suc q) zero h le lt = absurd (omega arith)
rises (a ∷ []) (suc q) (suc r) h le lt = absurd (omega arith)
rises (a ∷ (b ∷ uses)) zero zero h le lt = omega arith
rises (a ∷ (b ∷ uses)) zero (suc r) h le lt =
    let parts = and_parts (leb a b) (never_falls (b ∷ uses)) h in
    omega (arith, leb-true a b parts.0, rises (b ∷ uses) 0 r parts.1 (omega arith) (omega arith))
rises (a ∷ (b ∷ uses)) (suc q) zero h le lt = absurd (omega arith)
rises (a ∷ (b ∷ uses)) (suc q) (suc r) h le lt =
    let parts = and_parts (leb a b) (never_falls (b ∷ uses)) h in
    rises (b ∷ uses) q r parts.1 (omega arith) (omega arith)

never_falls-from : (uses : List ℕ) → ((k : ℕ) → suc k < length uses → get_or uses k 0 ≤ get_or uses (suc k) 0)
    → never_falls uses ≡ true
never_falls-from [] up = refl
never_falls-from (a ∷ []) up = refl
never_falls-from (a ∷ (b ∷ uses)) up =
    and_from (leb a b) (never_falls (b ∷ uses)) (le-leb a b (up 0 (omega arith)))
    (never_falls-from (b ∷ uses) (λ k lt. up (suc k) (omega arith)))

-- where the uses only rise, no Get makes a second slot
single_get : (uses : List ℕ) (q : ℕ) (held : Held) → never_falls uses ≡ true → q < length uses → KeepsTokens uses q held
    → length held.slot_of_get ≤ get_or uses q 0 → length held.slots ≤ 1 → length (after_get uses q held).slots ≤ 1
single_get uses q held order lt keeps before single =
    let over : 0 < length held.slots → is_wanted uses q (get_or held.slots 0 0) ≡ false = λ some.
    false_from_ne_true _ (λ wanted.
    let at = wanted_at uses q (get_or held.slots 0 0) wanted in
    omega (arith, at.3, keeps.got 0 some, rises uses q at.0 order at.1 at.2))
    in
    let lowest : lowest_free uses q held.slots ≡ 0 =
    lowest_free-is uses q held.slots 0 (omega arith) (λ k below. absurd (omega arith)) over in
    omega (
      arith,
      lowest,
      length-filled held.slots (lowest_free uses q held.slots) (length held.slot_of_get) (omega arith),
    )

single_gets : (uses : List ℕ) (q gets : ℕ) (held : Held) → never_falls uses ≡ true → q < length uses
    → KeepsTokens uses q held → length held.slot_of_get + gets ≤ max (length held.slot_of_get) (get_or uses q 0 + 1)
    → length held.slots ≤ 1 → length (after_gets uses q gets held).slots ≤ 1
single_gets uses q zero held order lt keeps before single = single
single_gets uses q (suc gets) held order lt keeps before single =
    single_gets uses q gets (after_get uses q held) order lt (KeepsTokens-get uses q held keeps)
    (omega (arith, length_push held.slot_of_get (lowest_free uses q held.slots)))
    (single_get uses q held order lt keeps (omega arith) single)

single : (uses : List ℕ) (q : ℕ) → never_falls uses ≡ true → q ≤ length uses → length (held_after uses q).slots ≤ 1
single uses zero order le = omega (arith, ap (λ (held : Held). length held.slots) (held-zero uses))
single uses (suc q) order le =
    let before = held_after uses q in
    let next : suc q ≡ q + 1 = omega arith in
    let gets = get_or uses q 0 + 1 - length before.slot_of_get in
    let after =
    single_gets uses q gets before order (omega arith) (KeepsTokens-held uses q) (omega arith)
    (single uses q order (omega arith)) in
    omega (
      arith,
      after,
      ap (λ (held : Held). length held.slots) (ap (held_after uses) next ∙ held-more uses q (omega arith)),
    )

-- the end has the Gets of all uses
length-end : (uses : List ℕ) → length (slots_of_gets uses) ≡ gets_for uses
length-end uses = length-held uses (length uses) ∙ ap gets_for (take_all (length uses) uses (omega arith))

some_slot : (uses : List ℕ) → 0 < length uses → 0 < hold_of uses
some_slot uses some =
    omega (
      arith,
      (KeepsTokens-held uses (length uses)).made 0 (omega (arith, length-end uses, named_below uses 0 some)),
    )

-- two tokens in one slot are one, so a use that falls needs a second slot
no_fall : (uses : List ℕ) (k : ℕ) → hold_of uses ≡ 1 → k + 1 < length uses → get_or uses k 0 ≤ get_or uses (k + 1) 0
no_fall uses k one lt =
    elim (cases_lt (get_or uses (k + 1) 0) (get_or uses k 0)) [
      | inr rise ↦ rise
      | inl fall ↦
          let first : k < length uses = omega arith in
          let made = (KeepsTokens-held uses (length uses)).made in
          let held = held_after uses (k + 1) in
          let none : get_or uses (k + 1) 0 + 1 - length held.slot_of_get ≡ 0 =
          omega (arith, length-held uses (k + 1), named_before uses (k + 1) k (omega arith) first) in
          let same : held_after uses (k + 1 + 1) ≡ held =
          held-more uses (k + 1) lt ∙ ap (λ n. after_gets uses (k + 1) n held) none in
          let slot = λ (q : ℕ). get_or (slots_of_gets uses) (get_or uses q 0) 0 in
          let zero_here : slot k ≡ 0 =
          omega (arith, made (get_or uses k 0) (omega (arith, length-end uses, named_below uses k first))) in
          let zero_next : slot (k + 1) ≡ 0 =
          omega (arith, made (get_or uses (k + 1) 0) (omega (arith, length-end uses, named_below uses (k + 1) lt))) in
          let here : get_or held.slots 0 0 ≡ get_or uses k 0 =
          ap (λ s. get_or held.slots s 0) (sym (sym (slot_of_use uses k first) ∙ zero_here))
          ∙ in_its_slot uses k first in
          let later = held_after uses (k + 1 + 1) in
          let next : get_or later.slots 0 0 ≡ get_or uses (k + 1) 0 =
          ap (λ s. get_or later.slots s 0) (sym (sym (slot_of_use uses (k + 1) lt) ∙ zero_next))
          ∙ in_its_slot uses (k + 1) lt in
          omega (arith, here, next, ap (λ (h : Held). get_or h.slots 0 0) same)
    ]

pub one_slot : (uses : List ℕ) → 0 < length uses → (hold_of uses ≡ 1) ↔ IsTrue (never_falls uses)
one_slot uses some = (
  λ one. never_falls-from uses (λ k lt.
      let next : k + 1 ≡ suc k = omega arith in
      omega (arith, no_fall uses k one (omega arith), ap (λ n. get_or uses n 0) next)),
  λ order. omega (arith, single uses (length uses) order (omega arith), some_slot uses some),
)
