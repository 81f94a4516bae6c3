-- Which slots are free: after a Get, and after a use.
use Rattle.std.proofs.Common.{◌≡◌, ℕ, ◌+◌, ◌<◌, ◌≤◌, ◌⊎◌, ◌&&◌, ◌==◌, not, Bool, true, false, cond, eqb, ltb, List}
use Rattle.std.proofs.Common.{length, get_or, refl, sym, ap, ◌∙◌, inl, inr, arith}
use Rattle.std.proofs.lemmas.Bool.{cases_lt, cases_eq, and_parts, and_cases, and_left, and_right, ltb-true, lt-ltb}
use Rattle.std.proofs.lemmas.Bool.{le-ltb, eq-eqb, ne_eqb, not-true, not-false, not_from_true, not_from_false}
use Rattle.std.proofs.lemmas.Bool.Decides.{nat_tests}
use Rattle.std.specs.Ordering.{nat_cmp, is_eq}
use Rattle.reorder_slots.specs.Slots.{Held, is_wanted, lowest_free, filled}
use Rattle.reorder_slots.specs.Readers.{KeepsTokens, is_free}
use Rattle.reorder_slots.proofs.Uses.{wanted_from, wanted_other}
use Rattle.reorder_slots.proofs.Held.{lowest_free-is, length-filled, filled-same, filled-other}

pub is_eq-nat_cmp : (a b : ℕ) → is_eq (nat_cmp a b) ≡ eqb a b
is_eq-nat_cmp a b = grind (arith, nat_tests)

free_parts : (uses : List ℕ) (q : ℕ) (slots : List ℕ) (slot : ℕ) → is_free uses q slots slot ≡ true
    → (slot < length slots) × (is_wanted uses q (get_or slots slot 0) ≡ false)
free_parts uses q slots slot h =
    let parts = and_parts (ltb slot (length slots)) (not (is_wanted uses q (get_or slots slot 0))) h in
    (ltb-true slot (length slots) parts.0, not-true _ parts.1)

wanted_unless_free : (uses : List ℕ) (q : ℕ) (slots : List ℕ) (slot : ℕ) → slot < length slots
    → is_free uses q slots slot ≡ false → is_wanted uses q (get_or slots slot 0) ≡ true
wanted_unless_free uses q slots slot lt h =
    elim (and_cases (ltb slot (length slots)) (not (is_wanted uses q (get_or slots slot 0))) h) [
      | inl past ↦ let within = lt-ltb slot (length slots) lt in cc
      | inr wanted ↦ not-false _ wanted
    ]

-- a slot that is free or new, with none free below it, is the lowest
pub taken_is_lowest : (uses : List ℕ) (q : ℕ) (slots : List ℕ) (free : ℕ → Bool) (hold slot : ℕ)
    → ((k : ℕ) → free k ≡ is_free uses q slots k) → hold ≡ length slots → ((k : ℕ) → k < slot → not (free k) ≡ true)
    → (free slot ≡ true) ⊎ (slot ≡ hold) → lowest_free uses q slots ≡ slot
taken_is_lowest uses q slots free hold slot frees holds lower taken =
    let le : slot ≤ length slots = elim taken [
      | inl old ↦ omega (arith, (free_parts uses q slots slot (sym (frees slot) ∙ old)).0)
      | inr new ↦ omega arith
    ] in
    lowest_free-is uses q slots slot le
    (λ k lt. wanted_unless_free uses q slots k (omega arith) (sym (frees k) ∙ not-true (free k) (lower k lt)))
    (λ lt. elim taken [
      | inl old ↦ (free_parts uses q slots slot (sym (frees slot) ∙ old)).1
      | inr new ↦ absurd (omega arith)
    ])

-- a slot that is taken is free no more, and the others are as before
pub free_after_get : (uses : List ℕ) (q : ℕ) (slots : List ℕ) (slot token k : ℕ) → slot ≤ length slots
    → is_wanted uses q token ≡ true
    → (not (k == slot) && is_free uses q slots k) ≡ is_free uses q (filled slots slot token) k
free_after_get uses q slots slot token k le wanted =
    let count = length-filled slots slot token le in
    elim (cases_eq k slot) [
      | inl same ↦
          let here : get_or (filled slots slot token) k 0 ≡ token =
          ap (λ s. get_or (filled slots slot token) s 0) same ∙ filled-same slots slot token le in
          and_left (not (k == slot)) (is_free uses q slots k) (not_from_true _ (eq-eqb k slot same))
          ∙ sym (and_right (ltb k (length (filled slots slot token))) _
          (not_from_true _ (ap (is_wanted uses q) here ∙ wanted)))
      | inr other ↦
          let off : not (k == slot) ≡ true = not_from_false _ (ne_eqb k slot other) in
          rw off (elim (cases_lt k (length slots)) [
            | inl within ↦
                rw (
                  lt-ltb k (length slots) within,
                  lt-ltb k (length (filled slots slot token)) (omega arith),
                  filled-other slots slot token k le within other,
                ) refl
            | inr past ↦
                rw (le-ltb k (length slots) past, le-ltb k (length (filled slots slot token)) (omega arith)) refl
          ])
    ]

-- after a use the slot of its token is free where that was its last use, and the others are as before
pub free_after_use : (uses : List ℕ) (q : ℕ) (held : Held) (token k : ℕ) → KeepsTokens uses q held → q < length uses
    → get_or uses q 0 ≡ token → token < length held.slot_of_get
    → cond (eqb (get_or held.slot_of_get token 0) k) (not (is_wanted uses (q + 1) token)) (is_free uses q held.slots k)
    ≡ is_free uses (q + 1) held.slots k
free_after_use uses q held token k keeps lt here got =
    let slot = get_or held.slot_of_get token 0 in
    let wanted : is_wanted uses q token ≡ true = wanted_from uses q q token (omega arith) lt here in
    let in_slot : get_or held.slots slot 0 ≡ token = keeps.found token got wanted in
    let made : slot < length held.slots = keeps.made token got in
    elim (cases_eq slot k) [
      | inl same ↦
          let in_k : get_or held.slots k 0 ≡ token = ap (λ s. get_or held.slots s 0) (sym same) ∙ in_slot in
          rw (eq-eqb slot k same, lt-ltb k (length held.slots) (omega arith), in_k) refl
      | inr other ↦
          rw (ne_eqb slot k other) (elim (cases_lt k (length held.slots)) [
            | inr past ↦ rw (le-ltb k (length held.slots) past) refl
            | inl within ↦
                let apart : get_or uses q 0 ≡ get_or held.slots k 0 → ⊥ = λ e.
                other (ap (λ t. get_or held.slot_of_get t 0) (sym here ∙ e) ∙ keeps.taken k within)
                in
                rw (wanted_other uses q (get_or held.slots k 0) lt apart) refl
          ])
    ]

-- the slot of a token that is in use is not free
pub used_is_not_free : (uses : List ℕ) (q : ℕ) (held : Held) (token : ℕ) → KeepsTokens uses q held → q < length uses
    → get_or uses q 0 ≡ token → token < length held.slot_of_get
    → is_free uses q held.slots (get_or held.slot_of_get token 0) ≡ false
used_is_not_free uses q held token keeps lt here got =
    let wanted : is_wanted uses q token ≡ true = wanted_from uses q q token (omega arith) lt here in
    and_right (ltb (get_or held.slot_of_get token 0) (length held.slots)) _
    (not_from_true _ (ap (is_wanted uses q) (keeps.found token got wanted) ∙ wanted))

-- how many slots there are after a Get into a free slot or a new one
pub count_after_get : (uses : List ℕ) (q : ℕ) (slots : List ℕ) (hold after slot token : ℕ) → hold ≡ length slots
    → ((is_free uses q slots slot ≡ true) × (after ≡ hold)) ⊎ ((slot ≡ hold) × (after ≡ hold + 1))
    → after ≡ length (filled slots slot token)
count_after_get uses q slots hold after slot token holds taken =
    elim taken [
      | inl old ↦
          let within = (free_parts uses q slots slot old.0).0 in
          omega (arith, old.1, length-filled slots slot token (omega arith))
      | inr new ↦ omega (arith, new.0, new.1, length-filled slots slot token (omega (arith, new.0)))
    ]
