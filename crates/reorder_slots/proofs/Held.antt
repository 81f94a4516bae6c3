-- What is held after a Get: the lowest free slot, and the slots with a token in one of them.
--
-- The invariant is `KeepsTokens`, before use q: each slot has the token of the last Get that took it, and each token
-- that has a use numbered q or more lies in the slot of its Get. A Get keeps it, since it takes a slot whose token has
-- no such use, or a new one: were it the slot of a wanted token, that slot wouldn't be free. Going on from use q to
-- the next makes fewer tokens wanted, which keeps it too. Nothing is said of how few slots there are.
use Rattle.std.proofs.Common.{◌≡◌, ℕ, zero, suc, ◌+◌, ◌<◌, ◌≤◌, max, true, false, List, [], ◌∷◌, ◌++◌, length, get_or}
use Rattle.std.proofs.Common.{set, take, drop, refl, sym, ap, ◌∙◌, inl, inr, arith, add-one}
use Rattle.std.proofs.lemmas.Bool.{cases_Bool, cases_lt, cases_eq, cond-true, cond-false}
use Rattle.std.proofs.lemmas.List.{set_split, take_all, drop_all, length-set, get_or-set_same, get_or-set_other}
use Rattle.std.proofs.lemmas.List.{get_or_append_left, get_or_push, length_push}
use Rattle.reorder_slots.specs.Slots.{Held, is_wanted, lowest_free, filled, after_get, after_gets}
use Rattle.reorder_slots.specs.Readers.{KeepsTokens}
use Rattle.reorder_slots.proofs.Uses.{wanted_earlier}

pub lowest_free-le : (uses : List ℕ) (q : ℕ) (slots : List ℕ) → lowest_free uses q slots ≤ length slots
lowest_free-le uses q [] = omega arith
lowest_free-le uses q (token ∷ slots) =
    elim (cases_Bool (is_wanted uses q token)) [
      | inl wanted ↦ rw wanted (omega (arith, lowest_free-le uses q slots))
      | inr free ↦ rw free (omega arith)
    ]

pub lowest_free-free : (uses : List ℕ) (q : ℕ) (slots : List ℕ) → lowest_free uses q slots < length slots
    → is_wanted uses q (get_or slots (lowest_free uses q slots) 0) ≡ false
lowest_free-free uses q [] lt = absurd (omega arith)
lowest_free-free uses q (token ∷ slots) lt =
    elim (cases_Bool (is_wanted uses q token)) [
      | inl wanted ↦
          let lt' : suc (lowest_free uses q slots) < suc (length slots) = rw wanted at lt in
          rw wanted (lowest_free-free uses q slots (omega arith))
      | inr free ↦ rw free free
    ]

-- which slot is the lowest
pub lowest_free-is : (uses : List ℕ) (q : ℕ) (slots : List ℕ) (slot : ℕ) → slot ≤ length slots
    → ((k : ℕ) → k < slot → is_wanted uses q (get_or slots k 0) ≡ true)
    → (slot < length slots → is_wanted uses q (get_or slots slot 0) ≡ false) → lowest_free uses q slots ≡ slot
lowest_free-is uses q [] slot le lower free = omega arith
lowest_free-is uses q (token ∷ slots) zero le lower free = cond-false (is_wanted uses q token) _ _ (free (omega arith))
lowest_free-is uses q (token ∷ slots) (suc slot) le lower free =
    cond-true (is_wanted uses q token) _ _ (lower 0 (omega arith))
    ∙ ap suc (lowest_free-is uses q slots slot (omega arith) (λ k lt. lower (suc k) (omega arith))
    (λ lt. free (omega arith)))

filled-old : (slots : List ℕ) (slot token : ℕ) → slot < length slots → filled slots slot token ≡ set slots slot token
filled-old slots slot token lt = rw (add-one slot) (sym (set_split slots slot token lt))

filled-new : (slots : List ℕ) (slot token : ℕ) → slot ≡ length slots → filled slots slot token ≡ slots ++ token ∷ []
filled-new slots slot token e =
    let kept : take slot slots ≡ slots = take_all slot slots (omega arith) in
    let rest : drop (slot + 1) slots ≡ [] = drop_all (slot + 1) slots (omega arith) in
    rw (kept, rest) refl

pub length-filled : (slots : List ℕ) (slot token : ℕ) → slot ≤ length slots
    → length (filled slots slot token) ≡ max (length slots) (slot + 1)
length-filled slots slot token le =
    elim (cases_lt slot (length slots)) [
      | inl lt ↦ omega (arith, ap length (filled-old slots slot token lt), length-set slots slot token)
      | inr ge ↦ omega (arith, ap length (filled-new slots slot token (omega arith)), length_push slots token)
    ]

pub filled-same : (slots : List ℕ) (slot token : ℕ) → slot ≤ length slots
    → get_or (filled slots slot token) slot 0 ≡ token
filled-same slots slot token le =
    elim (cases_lt slot (length slots)) [
      | inl lt ↦ ap (λ xs. get_or xs slot 0) (filled-old slots slot token lt) ∙ get_or-set_same slots slot token 0 lt
      | inr ge ↦
          let e : slot ≡ length slots = omega arith in
          ap (λ xs. get_or xs slot 0) (filled-new slots slot token e) ∙ get_or_push slots token 0 slot (sym e)
    ]

pub filled-other : (slots : List ℕ) (slot token k : ℕ) → slot ≤ length slots → k < length slots → (k ≡ slot → ⊥)
    → get_or (filled slots slot token) k 0 ≡ get_or slots k 0
filled-other slots slot token k le within other =
    elim (cases_lt slot (length slots)) [
      | inl lt ↦ ap (λ xs. get_or xs k 0) (filled-old slots slot token lt) ∙ get_or-set_other slots slot k token 0 other
      | inr ge ↦ ap (λ xs. get_or xs k 0) (filled-new slots slot token (omega arith))
          ∙ get_or_append_left slots (token ∷ []) 0 k within
    ]

-- one Get keeps each token that is wanted in the slot of its Get
pub KeepsTokens-get : (uses : List ℕ) (q : ℕ) (held : Held) → KeepsTokens uses q held
    → KeepsTokens uses q (after_get uses q held)
KeepsTokens-get uses q held keeps =
    let slots = held.slots in
    let gets = held.slot_of_get in
    let slot = lowest_free uses q slots in
    let new = length gets in
    let le : slot ≤ length slots = lowest_free-le uses q slots in
    let count = length-filled slots slot new le in
    let len = length_push gets slot in
    let at_new : get_or (gets ++ slot ∷ []) new 0 ≡ slot = get_or_push gets slot 0 new refl in
    let at_old : (token : ℕ) → token < length gets → get_or (gets ++ slot ∷ []) token 0 ≡ get_or gets token 0 =
    λ token lt. get_or_append_left gets (slot ∷ []) 0 token lt in
    record {
      made = λ token lt. elim (cases_eq token new) [
        | inl same ↦ omega (arith, count, at_new, ap (λ t. get_or (gets ++ slot ∷ []) t 0) same)
        | inr other ↦ omega (arith, count, at_old token (omega arith), keeps.made token (omega arith))
      ];
      got = λ s lt. elim (cases_eq s slot) [
        | inl same ↦ omega
            (arith, len, filled-same slots slot new le, ap (λ k. get_or (filled slots slot new) k 0) same)
        | inr other ↦ omega
            (arith, len, filled-other slots slot new s le (omega arith) other, keeps.got s (omega arith))
      ];
      taken = λ s lt. elim (cases_eq s slot) [
        | inl same ↦
            let here : get_or (filled slots slot new) s 0 ≡ new =
            ap (λ k. get_or (filled slots slot new) k 0) same ∙ filled-same slots slot new le in
            ap (λ t. get_or (gets ++ slot ∷ []) t 0) here ∙ at_new ∙ sym same
        | inr other ↦
            let within : s < length slots = omega arith in
            ap (λ t. get_or (gets ++ slot ∷ []) t 0) (filled-other slots slot new s le within other)
            ∙ at_old (get_or slots s 0) (keeps.got s within) ∙ keeps.taken s within
      ];
      latest = λ token lt. elim (cases_eq token new) [
        | inl same ↦
            let here : get_or (gets ++ slot ∷ []) token 0 ≡ slot =
            ap (λ t. get_or (gets ++ slot ∷ []) t 0) same ∙ at_new in
            omega (arith, ap (λ s. get_or (filled slots slot new) s 0) here, filled-same slots slot new le)
        | inr other ↦
            let old : token < length gets = omega arith in
            let here = ap (λ s. get_or (filled slots slot new) s 0) (at_old token old) in
            elim (cases_eq (get_or gets token 0) slot) [
              | inl taken ↦ omega
                  (arith, here, ap (λ s. get_or (filled slots slot new) s 0) taken, filled-same slots slot new le)
              | inr apart ↦ omega (
                arith,
                here,
                filled-other slots slot new (get_or gets token 0) le (keeps.made token old) apart,
                keeps.latest token old,
              )
            ]
      ];
      found = λ token lt wanted. elim (cases_eq token new) [
        | inl same ↦
            ap (λ s. get_or (filled slots slot new) s 0) (ap (λ t. get_or (gets ++ slot ∷ []) t 0) same ∙ at_new)
            ∙ filled-same slots slot new le ∙ sym same
        | inr other ↦
            let old : token < length gets = omega arith in
            let within = keeps.made token old in
            let here = keeps.found token old wanted in
            let apart : get_or gets token 0 ≡ slot → ⊥ = λ e.
            let free = lowest_free-free uses q slots (omega arith) in
            let taken : is_wanted uses q (get_or slots slot 0) ≡ true =
            ap (λ s. is_wanted uses q (get_or slots s 0)) (sym e) ∙ ap (is_wanted uses q) here ∙ wanted in
            cc
            in
            ap (λ s. get_or (filled slots slot new) s 0) (at_old token old)
            ∙ filled-other slots slot new (get_or gets token 0) le within apart ∙ here
      ];
    }

pub KeepsTokens-gets : (uses : List ℕ) (q gets : ℕ) (held : Held) → KeepsTokens uses q held
    → KeepsTokens uses q (after_gets uses q gets held)
KeepsTokens-gets uses q zero held keeps = keeps
KeepsTokens-gets uses q (suc gets) held keeps =
    KeepsTokens-gets uses q gets (after_get uses q held) (KeepsTokens-get uses q held keeps)

-- after use q fewer tokens are wanted
pub KeepsTokens-use : (uses : List ℕ) (q : ℕ) (held : Held) → KeepsTokens uses q held → KeepsTokens uses (q + 1) held
KeepsTokens-use uses q held keeps =
    record {
      made = keeps.made;
      got = keeps.got;
      taken = keeps.taken;
      latest = keeps.latest;
      found = λ token lt wanted. keeps.found token lt (wanted_earlier uses q token wanted);
    }
