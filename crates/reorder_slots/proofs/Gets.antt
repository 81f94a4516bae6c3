-- What is held before each use.
use Rattle.std.proofs.Common.{◌≡◌, ℕ, zero, suc, ◌+◌, ◌-◌, ◌<◌, ◌≤◌, List, [], ◌∷◌, length, get_or, take, refl, sym, ap}
use Rattle.std.proofs.Common.{◌∙◌, subst, inl, inr, arith}
use Rattle.std.proofs.lemmas.Bool.{cases_lt}
use Rattle.std.proofs.lemmas.List.{length_push, get_or_append_left}
use Rattle.reorder_slots.specs.Slots.{Held, gets_for, held_after, after_get, after_gets, lowest_free, nothing_held}
use Rattle.reorder_slots.specs.Readers.{KeepsTokens}
use Rattle.reorder_slots.proofs.Uses.{gets_for-grows, gets_for-more}
use Rattle.reorder_slots.proofs.Held.{KeepsTokens-gets, KeepsTokens-use}

-- one Get more
pub after_gets-more : (uses : List ℕ) (q gets more : ℕ) (held : Held) → more ≡ gets + 1
    → after_gets uses q more held ≡ after_get uses q (after_gets uses q gets held)
after_gets-more uses q gets zero held e = absurd (omega arith)
after_gets-more uses q zero (suc more) held e =
    let none : more ≡ 0 = omega arith in
    ap (λ n. after_gets uses q n (after_get uses q held)) none
after_gets-more uses q (suc gets) (suc more) held e =
    after_gets-more uses q gets more (after_get uses q held) (omega arith)

pub length-after_gets : (uses : List ℕ) (q gets : ℕ) (held : Held)
    → length (after_gets uses q gets held).slot_of_get ≡ length held.slot_of_get + gets
length-after_gets uses q zero held = omega arith
length-after_gets uses q (suc gets) held =
    omega (
      arith,
      length-after_gets uses q gets (after_get uses q held),
      length_push held.slot_of_get (lowest_free uses q held.slots),
    )

-- the slot of a Get stays
stays-gets : (uses : List ℕ) (q gets token : ℕ) (held : Held) → token < length held.slot_of_get
    → get_or (after_gets uses q gets held).slot_of_get token 0 ≡ get_or held.slot_of_get token 0
stays-gets uses q zero token held lt = refl
stays-gets uses q (suc gets) token held lt =
    let slot = lowest_free uses q held.slots in
    stays-gets uses q gets token (after_get uses q held) (omega (arith, length_push held.slot_of_get slot))
    ∙ get_or_append_left held.slot_of_get (slot ∷ []) 0 token lt

pub held-zero : (uses : List ℕ) → held_after uses 0 ≡ nothing_held
unfolding held_after
held-zero uses = refl

held-suc : (uses : List ℕ) (q : ℕ)
    → held_after uses (suc q)
    ≡ after_gets uses q (gets_for (take (q + 1) uses) - length (held_after uses q).slot_of_get) (held_after uses q)
unfolding held_after
held-suc uses q = refl

pub length-held : (uses : List ℕ) (q : ℕ) → length (held_after uses q).slot_of_get ≡ gets_for (take q uses)
length-held uses zero = ap (λ (held : Held). length held.slot_of_get) (held-zero uses)
length-held uses (suc q) =
    let before = held_after uses q in
    let gets = gets_for (take (q + 1) uses) - length before.slot_of_get in
    let next : q + 1 ≡ suc q = omega arith in
    omega (
      arith,
      ap (λ (held : Held). length held.slot_of_get) (held-suc uses q),
      length-after_gets uses q gets before,
      length-held uses q,
      gets_for-grows uses q,
      ap (λ n. gets_for (take n uses)) next,
    )

-- before use q stand so many Gets more than before the use before it
pub held-more : (uses : List ℕ) (q : ℕ) → q < length uses
    → held_after uses (q + 1)
    ≡ after_gets uses q (get_or uses q 0 + 1 - length (held_after uses q).slot_of_get) (held_after uses q)
held-more uses q lt =
    let next : q + 1 ≡ suc q = omega arith in
    let count : gets_for (take (q + 1) uses) - length (held_after uses q).slot_of_get
    ≡ get_or uses q 0 + 1 - length (held_after uses q).slot_of_get =
    omega (arith, gets_for-more uses q lt, length-held uses q) in
    ap (held_after uses) next ∙ held-suc uses q ∙ ap (λ n. after_gets uses q n (held_after uses q)) count

pub KeepsTokens-nothing : (uses : List ℕ) (q : ℕ) → KeepsTokens uses q nothing_held
KeepsTokens-nothing uses q = record {
  made = λ token lt. absurd (omega arith);
  got = λ slot lt. absurd (omega arith);
  taken = λ slot lt. absurd (omega arith);
  latest = λ token lt. absurd (omega arith);
  found = λ token lt wanted. absurd (omega arith);
}

-- each token that is wanted is in the slot of its Get, before the Gets of a use and after them
pub KeepsTokens-held : (uses : List ℕ) (q : ℕ) → KeepsTokens uses q (held_after uses q)
KeepsTokens-held uses zero = subst (KeepsTokens uses 0) (sym (held-zero uses)) (KeepsTokens-nothing uses 0)
KeepsTokens-held uses (suc q) =
    let before = held_after uses q in
    let gets = gets_for (take (q + 1) uses) - length before.slot_of_get in
    let next : q + 1 ≡ suc q = omega arith in
    let now =
    KeepsTokens-use uses q (after_gets uses q gets before)
    (KeepsTokens-gets uses q gets before (KeepsTokens-held uses q)) in
    subst (λ n. KeepsTokens uses n (held_after uses (suc q))) next
    (subst (KeepsTokens uses (q + 1)) (sym (held-suc uses q)) now)

pub KeepsTokens-got : (uses : List ℕ) (q : ℕ) → KeepsTokens uses q (held_after uses (q + 1))
KeepsTokens-got uses q =
    let before = held_after uses q in
    let gets = gets_for (take (q + 1) uses) - length before.slot_of_get in
    let next : q + 1 ≡ suc q = omega arith in
    subst (KeepsTokens uses q) (sym (ap (held_after uses) next ∙ held-suc uses q))
    (KeepsTokens-gets uses q gets before (KeepsTokens-held uses q))

-- later uses have no fewer Gets before them
pub more_gets : (uses : List ℕ) (q r : ℕ) → q ≤ r → gets_for (take q uses) ≤ gets_for (take r uses)
more_gets uses q zero le =
    let same : q ≡ 0 = omega arith in
    omega (arith, ap (λ n. gets_for (take n uses)) same)
more_gets uses q (suc r) le =
    let next : r + 1 ≡ suc r = omega arith in
    elim (cases_lt r q) [
      | inl above ↦
          let same : q ≡ suc r = omega arith in
          omega (arith, ap (λ n. gets_for (take n uses)) same)
      | inr below ↦ omega
          (arith, more_gets uses q r below, gets_for-grows uses r, ap (λ n. gets_for (take n uses)) next)
    ]

pub stays : (uses : List ℕ) (q r token : ℕ) → q ≤ r → token < gets_for (take q uses)
    → get_or (held_after uses r).slot_of_get token 0 ≡ get_or (held_after uses q).slot_of_get token 0
stays uses q zero token le lt =
    let same : 0 ≡ q = omega arith in
    ap (λ n. get_or (held_after uses n).slot_of_get token 0) same
stays uses q (suc r) token le lt =
    elim (cases_lt r q) [
      | inl above ↦
          let same : suc r ≡ q = omega arith in
          ap (λ n. get_or (held_after uses n).slot_of_get token 0) same
      | inr below ↦
          let before = held_after uses r in
          let gets = gets_for (take (r + 1) uses) - length before.slot_of_get in
          ap (λ (held : Held). get_or held.slot_of_get token 0) (held-suc uses r)
          ∙ stays-gets uses r gets token before (omega (arith, length-held uses r, more_gets uses q r below))
          ∙ stays uses q r token below lt
    ]
