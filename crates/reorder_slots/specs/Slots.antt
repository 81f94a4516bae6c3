-- The slots of a channel at its reader. A use is the number of the token that it names; Get number m takes token m.
use Rattle.std.specs.Prelude.{◌≡◌, ◌≢◌, ◌<◌, IsTrue, ℕ, zero, suc, ◌+◌, ◌-◌, Bool, List, [], ◌∷◌, ◌++◌, map, length, take, drop, max, ◌==◌, Some, slice_get, slice_index_or, if◌then◌else◌}
use Rattle.std.specs.List.{list_any, range_with_len}

-- how many Gets stand before the last of these uses: 1 and the greatest token of them
abbrev pub gets_for : List ℕ → ℕ
gets_for [] = 0
gets_for (token ∷ uses) = max (token + 1) (gets_for uses)

-- a token has a use numbered q or more
abbrev pub is_wanted : List ℕ → ℕ → ℕ → Bool
is_wanted uses q token = list_any (λ named. named == token) (drop q uses)

-- The token in each slot, and the slot of each Get so far.
pub record Held : Type 0 where
  pub slots : List ℕ
  pub slot_of_get : List ℕ

-- before the first Get
abbrev pub nothing_held : Held
nothing_held = record { slots = []; slot_of_get = [] }

-- the lowest slot that is free before use q: its token has no use numbered q or more; else a new one
abbrev pub lowest_free : List ℕ → ℕ → List ℕ → ℕ
lowest_free uses q [] = 0
lowest_free uses q (token ∷ slots) =
    if is_wanted uses q token then suc (lowest_free uses q slots) else 0

-- the slots with this token in one of them, or in a new one
abbrev pub filled : List ℕ → ℕ → ℕ → List ℕ
filled slots slot token = take slot slots ++ token ∷ drop (slot + 1) slots

-- one Get before use q
abbrev pub after_get : List ℕ → ℕ → Held → Held
after_get uses q held =
    let slot = lowest_free uses q held.slots in
    record {
      slots = filled held.slots slot
          (length held.slot_of_get);
      slot_of_get = held.slot_of_get ++ slot ∷ [];
    }

-- so many Gets before use q
abbrev pub after_gets : List ℕ → ℕ → ℕ → Held → Held
after_gets uses q zero held = held
after_gets uses q (suc gets) held = after_gets uses q gets (after_get uses q held)

-- what is held after the Gets that stand before the first so many uses
unfoldable pub held_after : List ℕ → ℕ → Held
held_after uses zero = nothing_held
held_after uses (suc q) =
    let held = held_after uses q in
    after_gets uses q (gets_for (take (q + 1) uses) - length held.slot_of_get) held

-- what is held at the end
abbrev pub held_in_the_end : List ℕ → Held
held_in_the_end uses = held_after uses (length uses)

-- for each use, how many Gets stand before it
abbrev pub gets_before : List ℕ → List ℕ
gets_before uses = map (λ q. gets_for (take (q + 1) uses)) (range_with_len 0 (length uses))

-- the slot of each Get
abbrev pub slots_of_gets : List ℕ → List ℕ
slots_of_gets uses = (held_in_the_end uses).slot_of_get

-- the slot of each use: that of the Get of its token
abbrev pub slots_of_uses : List ℕ → List ℕ
slots_of_uses uses = map (λ token. slice_index_or (slots_of_gets uses) token 0) uses

-- how many slots were made
abbrev pub hold_of : List ℕ → ℕ
hold_of uses = length (held_in_the_end uses).slots

-- Each use finds its token in the slot that is named for it.
abbrev pub FindsItsToken : List ℕ → Type 0
FindsItsToken uses =
    (q token slot : ℕ) → slice_get uses q ≡ Some token
    → slice_get (slots_of_uses uses) q ≡ Some slot
    → slice_get (held_after uses (q + 1)).slots slot ≡ Some token

-- Where the Gets are given these slots, between the Get of a token and a use of it no other Get takes its slot.
abbrev pub KeepsUntilUsed : List ℕ → (ℕ → ℕ) → Type 0
KeepsUntilUsed uses slot_of =
    (q token get : ℕ) → slice_get uses q ≡ Some token → token < get
    → get < gets_for (take (q + 1) uses) → slot_of get ≢ slot_of token

-- the uses name every token below their greatest
abbrev pub NamesAllBelow : List ℕ → Type 0
NamesAllBelow uses = (token : ℕ) → token < gets_for uses
    → IsTrue (list_any (λ named. named == token) uses)
