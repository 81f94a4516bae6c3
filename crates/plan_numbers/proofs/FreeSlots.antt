-- How many slots are free, and how many there are.
--
-- A slot is free before a use where its token has no use from there on. A Get fills a free slot where there is one, so that one
-- less is free, and else there is one slot more (`filled_counts`); it makes no difference which one, as all that a Get's slot
-- has from then on is the Get's token, which has a use to come. A use leaves all slots but that of its token as they were: each
-- token is in one slot at most (`use_counted`). The Gets of a use are as many as its token wants, and their tokens are named, so
-- each has a use to come.
use Rattle.std.proofs.Common.{◌≡◌, ◌≢◌, ◌<◌, ◌≤◌, ◌+◌, ◌-◌, ℕ, zero, suc, Bool, true, false, cond, not, List, [], ◌∷◌, ◌++◌, length}
use Rattle.std.proofs.Common.{get_or, take, drop, refl, sym, ap, ◌∙◌, inl, inr, arith}
use Rattle.std.proofs.lemmas.Bool.{cases_Bool}
use Rattle.std.proofs.lemmas.List.{length_push}
use Rattle.reorder_slots.specs.Slots.{Held, NamesAllBelow, after_get, after_gets, filled, gets_for, held_after, is_wanted}
use Rattle.reorder_slots.specs.Slots.{lowest_free}
use Rattle.reorder_slots.specs.Readers.{KeepsTokens}
use Rattle.reorder_slots.proofs.Gets.{KeepsTokens-got, held-more, length-held}
use Rattle.reorder_slots.proofs.Uses.{named_before, named_below, new_is_wanted, wanted_from, wanted_other}

-- the sum of these weights over a list
abbrev pub total : (ℕ → ℕ) → List ℕ → ℕ
total weight [] = 0
total weight (x ∷ xs) = weight x + total weight xs

-- 1 for a token that has no use numbered q or more
abbrev pub unused : List ℕ → ℕ → ℕ → ℕ
unused uses q token = cond (is_wanted uses q token) 0 1

-- how many of these slots are free before use q
abbrev pub free_in : List ℕ → ℕ → List ℕ → ℕ
free_in uses q slots = total (unused uses q) slots

pub few_free : (uses : List ℕ) (q : ℕ) (slots : List ℕ) → free_in uses q slots ≤ length slots
few_free uses q [] = omega arith
few_free uses q (x ∷ slots) = omega (arith, at_most (is_wanted uses q x), few_free uses q slots)
  where
    at_most : (b : Bool) → cond {A = ℕ} b 0 1 ≤ 1
    at_most true = omega arith
    at_most false = omega arith

-- A Get

filled_later : (x : ℕ) (slots : List ℕ) (slot token : ℕ) → filled (x ∷ slots) (suc slot) token ≡ x ∷ filled slots slot token
filled_later x slots slot token =
    let next : suc slot + 1 ≡ suc (slot + 1) = omega arith in
    ap (λ k. (x ∷ take slot slots) ++ token ∷ drop k (x ∷ slots)) next

-- There are one slot more and none free, or as many slots and one free less.
record TakesOne (uses : List ℕ) (q : ℕ) (before after : List ℕ) : Type 0 where
  hold : length after ≡ length before + (1 - free_in uses q before)
  free : free_in uses q after ≡ free_in uses q before - 1

filled_counts : (uses : List ℕ) (q token : ℕ) (slots : List ℕ) (slot : ℕ) → is_wanted uses q token ≡ true
    → lowest_free uses q slots ≡ slot → TakesOne uses q slots (filled slots slot token)
filled_counts uses q token [] slot wanted is =
    let one : filled [] slot token ≡ token ∷ [] = ap (λ k. filled [] k token) (sym is) in
    record {
      hold = omega (arith, ap length one);
      free = omega (arith, ap (free_in uses q) one, ap (λ b. cond {A = ℕ} b 0 1) wanted);
    }
filled_counts uses q token (x ∷ slots) slot wanted is =
    let lower = lowest_free uses q slots in
    elim (cases_Bool (is_wanted uses q x)) [
      | inl kept ↦
          let place : suc lower ≡ slot = sym (ap (λ b. cond b (suc lower) 0) kept) ∙ is in
          let same : filled (x ∷ slots) slot token ≡ x ∷ filled slots lower token =
          ap (λ k. filled (x ∷ slots) k token) (sym place) ∙ filled_later x slots lower token in
          let later = filled_counts uses q token slots lower wanted refl in
          let weight = ap (λ b. cond {A = ℕ} b 0 1) kept in
          record {
            hold = omega (arith, ap length same, later.hold, weight);
            free = omega (arith, ap (free_in uses q) same, later.free, weight);
          }
      | inr free ↦
          let place : 0 ≡ slot = sym (ap (λ b. cond b (suc lower) 0) free) ∙ is in
          let same : filled (x ∷ slots) slot token ≡ token ∷ slots = ap (λ k. filled (x ∷ slots) k token) (sym place) in
          let weight = ap (λ b. cond {A = ℕ} b 0 1) free in
          record {
            hold = omega (arith, ap length same, weight);
            free = omega (arith, ap (free_in uses q) same, weight, ap (λ b. cond {A = ℕ} b 0 1) wanted);
          }
    ]

-- So many Gets take free slots as long as there are some.
pub record TakesSlots (uses : List ℕ) (q count : ℕ) (before after : List ℕ) : Type 0 where
  pub hold : length after ≡ length before + (count - free_in uses q before)
  pub free : free_in uses q after ≡ free_in uses q before - count

gets_counted : (uses : List ℕ) (q count : ℕ) (held : Held)
    → ((token : ℕ) → length held.slot_of_get ≤ token → token < length held.slot_of_get + count
    → is_wanted uses q token ≡ true)
    → TakesSlots uses q count held.slots (after_gets uses q count held).slots
gets_counted uses q zero held wanted = record { hold = omega arith; free = omega arith }
gets_counted uses q (suc count) held wanted =
    let one =
    filled_counts uses q (length held.slot_of_get) held.slots (lowest_free uses q held.slots)
    (wanted (length held.slot_of_get) (omega arith) (omega arith)) refl in
    let longer = length_push held.slot_of_get (lowest_free uses q held.slots) in
    let later =
    gets_counted uses q count (after_get uses q held)
    (λ token from below. wanted token (omega (arith, longer)) (omega (arith, longer))) in
    record {
      hold = omega (arith, one.hold, one.free, later.hold);
      free = omega (arith, one.free, later.free);
    }

-- the Gets before use q
pub use_got : (uses : List ℕ) (q : ℕ) → NamesAllBelow uses → q < length uses
    → TakesSlots uses q (get_or uses q 0 + 1 - gets_for (take q uses)) (held_after uses q).slots
    (held_after uses (q + 1)).slots
use_got uses q dense lt =
    let held = held_after uses q in
    let many = length-held uses q in
    let count = get_or uses q 0 + 1 - length held.slot_of_get in
    let same : count ≡ get_or uses q 0 + 1 - gets_for (take q uses) = omega (arith, many) in
    let got =
    gets_counted uses q count held
    (λ token from below. new_is_wanted uses q token (dense token (omega (arith, named_below uses q lt)))
    (omega (arith, many))) in
    let after = ap (λ (h : Held). h.slots) (held-more uses q lt) in
    record {
      hold = omega (arith, ap length after, got.hold, same);
      free = omega (arith, ap (free_in uses q) after, got.free, same);
    }

-- A use

none_changes : (w v : ℕ → ℕ) (t : ℕ) → ((x : ℕ) → x ≢ t → w x ≡ v x) → (xs : List ℕ)
    → ((k : ℕ) → k < length xs → get_or xs k 0 ≢ t) → total v xs ≡ total w xs
none_changes w v t others [] none = refl
none_changes w v t others (x ∷ xs) none =
    omega (
      arith,
      others x (none 0 (omega arith)),
      none_changes w v t others xs (λ k lt. none (suc k) (omega arith)),
    )

-- a list that has t at one place alone
one_changes : (w v : ℕ → ℕ) (t d : ℕ) → v t ≡ w t + d → ((x : ℕ) → x ≢ t → w x ≡ v x) → (xs : List ℕ) (s : ℕ)
    → s < length xs → get_or xs s 0 ≡ t → ((k : ℕ) → k < length xs → get_or xs k 0 ≡ t → k ≡ s)
    → total v xs ≡ total w xs + d
one_changes w v t d here others [] s lt at only = absurd (omega arith)
one_changes w v t d here others (x ∷ xs) zero lt at only =
    omega (
      arith,
      ap v at,
      ap w at,
      here,
      none_changes w v t others xs (λ k below e. omega (arith, only (suc k) (omega arith) e)),
    )
one_changes w v t d here others (x ∷ xs) (suc s) lt at only =
    omega (
      arith,
      others x (λ e. omega (arith, only 0 (omega arith) e)),
      one_changes w v t d here others xs s (omega arith) at
          (λ k below e. omega (arith, only (suc k) (omega arith) e)),
    )

-- after use q the slot of its token is free where the token has no later use
pub use_counted : (uses : List ℕ) (q : ℕ) → q < length uses
    → free_in uses (q + 1) (held_after uses (q + 1)).slots
    ≡ free_in uses q (held_after uses (q + 1)).slots + unused uses (q + 1) (get_or uses q 0)
use_counted uses q lt =
    let held = held_after uses (q + 1) in
    let token = get_or uses q 0 in
    let keeps : KeepsTokens uses q held = KeepsTokens-got uses q in
    let got : token < length held.slot_of_get =
    omega (arith, length-held uses (q + 1), named_before uses (q + 1) q (omega arith) lt) in
    let wanted : is_wanted uses q token ≡ true = wanted_from uses q q token (omega arith) lt refl in
    one_changes (unused uses q) (unused uses (q + 1)) token (unused uses (q + 1) token)
    (omega (arith, ap (λ b. cond {A = ℕ} b 0 1) wanted))
    (λ x ne. ap (λ b. cond {A = ℕ} b 0 1) (wanted_other uses q x lt (λ e. ne (sym e))))
    held.slots (get_or held.slot_of_get token 0) (keeps.made token got) (keeps.found token got wanted)
    (λ k below e. sym (keeps.taken k below) ∙ ap (λ t. get_or held.slot_of_get t 0) e)

-- a slot more where a use is the last one, as it is counted
pub last_counted : (last wanted : Bool) → last ≡ not wanted → cond {A = ℕ} last 1 0 ≡ cond wanted 0 1
last_counted last true e = ap (λ b. cond {A = ℕ} b 1 0) e
last_counted last false e = ap (λ b. cond {A = ℕ} b 1 0) e
