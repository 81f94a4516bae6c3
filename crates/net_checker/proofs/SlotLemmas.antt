-- What lies in slots, read and filled by the row and the map.
--
-- A list of slots is what `slot_at` gives for each number below the count. Filling one slot changes that function at this number
-- alone: in the row by its place there, and else in the map, which no number of the row asks. A slot past the count changes no
-- element of the list, and so does `slice_set` past its end.
use Rattle.std.proofs.Common.{◌≡◌, ℕ, ◌<◌, ◌≤◌, cond, ltb, Option, Some, None, List, []}
use Rattle.std.proofs.Common.{◌+◌, ◌∷◌, ◌++◌, length, map, replicate, set, take, get_or, slice_get, refl, sym, ap, ap₂, ◌∙◌, inl, inr, arith, add-one}
use Rattle.std.proofs.Common.{get_or-set_same, get_or-set_other, length-set, lt-ltb, eq-eqb, ne_eqb}
use Rattle.std.specs.List.{range_with_len}
use Rattle.std.specs.Prelude.{slice_set}
use Rattle.std.specs.Ordering.{nat_cmp}
use Rattle.std.specs.BTreeMap.{get, is_at}
use Rattle.std.specs.Map.{lookup}
use Rattle.std.proofs.lemmas.Bool.{cases_eq, cases_lt, cond-true, cond-false, le-ltb}
use Rattle.std.proofs.lemmas.List.FromFn.{fill_by_all, get_or-map-range_with_len, length-map-range_with_len}
use Rattle.std.proofs.lemmas.List.{get_or-map, length-replicate, map-append, map-set}
use Rattle.plain_data.proofs.Lists.{take-suc_some, get_or-replicate_same}
use Rattle.plain_data.proofs.Tests.{is_eq-nat_cmp}
use Rattle.std.proofs.lemmas.Option.{slice_get_past, slice_get-get_or}
use Rattle.net_checker.specs.declared.slots.Slots.{Slots}
use Rattle.net_checker.specs.SlotRows.{slot_at, slots_in}

module _ {T : Type 0} (slots : Slots T) (k : ℕ) where
  -- a slot of the row
  pub in_row : k < length slots.row.items → slot_at slots k ≡ get_or slots.row.items k None
  in_row lt = cond-true (ltb k (length slots.row.items)) _ _ (lt-ltb k (length slots.row.items) lt)

  -- a slot past the row
  pub in_map : length slots.row.items ≤ k → slot_at slots k ≡ get nat_cmp slots.others k
  in_map le = cond-false (ltb k (length slots.row.items)) _ _ (le-ltb k (length slots.row.items) le)

  pub slot_there : k < slots.count → slice_get (slots_in slots) k ≡ Some (slot_at slots k)
  unfolding slots_in
  slot_there lt =
      let xs : List (Option T) = map (slot_at slots) (range_with_len 0 slots.count) in
      slice_get-get_or xs k None (omega (arith, length-map-range_with_len (slot_at slots) 0 slots.count))
      ∙ ap Some (get_or-map-range_with_len (slot_at slots) 0 slots.count k k None lt (omega arith))

  pub slot_past : slots.count ≤ k → slice_get (slots_in slots) k ≡ None
  unfolding slots_in
  slot_past le =
      slice_get_past (map (slot_at slots) (range_with_len 0 slots.count)) k
      (omega (arith, length-map-range_with_len (slot_at slots) 0 slots.count))

-- slots that are all empty
pub all_empty : {T : Type 0} (slots : Slots T) (row : ℕ) → slots.row.items ≡ replicate row None
    → slots.others.entries ≡ [] → slots_in slots ≡ replicate slots.count None
unfolding slots_in
all_empty {T} slots row is none =
    sym (fill_by_all (slot_at slots) (replicate slots.count None) slots.count None long each)
  where
    long : length (replicate {A = Option T} slots.count None) ≡ slots.count
    long = length-replicate slots.count None

    each : (k : ℕ) → k < slots.count → get_or (replicate slots.count None) k None ≡ slot_at slots k
    each k lt =
        get_or-replicate_same slots.count k None
        ∙ elim (cases_lt k (length slots.row.items)) [
          | inl there ↦
              sym (in_row slots k there ∙ ap (λ (xs : List (Option T)). get_or xs k None) is
              ∙ get_or-replicate_same row k None)
          | inr past ↦ sym (in_map slots k past ∙ ap (lookup (is_at (nat_cmp k))) none)
        ]

-- slots of which one was filled
filled : {T : Type 0} (old new : Slots T) (slot : ℕ) (x : T) → new.count ≡ old.count → slot_at new slot ≡ Some x
    → ((k : ℕ) → (k ≡ slot → ⊥) → slot_at new k ≡ slot_at old k)
    → slots_in new ≡ slice_set (slots_in old) slot (Some x)
unfolding slots_in
filled {T} old new slot x count here other =
    ap (λ (n : ℕ). map (slot_at new) (range_with_len 0 n)) count
    ∙ sym (fill_by_all (slot_at new) (set xs slot (Some x)) old.count None (length-set xs slot (Some x) ∙ long) each)
  where
    xs : List (Option T)
    xs = map (slot_at old) (range_with_len 0 old.count)

    long : length xs ≡ old.count
    long = length-map-range_with_len (slot_at old) 0 old.count

    each : (k : ℕ) → k < old.count → get_or (set xs slot (Some x)) k None ≡ slot_at new k
    each k lt = elim (cases_eq k slot) [
      | inl same ↦
          ap (λ (i : ℕ). get_or (set xs i (Some x)) k None) (sym same)
          ∙ get_or-set_same xs k (Some x) None (omega (arith, long)) ∙ sym (ap (slot_at new) same ∙ here)
      | inr apart ↦
          get_or-set_other xs slot k (Some x) None apart
          ∙ get_or-map-range_with_len (slot_at old) 0 old.count k k None lt (omega arith) ∙ sym (other k apart)
    ]

pub filled_row : {T : Type 0} (old new : Slots T) (slot : ℕ) (x : T) → new.count ≡ old.count
    → slot < length old.row.items → new.row.items ≡ set old.row.items slot (Some x) → new.others ≡ old.others
    → slots_in new ≡ slice_set (slots_in old) slot (Some x)
filled_row {T} old new slot x count there row others =
    filled old new slot x count
    (in_row new slot (omega (arith, long)) ∙ ap (λ (xs : List (Option T)). get_or xs slot None) row
    ∙ get_or-set_same old.row.items slot (Some x) None there) other
  where
    long : length new.row.items ≡ length old.row.items
    long = ap length row ∙ length-set old.row.items slot (Some x)

    other : (k : ℕ) → (k ≡ slot → ⊥) → slot_at new k ≡ slot_at old k
    other k apart = elim (cases_lt k (length old.row.items)) [
      | inl lt ↦
          in_row new k (omega (arith, long)) ∙ ap (λ (xs : List (Option T)). get_or xs k None) row
          ∙ get_or-set_other old.row.items slot k (Some x) None apart ∙ sym (in_row old k lt)
      | inr past ↦
          in_map new k (omega (arith, long)) ∙ ap (λ m. get nat_cmp m k) others ∙ sym (in_map old k past)
    ]

pub filled_map : {T : Type 0} (old new : Slots T) (slot : ℕ) (x : T) → new.count ≡ old.count
    → length old.row.items ≤ slot → new.row.items ≡ old.row.items
    → ((k : ℕ) → get nat_cmp new.others k ≡ cond (is_at (nat_cmp slot) k) (Some x) (get nat_cmp old.others k))
    → slots_in new ≡ slice_set (slots_in old) slot (Some x)
filled_map {T} old new slot x count past row others =
    filled old new slot x count
    (in_map new slot (omega (arith, long)) ∙ others slot
    ∙ cond-true (is_at (nat_cmp slot) slot) (Some x) _ (is_eq-nat_cmp slot slot ∙ eq-eqb slot slot refl)) other
  where
    long : length new.row.items ≡ length old.row.items
    long = ap length row

    other : (k : ℕ) → (k ≡ slot → ⊥) → slot_at new k ≡ slot_at old k
    other k apart = elim (cases_lt k (length old.row.items)) [
      | inl lt ↦
          in_row new k (omega (arith, long)) ∙ ap (λ (xs : List (Option T)). get_or xs k None) row
          ∙ sym (in_row old k lt)
      | inr le ↦
          in_map new k (omega (arith, long)) ∙ others k
          ∙ cond-false (is_at (nat_cmp slot) k) (Some x) _
          (is_eq-nat_cmp slot k ∙ ne_eqb slot k (λ e. apart (sym e))) ∙ sym (in_map old k le)
    ]

-- Rows of slots, one for each process

pub row_read : {T : Type 0} (all : List (Slots T)) (p : ℕ) (slots : Slots T) → p < length all
    → slots ≡ get_or all p slots → slots_in slots ≡ get_or (map slots_in all) p []
row_read all p slots lt read =
    ap slots_in read ∙ sym (get_or-map slots_in all p slots [] lt)

-- the slots of one process more
pub row_more : {T X : Type 0} (all more : List (Slots T)) (slots : Slots T) (f : X → List (Option T)) (xs : List X)
    → (at : ℕ) → (x : X) → more ≡ all ++ slots ∷ [] → map slots_in all ≡ map f (take at xs) → slots_in slots ≡ f x
    → slice_get xs at ≡ Some x → map slots_in more ≡ map f (take (at + 1) xs)
row_more {T} {X} all more slots f xs at x grown before is there =
    ap (map slots_in) grown ∙ map-append slots_in all (slots ∷ [])
    ∙ ap₂ (λ (ys : List (List (Option T))) (y : List (Option T)). ys ++ y ∷ []) before is
    ∙ sym (map-append f (take at xs) (x ∷ [])) ∙ sym (ap (map f) (ap (λ (k : ℕ). take k xs) (add-one at)
    ∙ take-suc_some xs at x there))

-- one process's slots with another in a slot
pub row_set : {T : Type 0} (all : List (Slots T)) (p : ℕ) (old new : Slots T) (slot : ℕ) (x : T) → p < length all
    → old ≡ get_or all p old → slots_in new ≡ slice_set (slots_in old) slot (Some x)
    → map slots_in (set all p new) ≡ set (map slots_in all) p (set (get_or (map slots_in all) p []) slot (Some x))
row_set {T} all p old new slot x lt read is =
    map-set slots_in all p new
    ∙ ap (λ (xs : List (Option T)). set (map slots_in all) p xs)
    (is ∙ ap (λ (xs : List (Option T)). set xs slot (Some x)) (row_read all p old lt read))
