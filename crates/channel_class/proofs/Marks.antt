-- Repeats among the first so many uses, which are found by marks. So far no index is repeated, and an index is
-- marked exactly where one of these uses names it. It is inductive: an index that has a mark is used again, and one
-- that has none is used for the first time.
use Rattle.std.proofs.Common.{◌≡◌, ℕ, ◌+◌, ◌<◌, ◌≤◌, Bool, true, false, cond, List, [], ◌∷◌, ◌==◌, ◌||◌, take, drop}
use Rattle.std.proofs.Common.{get_or, set, length, count_by, refl, sym, ap, ◌∙◌, inl, inr, arith, eqb-true, eq-eqb, ne_eqb}
use Rattle.std.specs.List.{list_any}
use Rattle.std.proofs.lemmas.Bool.{cases_Bool, cases_eq, or_from, or_left, or_right}
use Rattle.std.proofs.lemmas.List.{get_or-set_same, get_or-set_other, take-append-drop}
use Rattle.std.proofs.lemmas.List.Folds.{list_any_more}
use Rattle.std.proofs.lemmas.List.Sums.{count_by_more_no, count_by_more_yes, sum_by-append}
use Rattle.channel_class.specs.Classes.{has_repeat}
use Rattle.channel_class.proofs.Repeats.{any_counts, count_no, counts_repeat, repeat_counts}

-- whether one of the first i uses names index t
abbrev pub is_named : List ℕ → ℕ → ℕ → Bool
is_named uses i t = list_any (λ n. t == n) (take i uses)

none_counted : (m : ℕ) (xs : List ℕ) → list_any (λ n. m == n) xs ≡ false → count_by (λ n. m == n) xs ≡ 0
none_counted m [] h = refl
none_counted m (x ∷ xs) h =
    elim (cases_Bool (m == x)) [
      | inl hit ↦ let back = or_left (m == x) (list_any (λ n. m == n) xs) hit in cc
      | inr miss ↦
          let rest : list_any (λ n. m == n) xs ≡ false = rw miss at h in
          omega (arith, count_no m x xs miss, none_counted m xs rest)
    ]

-- the first so many have no more than all
part_counted : (m i : ℕ) (xs : List ℕ) → count_by (λ n. m == n) (take i xs) ≤ count_by (λ n. m == n) xs
part_counted m i xs =
    omega (
      arith,
      ap (count_by (λ n. m == n)) (take-append-drop i xs),
      sum_by-append (λ n. cond (m == n) 1 0) (take i xs) (drop i xs),
    )

-- a use whose index is named before it
pub repeat_found : (uses : List ℕ) (i : ℕ) → i < length uses → is_named uses i (get_or uses i 0) ≡ true
    → has_repeat uses ≡ true
repeat_found uses i here again =
    let m : ℕ = get_or uses i 0 in
    counts_repeat m uses
    (omega (
      arith,
      any_counts m (take i uses) again,
      count_by_more_yes (λ n. m == n) uses i 0 here (eq-eqb m m refl),
      part_counted m (i + 1) uses,
    ))

-- a use whose index is named for the first time
pub still_none : (uses : List ℕ) (i : ℕ) → i < length uses → has_repeat (take i uses) ≡ false
    → is_named uses i (get_or uses i 0) ≡ false → has_repeat (take (i + 1) uses) ≡ false
still_none uses i here none new =
    elim (cases_Bool (has_repeat (take (i + 1) uses))) [
      | inl hit ↦
          let more = repeat_counts (take (i + 1) uses) hit in
          elim (cases_Bool (more.0 == get_or uses i 0)) [
            | inl own ↦
                let same : more.0 ≡ get_or uses i 0 = eqb-true more.0 (get_or uses i 0) own in
                let before : list_any (λ n. more.0 == n) (take i uses) ≡ false =
                ap (is_named uses i) same ∙ new in
                absurd (omega (
                  arith,
                  more.1,
                  count_by_more_yes (λ n. more.0 == n) uses i 0 here own,
                  none_counted more.0 (take i uses) before,
                ))
            | inr other ↦
                let back = counts_repeat more.0 (take i uses)
                (omega (arith, more.1, count_by_more_no (λ n. more.0 == n) uses i 0 here other)) in
                cc
          ]
      | inr miss ↦ miss
    ]

or_none : (b c : Bool) → c ≡ false → (b || c) ≡ b
or_none b c h =
    elim (cases_Bool b) [ inl hit ↦ or_left b c hit ∙ sym hit | inr miss ↦ or_from b c miss h ∙ sym miss ]

-- one mark more
pub marked_more : (uses : List ℕ) (i t : ℕ) (marks : List Bool) → i < length uses → get_or uses i 0 < length marks
    → get_or marks t false ≡ is_named uses i t
    → get_or (set marks (get_or uses i 0) true) t false ≡ is_named uses (i + 1) t
marked_more uses i t marks here within was =
    let u : ℕ = get_or uses i 0 in
    let next : is_named uses (i + 1) t ≡ (is_named uses i t || (t == u)) = list_any_more (λ n. t == n) uses i 0 here in
    elim (cases_eq t u) [
      | inl same ↦
          ap (λ k. get_or (set marks u true) k false) same ∙ get_or-set_same marks u true false within
          ∙ sym (next ∙ or_right (is_named uses i t) (t == u) (eq-eqb t u same))
      | inr ne ↦
          get_or-set_other marks u t true false ne ∙ was
          ∙ sym (next ∙ ap (λ b. is_named uses i t || b) (ne_eqb t u ne) ∙ or_none (is_named uses i t) false refl)
    ]
