-- Lists of channels, and slots by their numbers.
--
-- The channels of a process are those numbers below the number of channels that pass a test. All of them pass
-- another test where each number does that passes the first (`all_from`, `all_at`). One that is found passes both,
-- and where none is found no number does (`found`, `not_found`). All by induction over the numbers that are left,
-- from any number on. Of slots it is said what is read where one was set, and that two lists with the same items
-- are one. What a slot holds isn't told here.
use Rattle.std.proofs.Common.{◌≡◌, ℕ, zero, suc, ◌+◌, ◌<◌, ◌≤◌, Bool, true, cond, Some, None, List, ◌∷◌}
use Rattle.std.proofs.Common.{length, slice_get, slice_set, option_map, ap, sym, ◌∙◌, refl, inl, inr, arith}
use Rattle.std.specs.Prelude.{find, unwrap_or}
use Rattle.std.specs.List.{filter, list_all, range_with_len}
use Rattle.plain_data.proofs.Lists.{slice_get-set_same}
use Rattle.std.proofs.lemmas.List.{length-set, same_lists}
use Rattle.std.proofs.lemmas.Option.{slice_get_cases, slice_get_past, unwrap_or-slice_get}
use Rattle.std.proofs.lemmas.Bool.{and_from, and_parts, both_ways, cases_Bool, cases_eq, cases_lt, cond-true, cond-false}

-- those of some numbers in a row that pass a test
abbrev passing : (ℕ → Bool) → ℕ → ℕ → List ℕ
passing test a m = filter test (range_with_len a m)

module _ (test other : ℕ → Bool) where
  pub all_from : (m a : ℕ) → ((c : ℕ) → a ≤ c → c < a + m → test c ≡ true → other c ≡ true)
      → list_all other (passing test a m) ≡ true
  all_from zero a each = refl
  all_from (suc m) a each =
      let later = all_from m (a + 1) (λ c low high. each c (omega arith) (omega arith)) in
      elim (cases_Bool (test a)) [
        | inl on ↦
            ap (list_all other) (cond-true (test a) (a ∷ passing test (a + 1) m) (passing test (a + 1) m) on)
            ∙ and_from (other a) (list_all other (passing test (a + 1) m)) (each a (omega arith) (omega arith) on) later
        | inr off ↦
            ap (list_all other) (cond-false (test a) (a ∷ passing test (a + 1) m) (passing test (a + 1) m) off) ∙ later
      ]

  pub all_at : (m a : ℕ) → list_all other (passing test a m) ≡ true → (c : ℕ) → a ≤ c → c < a + m → test c ≡ true
      → other c ≡ true
  all_at zero a all c low high on = absurd (omega arith)
  all_at (suc m) a all c low high on =
      let rest = passing test (a + 1) m in
      elim (cases_Bool (test a)) [
        | inl here ↦
            let both = and_parts (other a) (list_all other rest)
            (sym (ap (list_all other) (cond-true (test a) (a ∷ rest) rest here)) ∙ all) in
            elim (cases_eq c a) [
              | inl same ↦ ap other same ∙ both.0
              | inr d ↦ all_at m (a + 1) both.1 c (above c low d) (omega arith) on
            ]
        | inr off ↦
            let later = sym (ap (list_all other) (cond-false (test a) (a ∷ rest) rest off)) ∙ all in
            elim (cases_eq c a) [
              | inl same ↦ absurd (both_ways (test a) off (ap test (sym same) ∙ on))
              | inr d ↦ all_at m (a + 1) later c (above c low d) (omega arith) on
            ]
      ]
    where
      above : (c : ℕ) → a ≤ c → (c ≡ a → ⊥) → a + 1 ≤ c
      above c low d = elim (cases_lt a c) [ inl lt ↦ omega arith | inr ge ↦ absurd (d (omega arith)) ]

  -- what is found passes both tests
  pub found : (m a c : ℕ) → find other (passing test a m) ≡ Some c → (test c ≡ true) × (other c ≡ true)
  found zero a c is = absurd (cc)
  found (suc m) a c is =
      let rest = passing test (a + 1) m in
      elim (cases_Bool (test a)) [
        | inl on ↦
            let is' : cond (other a) (Some a) (find other rest) ≡ Some c =
            sym (ap (find other) (cond-true (test a) (a ∷ rest) rest on)) ∙ is in
            elim (cases_Bool (other a)) [
              | inl this ↦
                  let both : Some a ≡ Some c = sym (cond-true (other a) (Some a) (find other rest) this) ∙ is' in
                  let same : a ≡ c = cc in
                  (ap test (sym same) ∙ on, ap other (sym same) ∙ this)
              | inr past ↦ found m (a + 1) c (sym (cond-false (other a) (Some a) (find other rest) past) ∙ is')
            ]
        | inr off ↦ found m (a + 1) c (sym (ap (find other) (cond-false (test a) (a ∷ rest) rest off)) ∙ is)
      ]

  -- where none is found none passes both
  pub not_found : (m a : ℕ) → find other (passing test a m) ≡ None → (c : ℕ) → a ≤ c → c < a + m → test c ≡ true
      → other c ≡ true → ⊥
  not_found zero a none c low high on also = absurd (omega arith)
  not_found (suc m) a none c low high on also =
      let rest = passing test (a + 1) m in
      elim (cases_Bool (test a)) [
        | inl here ↦
            let none' : cond (other a) (Some a) (find other rest) ≡ None =
            sym (ap (find other) (cond-true (test a) (a ∷ rest) rest here)) ∙ none in
            elim (cases_Bool (other a)) [
              | inl this ↦
                  let wrong : Some a ≡ None = sym (cond-true (other a) (Some a) (find other rest) this) ∙ none' in
                  absurd (cc)
              | inr past ↦
                  elim (cases_eq c a) [
                    | inl same ↦ both_ways (other a) past (ap other (sym same) ∙ also)
                    | inr d ↦
                        not_found m (a + 1) (sym (cond-false (other a) (Some a) (find other rest) past) ∙ none') c
                        (above c low d) (omega arith) on also
                  ]
            ]
        | inr off ↦
            elim (cases_eq c a) [
              | inl same ↦ both_ways (test a) off (ap test (sym same) ∙ on)
              | inr d ↦
                  not_found m (a + 1) (sym (ap (find other) (cond-false (test a) (a ∷ rest) rest off)) ∙ none) c
                  (above c low d) (omega arith) on also
            ]
      ]
    where
      above : (c : ℕ) → a ≤ c → (c ≡ a → ⊥) → a + 1 ≤ c
      above c low d = elim (cases_lt a c) [ inl lt ↦ omega arith | inr ge ↦ absurd (d (omega arith)) ]

-- Slots

-- what is read where an item was set, if there is a place
pub set_here : {A : Type 0} (xs : List A) (k : ℕ) (y : A)
    → slice_get (slice_set xs k y) k ≡ option_map (λ x. y) (slice_get xs k)
set_here xs k y =
    elim (slice_get_cases xs k).1 [
      | inl x ↦ slice_get-set_same xs k y x.1 ∙ sym (ap (option_map (λ z. y)) x.2)
      | inr past ↦
          slice_get_past (slice_set xs k y) k (omega (arith, past.0, length-set xs k y))
          ∙ sym (ap (option_map (λ z. y)) past.1)
    ]

-- a list is given by its length and its items
pub same_items : {A : Type 0} (xs ys : List A) → length xs ≡ length ys
    → ((k : ℕ) → k < length xs → slice_get xs k ≡ slice_get ys k) → xs ≡ ys
same_items xs ys long each =
    same_lists xs ys long
    (λ k d lt.
    sym (unwrap_or-slice_get xs k d) ∙ ap (λ o. unwrap_or o d) (each k lt) ∙ unwrap_or-slice_get ys k d)
