-- What a walk over some places of a list changes.
--
-- The list is that of a function at all numbers below a bound. The walk goes through the numbers that are kept,
-- ascending, and where a test passes it puts there what another function makes of the element. By induction on how many
-- numbers are left: each is met at most once, and what was put at a lower one isn't looked at again. So at the end the
-- element of each number that is kept and passes is changed once, and all others are as they were.
use Rattle.std.proofs.Common.{◌≡◌, ℕ, zero, suc, ◌+◌, ◌<◌, ◌≤◌, Bool, cond, List, map, set}
use Rattle.std.proofs.Common.{refl, sym, ap, ◌∙◌, inl, inr, arith}
use Rattle.std.specs.Prelude.{◌&&◌, if◌then◌else◌, slice_index_or, slice_set}
use Rattle.std.specs.List.{filter, fold, range_with_len}
use Rattle.std.proofs.lemmas.Bool.{cases_Bool, cases_eq}
use Rattle.std.proofs.lemmas.List.FromFn.{get_or-map-range_with_len}
use Rattle.net_core.specs.Machine.{replaced}
use Rattle.net_core.proofs.EventCounts.{replaced_other, replaced_same}
use Rattle.sanlp.proofs.Lists.{map-range_with_len_same}
use Rattle.net_core.proofs.CountedLists.{set_at}

module _ {X : Type 0} (default : X) (keep test : ℕ → Bool) (h : ℕ → X → X) where
  -- one place
  abbrev pub step : List X → ℕ → List X
  step xs c = if test c then slice_set xs c (h c (slice_index_or xs c default)) else xs

  -- an element after its place was passed
  abbrev pub changed : (ℕ → X) → ℕ → X
  changed f c = if keep c && test c then h c (f c) else f c

  same_map : (f g : ℕ → X) (many : ℕ) → ((c : ℕ) → c < many → f c ≡ g c)
      → map f (range_with_len 0 many) ≡ map g (range_with_len 0 many)
  same_map f g many same = map-range_with_len_same f g 0 many (λ k from below. same k (omega arith))

  module _ (many : ℕ) (f g : ℕ → X) where
    -- g is f, changed at the places from a on
    record IsChangedFrom (a : ℕ) : Type 0 where
      before : (c : ℕ) → c < a → g c ≡ f c
      after : (c : ℕ) → a ≤ c → g c ≡ changed f c

  passed_from : (many a m : ℕ) (f g : ℕ → X) → a + m ≡ many → IsChangedFrom many f g a
      → fold step (map f (range_with_len 0 many)) (filter keep (range_with_len a m)) ≡ map g (range_with_len 0 many)
  passed_from many a zero f g all is = same_map f g many (λ c lt. sym (is.before c (omega arith)))
  passed_from many a (suc m) f g all is =
      elim (cases_Bool (keep a)) [
        | inl kept ↦ elim (cases_Bool (test a)) [
          | inl passes ↦
              let f' : ℕ → X = replaced f a (h a (f a)) in
              let here : g a ≡ h a (f a) =
              is.after a (omega arith) ∙ ap (λ b. cond (b && test a) (h a (f a)) (f a)) kept
              ∙ ap (λ b. cond b (h a (f a)) (f a)) passes in
              let put : slice_set (map f (range_with_len 0 many)) a
              (h a (slice_index_or (map f (range_with_len 0 many)) a default))
              ≡ map (replaced f a (h a (f a))) (range_with_len 0 many) =
              ap (λ x. set (map f (range_with_len 0 many)) a (h a x))
              (get_or-map-range_with_len f 0 many a a default (omega arith) (omega arith))
              ∙ set_at f (replaced f a (h a (f a))) many a (h a (f a)) (omega arith)
              (replaced_same f a (h a (f a)) a refl)
              (λ k ne. sym (replaced_other f a (h a (f a)) k ne)) in
              let next : IsChangedFrom many (replaced f a (h a (f a))) g (a + 1) = record {
                before =
                    λ c lt. elim (cases_eq c a) [
                      | inl same ↦ ap g same ∙ here ∙ sym (replaced_same f a (h a (f a)) c same)
                      | inr other ↦ is.before c (omega arith) ∙ sym (replaced_other f a (h a (f a)) c other)
                    ];
                after = λ c le. is.after c (omega arith)
                    ∙ ap (λ x. cond (keep c && test c) (h c x) x)
                    (sym (replaced_other f a (h a (f a)) c (λ e. omega arith)));
              } in
              rw kept (ap (λ xs. fold step xs (filter keep (range_with_len (a + 1) m)))
              (ap (λ b. cond b (slice_set (map f (range_with_len 0 many)) a
              (h a (slice_index_or (map f (range_with_len 0 many)) a default))) (map f (range_with_len 0 many))) passes
              ∙ put)
              ∙ passed_from many (a + 1) m (replaced f a (h a (f a))) g (omega arith) next)
          | inr fails ↦
              let here : g a ≡ f a =
              is.after a (omega arith) ∙ ap (λ b. cond (b && test a) (h a (f a)) (f a)) kept
              ∙ ap (λ b. cond b (h a (f a)) (f a)) fails in
              rw kept (ap (λ xs. fold step xs (filter keep (range_with_len (a + 1) m)))
              (ap (λ b. cond b (slice_set (map f (range_with_len 0 many)) a
              (h a (slice_index_or (map f (range_with_len 0 many)) a default))) (map f (range_with_len 0 many))) fails)
              ∙ passed_from many (a + 1) m f g (omega arith) (left_so many a f g is here))
        ]
        | inr left ↦
            let here : g a ≡ f a =
            is.after a (omega arith) ∙ ap (λ b. cond (b && test a) (h a (f a)) (f a)) left in
            rw left (passed_from many (a + 1) m f g (omega arith) (left_so many a f g is here))
      ] where
        left_so : (many a : ℕ) (f g : ℕ → X) → IsChangedFrom many f g a → g a ≡ f a → IsChangedFrom many f g (a + 1)
        left_so many a f g is here = record {
          before =
              λ c lt. elim (cases_eq c a) [
                | inl same ↦ ap g same ∙ here ∙ ap f (sym same)
                | inr other ↦ is.before c (omega arith)
              ];
          after = λ c le. is.after c (omega arith);
        }

  -- each kept place is passed once
  pub passed : (many : ℕ) (f : ℕ → X)
      → fold step (map f (range_with_len 0 many)) (filter keep (range_with_len 0 many))
      ≡ map (changed f) (range_with_len 0 many)
  passed many f =
      passed_from many 0 many f (changed f) (omega arith)
      (record { before = λ c lt. absurd (omega arith); after = λ c le. refl })
