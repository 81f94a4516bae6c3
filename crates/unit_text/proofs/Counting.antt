-- A counter that gains from each value what leads to the next counts these values.
--
-- The induction goes along the values that are left, from place k on: at each place the counter is at the value there, what it
-- gains is the difference to the next value, with wrapping, and to add this difference, with wrapping, gives that value back
-- (`add_back`), since each value fits in 64 bits. The last difference leads to the first value, since past the last place the
-- next value is the first.
use Rattle.std.proofs.Common.{◌≡◌, ℕ, zero, suc, ◌+◌, ◌<◌, ◌≤◌, ℤ, pos, ◌+ℤ◌, ◌-ℤ◌, List, [], ◌∷◌, All, map, drop, length}
use Rattle.std.proofs.Common.{slice_index_or, ◌++◌, refl, sym, ap, ◌∙◌, arith}
use Rattle.std.specs.Prelude.{FitsSigned}
use Rattle.std.specs.List.{range_with_len}
use Rattle.std.specs.Int.{w64, int_wrap, int_wrapping_add, int_wrapping_sub}
use Rattle.std.proofs.lemmas.Int.{ints, int_wrap-add_right, int_wrap_fits, SFits-int_wrap, wrapping_add_is, wrapping_sub_is}
use Rattle.std.proofs.lemmas.List.{at_drop_more, drop_all}
use Rattle.std.proofs.lemmas.List.Elements.{All-get_or}
use Rattle.script_blocks.specs.Expansion.{repeated}
use Rattle.unit_text.specs.Counting.{counted, counted_to}
use Rattle.unit_text.specs.Units.{first_of, gain, gains_round}

difference : (a b : ℤ) → b +ℤ (a -ℤ b) ≡ a
difference a b = omega (arith, ints)

add_back : (a b : ℤ) → FitsSigned w64 a → FitsSigned w64 b → int_wrapping_add w64 b (int_wrapping_sub w64 a b) ≡ a
add_back a b fa fb =
    ap (int_wrapping_add w64 b) (wrapping_sub_is w64 a b fa fb)
    ∙ wrapping_add_is w64 b (int_wrap w64 (a -ℤ b)) fb (SFits-int_wrap w64 (a -ℤ b))
    ∙ int_wrap-add_right w64 b (a -ℤ b)
    ∙ ap (int_wrap w64) (difference a b)
    ∙ int_wrap_fits w64 a fa

-- a default doesn't matter within the list, and is what is read past its end
read_within : (xs : List ℤ) (k : ℕ) (d e : ℤ) → k < length xs → slice_index_or xs k d ≡ slice_index_or xs k e
read_within [] k d e lt = absurd (omega arith)
read_within (x ∷ xs) zero d e lt = refl
read_within (x ∷ xs) (suc k) d e lt = read_within xs k d e (omega arith)

read_past : (xs : List ℤ) (k : ℕ) (d : ℤ) → length xs ≤ k → slice_index_or xs k d ≡ d
read_past [] k d le = refl
read_past (x ∷ xs) zero d le = absurd (omega arith)
read_past (x ∷ xs) (suc k) d le = read_past xs k d (omega arith)

fits_at : (xs : List ℤ) (k : ℕ) (d : ℤ) → All (FitsSigned w64) xs → k < length xs
    → FitsSigned w64 (slice_index_or xs k d)
fits_at xs k d all lt = All-get_or (FitsSigned w64) xs k d lt all

module _ (values : List ℤ) (fit : All (FitsSigned w64) values) where
  abbrev at : ℕ → ℤ
  at k = slice_index_or values k (pos 0)

  -- the value behind a gain is the next one
  next_value : (k : ℕ) → k + 1 < length values → int_wrapping_add w64 (at k) (gain values k) ≡ at (k + 1)
  next_value k lt =
      ap (λ v. int_wrapping_add w64 (at k) (int_wrapping_sub w64 v (at k)))
      (read_within values (k + 1) (first_of values) (pos 0) lt)
      ∙ add_back (at (k + 1)) (at k) (fits_at values (k + 1) (pos 0) fit lt)
      (fits_at values k (pos 0) fit (omega arith))

  -- and behind the last gain the first
  first_again : (k : ℕ) → k + 1 ≡ length values → int_wrapping_add w64 (at k) (gain values k) ≡ first_of values
  first_again k last =
      ap (λ v. int_wrapping_add w64 (at k) (int_wrapping_sub w64 v (at k)))
      (read_past values (k + 1) (first_of values) (omega arith))
      ∙ add_back (first_of values) (at k) (fits_at values 0 (pos 0) fit (omega arith))
      (fits_at values k (pos 0) fit (omega arith))

  counted_from : (n k : ℕ) → k + n ≡ length values
      → counted (at k) (map (gain values) (range_with_len k n)) ≡ drop k values
  counted_from zero k e = sym (drop_all k values (omega arith))
  counted_from (suc zero) k e =
      ap (λ xs. at k ∷ xs) (sym (drop_all (k + 1) values (omega arith)))
      ∙ sym (at_drop_more (λ (xs : List ℤ). xs) values k (pos 0) (omega arith))
  counted_from (suc (suc n)) k e =
      ap (λ v. at k ∷ counted v (map (gain values) (range_with_len (k + 1) (suc n)))) (next_value k (omega arith))
      ∙ ap (λ xs. at k ∷ xs) (counted_from (suc n) (k + 1) (omega arith))
      ∙ sym (at_drop_more (λ (xs : List ℤ). xs) values k (pos 0) (omega arith))

  counted_end : (n k : ℕ) → k + suc n ≡ length values
      → counted_to (at k) (map (gain values) (range_with_len k (suc n))) ≡ first_of values
  counted_end zero k e = first_again k (omega arith)
  counted_end (suc n) k e =
      ap (λ v. counted_to v (map (gain values) (range_with_len (k + 1) (suc n)))) (next_value k (omega arith))
      ∙ counted_end n (k + 1) (omega arith)

pub counts_values : (values : List ℤ) → All (FitsSigned w64) values
    → counted (first_of values) (gains_round values) ≡ values
counts_values values fit = counted_from values fit (length values) 0 (omega arith)

pub counts_round : (values : List ℤ) → All (FitsSigned w64) values
    → counted_to (first_of values) (gains_round values) ≡ first_of values
counts_round [] fit = refl
counts_round (v ∷ vs) fit = counted_end (v ∷ vs) fit (length vs) 0 (omega arith)

-- one list of gains and then another
counted_both : (v : ℤ) (gains others : List ℤ)
    → counted v (gains ++ others) ≡ counted v gains ++ counted (counted_to v gains) others
counted_both v [] others = refl
counted_both v (gain ∷ gains) others =
    ap (λ (zs : List ℤ). v ∷ zs) (counted_both (int_wrapping_add w64 v gain) gains others)

-- each round begins at the first value again
pub counts_rounds : (values : List ℤ) → All (FitsSigned w64) values → (count : ℕ)
    → counted (first_of values) (repeated count (gains_round values)) ≡ repeated count values
unfolding repeated
counts_rounds values fit zero = refl
counts_rounds values fit (suc count) =
    let gains = gains_round values in
    counted_both (first_of values) gains (repeated count gains)
    ∙ ap (λ (zs : List ℤ). zs ++ counted (counted_to (first_of values) gains) (repeated count gains))
    (counts_values values fit)
    ∙ ap (λ (v : ℤ). values ++ counted v (repeated count gains)) (counts_round values fit)
    ∙ ap (λ (zs : List ℤ). values ++ zs) (counts_rounds values fit count)
