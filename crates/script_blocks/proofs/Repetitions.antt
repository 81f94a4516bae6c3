-- So many copies of a list.
use Rattle.std.proofs.Common.{◌≡◌, ◌+◌, ◌-◌, ◌*◌, ◌≢◌, ℕ, zero, suc, List, [], ◌++◌, length, refl, sym, ap, ◌∙◌, arith}
use Rattle.std.proofs.Common.{add-one, append_assoc}
use Rattle.std.proofs.lemmas.List.{append-nil, length-append}
use Rattle.script_blocks.specs.Expansion.{repeated}

pub repeated_none : {T : Type 0} (xs : List T) → repeated 0 xs ≡ []
unfolding repeated
repeated_none xs = refl

pub repeated_next : {T : Type 0} (n : ℕ) (xs : List T) → repeated (suc n) xs ≡ xs ++ repeated n xs
unfolding repeated
repeated_next n xs = refl

pub repeated_once : {T : Type 0} (xs : List T) → repeated 1 xs ≡ xs
unfolding repeated
repeated_once xs = append-nil xs

-- one copy less, where there is one
pub repeated_before : {T : Type 0} (n : ℕ) (xs : List T) → n ≢ 0 → repeated n xs ≡ xs ++ repeated (n - 1) xs
repeated_before zero xs h = absurd (h refl)
repeated_before (suc n) xs h = repeated_next n xs ∙ ap (λ k. xs ++ repeated k xs) (omega arith)

-- one copy more, at the end
pub repeated_more : {T : Type 0} (n : ℕ) (xs : List T) → repeated (n + 1) xs ≡ repeated n xs ++ xs
repeated_more zero xs = repeated_once xs ∙ sym (ap (λ ys. ys ++ xs) (repeated_none xs))
repeated_more (suc n) xs =
    ap (λ k. repeated k xs) (add-one (suc n)) ∙ repeated_next (suc n) xs
    ∙ ap (λ ys. xs ++ ys) (ap (λ k. repeated k xs) (sym (add-one n)) ∙ repeated_more n xs)
    ∙ sym (append_assoc xs (repeated n xs) xs) ∙ ap (λ ys. ys ++ xs) (sym (repeated_next n xs))

-- what stands in front, once, and once more
pub once : {T : Type 0} (xs others : List T) → xs ++ others ≡ repeated 1 xs ++ others
once xs others = ap (λ ys. ys ++ others) (sym (repeated_once xs))

pub once_more : {T : Type 0} (n : ℕ) (all xs others rest : List T) → all ≡ repeated n xs ++ others → others ≡ xs ++ rest
    → all ≡ repeated (n + 1) xs ++ rest
once_more n all xs others rest before next =
    before ∙ ap (λ ys. repeated n xs ++ ys) next ∙ sym (append_assoc (repeated n xs) xs rest)
    ∙ ap (λ ys. ys ++ rest) (sym (repeated_more n xs))

pub repeated_nothing : {T : Type 0} (n : ℕ) → repeated {T = T} n [] ≡ []
repeated_nothing zero = repeated_none []
repeated_nothing (suc n) = repeated_next n [] ∙ repeated_nothing n

pub length-repeated : {T : Type 0} (n : ℕ) (xs : List T) → length (repeated n xs) ≡ n * length xs
length-repeated zero xs = ap length (repeated_none xs) ∙ omega arith
length-repeated (suc n) xs =
    let before = length-repeated n xs in
    ap length (repeated_next n xs) ∙ length-append xs (repeated n xs) ∙ omega arith
