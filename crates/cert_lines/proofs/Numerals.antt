-- Numbers and their spelling: a number's digits give it back, and a numeral is what is written of its value.
--
-- The second goes along the digits. The invariant is that the value so far is written as the digits so far, and one
-- digit more makes it ten times that and the digit, which is written behind (`written_after`). It needs a value above 0,
-- since of 0 nothing would be written before the next digit: so a numeral with a leading zero is 0 alone (`written_of`).
-- All numbers of texts are below 10 ^ 64, which bounds std's lemmas on wide numbers. Of longer numerals nothing is said.
use Rattle.std.proofs.Common.{◌≡◌, inl, inr, ℕ, zero, suc, ◌+◌, ◌-◌, ◌*◌, ◌/◌, ◌%◌, ◌<◌, ◌≤◌, ◌^◌, ◌==◌, ◌&&◌, ◌||◌, ℤ}
use Rattle.std.proofs.Common.{pos, negsuc, neg_ℤ, Bool, true, false, not, nat_lt, nat_le, List, [], ◌∷◌, ◌++◌, Result}
use Rattle.std.proofs.Common.{Ok, Err, codes, decimal, drop, length, get_or, append-nil, append_assoc, refl, sym, ap}
use Rattle.std.proofs.Common.{◌∙◌, arith, rules}
use Rattle.std.specs.Prelude.{bytes_eq}
use Rattle.std.specs.Char.{digit_value, is_ascii_digit}
use Rattle.std.specs.Fmt.{signed_decimal}
use Rattle.std.specs.List.{list_all, fold}
use Rattle.std.specs.Str.Parse.{AllDigits, digits_value, digits_value_after}
use Rattle.std.proofs.Math.ListN.{length-append, get_or-append}
use Rattle.std.proofs.lemmas.Bool.{cases_Bool, and_from, and_parts, eqb-true, eq-eqb}
use Rattle.std.proofs.lemmas.Bool.Decides.{nat_tests}
use Rattle.std.proofs.lemmas.Fmt.{decimal_digit, decimal_step_wide, decimal_by_steps_wide, decimal_is_IsNumeral_wide}
use Rattle.std.proofs.lemmas.Slice.Eq.{bytes_eq-Decides}
use Rattle.std.proofs.lemmas.Str.{digit_value_digit}
use Rattle.std.proofs.lemmas.Str.Parse.{IsNumeralModel, digit_from_value, numerals_by_fold}
use Rattle.affine_core.specs.Within.{fits_128_bits}
use Rattle.cert_lines.specs.declared.error.Fault.{Fault}
use Rattle.cert_lines.specs.declared.error.Fault.TheVariants.{Words, Range}
use Rattle.cert_lines.specs.Words.{IsInRange, in_128_bits, integer, is_negative, is_numeral, number}
use Rattle.plain_data.specs.Digits.{decimal_number}

pub digits : IsNumeralModel (λ ds. list_all is_ascii_digit ds ≡ true) decimal_number
digits = numerals_by_fold _ (search rules) (λ n ds. fold (λ value digit. value * 10 + (digit - 48)) n ds) (search rules)

-- What is written of a number

pub digits_wide : (n : ℕ) → n < 10 ^ 64 → list_all is_ascii_digit (decimal n) ≡ true
digits_wide n small = digits.from (decimal n) (decimal_is_IsNumeral_wide n small).0.1

value_wide : (n : ℕ) → n < 10 ^ 64 → decimal_number (decimal n) ≡ n
value_wide n small = digits.same (decimal n) (decimal_is_IsNumeral_wide n small).0.1
    ∙ (decimal_is_IsNumeral_wide n small).1

first_wide : (n : ℕ) → 0 < n → n < 10 ^ 64 → 48 < get_or (decimal n) 0 0
first_wide n some small =
    (decimal_by_steps_wide (λ m ds. (0 < length ds) × (0 < m → 48 < get_or ds 0 0))
    (λ m l. (omega arith, λ a. omega arith))
    (λ m ds l h. (
      omega (arith, length-append ds ((48 + m % 10) ∷ [])),
      λ a. omega (arith, get_or-append ds ((48 + m % 10) ∷ []) 0 0 h.0, h.1 (omega arith)),
    )) n small).1 some

not_empty : (n : ℕ) → 0 < n → not (n == 0) ≡ true
not_empty n some = grind (arith, nat_tests)

-- a number has no leading zero
no_leading_zero : (n : ℕ) → n < 10 ^ 64 → (not (get_or (decimal n) 0 0 == 48) || (length (decimal n) == 1)) ≡ true
no_leading_zero zero small = rw (decimal_digit 0 (omega arith)) refl
no_leading_zero (suc n) small =
    let first = first_wide (suc n) (omega arith) small in
    let differs : (get_or (decimal (suc n)) 0 0 == 48) ≡ false = grind (arith, nat_tests) in
    rw differs refl

decimal_is_numeral : (n : ℕ) → n < 10 ^ 64 → is_numeral (decimal n) ≡ true
decimal_is_numeral n small =
    and_from _ _ (and_from _ _ (not_empty (length (decimal n)) (decimal_is_IsNumeral_wide n small).0.0)
    (digits_wide n small)) (no_leading_zero n small)

within : (n : ℕ) → IsInRange n → nat_le n 4294967295 ≡ true
within n few = grind (arith, nat_tests)

-- what is written of a number is read as that number
pub number_of_decimal : (n : ℕ) → IsInRange n → number (decimal n) ≡ Ok n
number_of_decimal n few =
    let small : n < 10 ^ 64 = omega arith in
    rw (decimal_is_numeral n small, value_wide n small, within n few) refl

-- What a numeral is written of

le_value_after : (n : ℕ) (ds : List ℕ) → n ≤ digits_value_after 10 n ds
le_value_after n [] = omega arith
le_value_after n (c ∷ cs) = omega (arith, le_value_after (n * 10 + digit_value c) cs)

written_after : (n : ℕ) (ds : List ℕ) → 0 < n → AllDigits 10 ds → digits_value_after 10 n ds < 10 ^ 64
    → decimal (digits_value_after 10 n ds) ≡ decimal n ++ ds
written_after n [] some d small = sym (append-nil (decimal n))
written_after n (c ∷ cs) some d small =
    let m : ℕ = n * 10 + digit_value c in
    let k = digit_value_digit c (digit_from_value c d.0) in
    let front : m / 10 ≡ n = omega (arith, d.0) in
    let end : 48 + m % 10 ≡ c = omega (arith, d.0) in
    written_after m cs (omega arith) d.1 small
    ∙ ap (λ x. x ++ cs) (decimal_step_wide m (omega arith) (omega (arith, le_value_after m cs))
    ∙ (λ i. decimal (front i) ++ (end i ∷ [])))
    ∙ append_assoc (decimal n) (c ∷ []) cs

written_of : (ds : List ℕ) → AllDigits 10 ds → 0 < length ds → (get_or ds 0 0 ≡ 48 → length ds ≡ 1)
    → digits_value 10 ds < 10 ^ 64 → decimal (digits_value 10 ds) ≡ ds
written_of [] d some lead small = absurd (omega arith)
written_of (c ∷ []) d some lead small =
    let k = digit_value_digit c (digit_from_value c d.0) in
    decimal_digit (0 * 10 + digit_value c) (omega (arith, d.0)) ∙ ap (λ x. x ∷ []) (omega arith)
written_of (c ∷ (e ∷ cs)) d some lead small =
    let k = digit_value_digit c (digit_from_value c d.0) in
    let no : c ≡ 48 → ⊥ = λ z. omega (arith, lead z) in
    let is : 48 + (0 * 10 + digit_value c) ≡ c = omega arith in
    written_after (0 * 10 + digit_value c) (e ∷ cs) (omega arith) d.1 small
    ∙ ap (λ x. x ++ (e ∷ cs)) (decimal_digit (0 * 10 + digit_value c) (omega (arith, d.0)) ∙ ap (λ x. x ∷ []) is)

one_digit : (word : List ℕ) → (not (get_or word 0 0 == 48) || (length word == 1)) ≡ true → get_or word 0 0 ≡ 48
    → length word ≡ 1
one_digit word test zero_first =
    let here : (get_or word 0 0 == 48) ≡ true = eq-eqb (get_or word 0 0) 48 zero_first in
    let only : (length word == 1) ≡ true = rw here at test in
    eqb-true (length word) 1 only

some_digits : (n : ℕ) → not (n == 0) ≡ true → 0 < n
some_digits n test = grind (arith, nat_tests)

-- a numeral is what is written of its value
decimal_of_numeral : (word : List ℕ) → is_numeral word ≡ true → decimal_number word < 10 ^ 64
    → decimal (decimal_number word) ≡ word
decimal_of_numeral word numeral small =
    let parts = and_parts _ _ numeral in
    let front = and_parts _ _ parts.0 in
    let d = digits.to word front.1 in
    ap decimal (digits.same word d)
    ∙ written_of word d (some_digits (length word) front.0) (one_digit word parts.1) (omega (arith, digits.same word d))

in_range : (n : ℕ) → nat_le n 4294967295 ≡ true → IsInRange n
in_range n test = grind (arith, nat_tests)

-- what is read as a number is what is written of it
pub decimal_of_number : (word : List ℕ) (n : ℕ) → number word ≡ Ok n → (word ≡ decimal n) × IsInRange n
decimal_of_number word n e = elim (cases_Bool (is_numeral word)) [
  | inl numeral ↦ elim (cases_Bool (nat_le (decimal_number word) 4294967295)) [
    | inl few ↦
        let read : ◌≡◌ {A = Result ℕ Fault} (Ok (decimal_number word)) (Ok n) = rw (numeral, few) at e in
        let value : decimal_number word ≡ n = cc in
        let range = in_range (decimal_number word) few in
        let small : decimal_number word < 10 ^ 64 = omega arith in
        rw (← value) (sym (decimal_of_numeral word numeral small), range)
    | inr many ↦ let read : ◌≡◌ {A = Result ℕ Fault} (Err Range) (Ok n) = rw (numeral, many) at e in absurd (cc read)
  ]
  | inr other ↦ elim (cases_Bool (is_negative word)) [
    | inl negative ↦ let read : ◌≡◌ {A = Result ℕ Fault} (Err Range) (Ok n) = rw (other, negative) at e
        in absurd (cc read)
    | inr wrong ↦ let read : ◌≡◌ {A = Result ℕ Fault} (Err Words) (Ok n) = rw (other, wrong) at e in absurd (cc read)
  ]
]

-- Numbers within 128 signed bits

pub below_half : (n : ℕ) → nat_lt n (2 ^ 127) ≡ true → n < 2 ^ 127
below_half n test = grind (arith, nat_tests)

-- no number above 0 is spelled `0`
not_zero : (n : ℕ) → 0 < n → n < 10 ^ 64 → bytes_eq (decimal n) (codes "0") ≡ false
not_zero n some small = elim (cases_Bool (bytes_eq (decimal n) (codes "0"))) [
  | inl same ↦
      let spelled : decimal n ≡ codes "0" = (bytes_eq-Decides (decimal n) (codes "0")).0 same in
      let first : get_or (decimal n) 0 0 ≡ 48 = ap (λ (ds : List ℕ). get_or ds 0 0) spelled in
      absurd (omega (arith, first_wide n some small))
  | inr other ↦ other
]

-- no numeral begins with a minus
not_numeral : (ds : List ℕ) → is_numeral (45 ∷ ds) ≡ false
not_numeral ds =
    second_fails (not (length (45 ∷ ds) == 0)) (not (get_or (45 ∷ ds) 0 0 == 48) || (length (45 ∷ ds) == 1))
  where
    second_fails : (a c : Bool) → ((a && false) && c) ≡ false
    second_fails true c = refl
    second_fails false c = refl

-- what is written of an integer is read as it
pub integer_of_decimal : (z : ℤ) → fits_128_bits z ≡ true → integer (signed_decimal z) ≡ Ok z
integer_of_decimal (pos n) fits =
    let half = below_half n fits in
    let small : n < 10 ^ 64 = omega arith in
    rw (decimal_is_numeral n small, value_wide n small, fits) refl
integer_of_decimal (negsuc n) fits =
    let half = below_half n fits in
    let small : suc n < 10 ^ 64 = omega arith in
    rw (
      not_numeral (decimal (suc n)),
      decimal_is_numeral (suc n) small,
      not_zero (suc n) (omega arith) small,
      value_wide (suc n) small,
      fits,
    ) refl

-- a number that stays within 128 bits is unchanged
within_bits : (y z : ℤ) → in_128_bits y ≡ Ok z → (y ≡ z) × (fits_128_bits y ≡ true)
within_bits y z e = elim (cases_Bool (fits_128_bits y)) [
  | inl fits ↦ let read : ◌≡◌ {A = Result ℤ Fault} (Ok y) (Ok z) = rw fits at e in (cc, fits)
  | inr wide ↦ let read : ◌≡◌ {A = Result ℤ Fault} (Err Range) (Ok z) = rw wide at e in absurd (cc read)
]

IsWritten : List ℕ → ℤ → Type 0
IsWritten word z = (word ≡ signed_decimal z) × (fits_128_bits z ≡ true)

-- a numeral, with its value
plain_written : (word : List ℕ) (n : ℕ) (z : ℤ) → is_numeral word ≡ true → decimal_number word ≡ n → in_128_bits (pos n)
    ≡ Ok z → IsWritten word z
unfolding IsWritten
plain_written word n z numeral value e =
    let k = within_bits (pos n) z e in
    let half = below_half n k.1 in
    let small : decimal_number word < 10 ^ 64 = omega (arith, value) in
    rw (← k.0) (sym (decimal_of_numeral word numeral small) ∙ ap decimal value, k.1)

-- the same behind a minus
negated_written : (word : List ℕ) (n : ℕ) (z : ℤ) → is_numeral word ≡ true → bytes_eq word (codes "0") ≡ false
    → decimal_number word ≡ n → in_128_bits (neg_ℤ (pos n)) ≡ Ok z
    → IsWritten (45 ∷ word) z
unfolding IsWritten
negated_written word zero z numeral other value e =
    let spelled : word ≡ codes "0" = sym (decimal_of_numeral word numeral (omega (arith, value))) ∙ ap decimal value
    ∙ decimal_digit 0 (omega arith) in
    let same = (bytes_eq-Decides word (codes "0")).1 spelled in
    absurd (cc (same, other))
negated_written word (suc n) z numeral other value e =
    let k = within_bits (negsuc n) z e in
    let half = below_half n k.1 in
    let small : decimal_number word < 10 ^ 64 = omega (arith, value) in
    rw (← k.0) (ap (λ (ds : List ℕ). 45 ∷ ds) (sym (decimal_of_numeral word numeral small) ∙ ap decimal value), k.1)

-- a word with a minus before it
negative_written : (word : List ℕ) (z : ℤ) → is_negative word ≡ true
    → in_128_bits (neg_ℤ (pos (decimal_number (drop 1 word)))) ≡ Ok z → IsWritten word z
unfolding IsWritten
negative_written [] z negative e = absurd (cc negative)
negative_written (byte ∷ word) z negative e =
    let parts = and_parts _ _ negative in
    let front = and_parts _ _ parts.0 in
    let minus : byte ≡ 45 = eqb-true byte 45 front.0 in
    let other : bytes_eq word (codes "0") ≡ false = no_zero (bytes_eq word (codes "0")) parts.1 in
    let written = negated_written word (decimal_number word) z front.1 other refl e in
    rw minus written
  where
    no_zero : (test : Bool) → not test ≡ true → test ≡ false
    no_zero true e = cc
    no_zero false e = refl

-- what is read as an integer is what is written of it
pub decimal_of_integer : (word : List ℕ) (z : ℤ) → integer word ≡ Ok z → (word ≡ signed_decimal z)
    × (fits_128_bits z ≡ true)
unfolding IsWritten
decimal_of_integer word z e = elim (cases_Bool (is_numeral word)) [
  | inl numeral ↦ plain_written word (decimal_number word) z numeral refl (rw numeral at e)
  | inr other ↦ elim (cases_Bool (is_negative word)) [
    | inl negative ↦ negative_written word z negative (rw (other, negative) at e)
    | inr wrong ↦ let read : ◌≡◌ {A = Result ℤ Fault} (Err Words) (Ok z) = rw (other, wrong) at e in absurd (cc read)
  ]
]
