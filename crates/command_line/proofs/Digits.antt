-- The value of at most 18 decimal digits.
use Rattle.std.proofs.Common.{◌≡◌, ℕ, ◌+◌, ◌-◌, ◌*◌, ◌^◌, ◌<◌, ◌≤◌, List, true, false, length, get_or, take, arith, rules, refl, sym, ◌∙◌, lit≤}
use Rattle.std.specs.Char.{is_ascii_digit}
use Rattle.std.specs.Int.{IsInRange}
use Rattle.std.specs.List.{list_all}
use Rattle.std.specs.Str.Parse.{digits_value}
use Rattle.std.proofs.lemmas.Bool.{false≢true}
use Rattle.std.proofs.lemmas.Bool.Decides.{nat_tests}
use Rattle.std.proofs.lemmas.Int.Digits.{digits_value_more}
use Rattle.std.proofs.lemmas.List.Folds.{list_all_at}
use Rattle.std.proofs.lemmas.Str.{digit_value_digit}
use Rattle.std.proofs.lemmas.Str.Parse.{IsNumeralModel, numerals_by_value, digits_value_short, digits_value-take-le}

digits : IsNumeralModel (λ text. list_all is_ascii_digit text ≡ true) (digits_value 10)
digits = numerals_by_value _ (search rules)

pub digits_value-lt_limit : (text : List ℕ) → list_all is_ascii_digit text ≡ true → length text ≤ 18
    → digits_value 10 text < 10 ^ 18
digits_value-lt_limit text all few = digits_value_short digits text 18 all few

in_digits : (b : ℕ) → is_ascii_digit b ≡ true → IsInRange 48 57 b
in_digits b e = grind (arith, nat_tests)

pub digit_at : (text : List ℕ) (at : ℕ) → list_all is_ascii_digit text ≡ true → at < length text
    → IsInRange 48 57 (get_or text at 0)
digit_at text at all within =
    elim (is_ascii_digit (get_or text at 0)) as
    (λ t. is_ascii_digit (get_or text at 0) ≡ t → IsInRange 48 57 (get_or text at 0)) [
      | true ↦ λ e. in_digits (get_or text at 0) e
      | false ↦ λ e. absurd (false≢true (sym (list_all_at is_ascii_digit text at 0 within e) ∙ all))
    ] refl

-- one more digit
pub digits_value-next : (text : List ℕ) (at : ℕ) → list_all is_ascii_digit text ≡ true → at < length text
    → digits_value 10 (take at text) * 10 + (get_or text at 0 - 48) ≡ digits_value 10 (take (at + 1) text)
digits_value-next text at all within =
    omega (
      arith,
      digits_value_more 10 text at within,
      digit_value_digit (get_or text at 0) (digit_at text at all within),
    )

pub digits_value-next-le : (text : List ℕ) (at : ℕ) → list_all is_ascii_digit text ≡ true → length text ≤ 18
    → at < length text → digits_value 10 (take at text) * 10 + (get_or text at 0 - 48) < 10 ^ 18
digits_value-next-le text at all few within =
    omega (
      arith,
      digits_value-next text at all within,
      digits_value-take-le 10 text (at + 1) (lit≤ tt),
      digits_value-lt_limit text all few,
    )
