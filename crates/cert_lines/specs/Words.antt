-- Lines, their words, and the numbers that words may be.
use Rattle.std.specs.Prelude.{ℕ, ◌≤◌, ◌==◌, ◌&&◌, ◌||◌, ℤ, pos, neg_ℤ, Bool, false, not, nat_le, if◌then◌else◌, Option, Some, None, List, [], ◌∷◌, bytes_eq, codes, drop, length, slice_index, Result, Ok, Err}
use Rattle.std.specs.Char.{is_ascii_digit}
use Rattle.std.specs.List.{join_with_byte, list_all, slice_split}
use Rattle.std.specs.Option.{option_map}
use Rattle.affine_core.specs.Within.{fits_128_bits}
use Rattle.cert_lines.specs.declared.error.Fault.{Fault}
use Rattle.cert_lines.specs.declared.error.Fault.TheVariants.{Words, Range}
use Rattle.plain_data.specs.Digits.{decimal_number}

-- what stands before the first such byte, and what stands behind it; none where no such byte stands
abbrev pub cut_at : ℕ → List ℕ → Option (List ℕ × List ℕ)
cut_at wanted [] = None
cut_at wanted (byte ∷ bytes) =
    if byte == wanted then Some ([], bytes)
    else option_map (λ cut. (byte ∷ cut.0, cut.1)) (cut_at wanted bytes)

-- the words of a line: what stands between its spaces
abbrev pub words_of : List ℕ → List (List ℕ)
words_of line = slice_split (λ byte. byte == 32) line

-- What is judged together: both values, or what is wrong. Wrong words are told before numbers out of range.
abbrev pub both : {A B : Type 0} → Result A Fault → Result B Fault → Result (A × B) Fault
both (Ok a) (Ok b) = Ok (a, b)
both (Ok a) (Err fault) = Err fault
both (Err Words) b = Err Words
both (Err Range) (Err Words) = Err Words
both (Err Range) (Err Range) = Err Range
both (Err Range) (Ok b) = Err Range

-- what a value makes of another
abbrev pub made : {A B : Type 0} → (A → B) → Result A Fault → Result B Fault
made f (Ok a) = Ok (f a)
made f (Err fault) = Err fault

-- a word that is just this text
abbrev pub just : List ℕ → List (List ℕ) → Result Unit Fault
just text words = if bytes_eq (join_with_byte 32 words) text then Ok tt else Err Words

-- Numbers

-- decimal digits, at least one, and no zero before another
abbrev pub is_numeral : List ℕ → Bool
is_numeral word =
    not (length word == 0) && list_all is_ascii_digit word
    && (not (slice_index word 0 == 48) || (length word == 1))

-- a `-` and a numeral other than 0
abbrev pub is_negative : List ℕ → Bool
is_negative [] = false
is_negative (byte ∷ word) = (byte == 45) && is_numeral word && not (bytes_eq word (codes "0"))

abbrev pub IsInRange : ℕ → Type 0
IsInRange number = number ≤ 4294967295

-- a number within 0 to 4,294,967,295
abbrev pub number : List ℕ → Result ℕ Fault
number word =
    if is_numeral word
    then (if nat_le (decimal_number word) 4294967295 then Ok (decimal_number word) else Err Range)
    else if is_negative word then Err Range
    else Err Words

-- the number, unless it leaves 128 signed bits
abbrev pub in_128_bits : ℤ → Result ℤ Fault
in_128_bits z = if fits_128_bits z then Ok z else Err Range

-- a number within 128 signed bits
abbrev pub integer : List ℕ → Result ℤ Fault
integer word =
    if is_numeral word then in_128_bits (pos (decimal_number word))
    else if is_negative word then in_128_bits (neg_ℤ (pos (decimal_number (drop 1 word))))
    else Err Words
