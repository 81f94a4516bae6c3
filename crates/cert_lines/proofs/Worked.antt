-- Worked lines and words, computed from the definitions.
use Rattle.std.proofs.Common.{◌≡◌, Some, pos, negsuc, [], ◌∷◌, Ok, Err, codes, refl}
use Rattle.cert_lines.specs.declared.error.CertError.TheVariants.{Line, Truncated}
use Rattle.cert_lines.specs.declared.error.Fault.TheVariants.{Words, Range}
use Rattle.cert_lines.specs.Words.{integer, just, number, words_of}
use Rattle.cert_lines.specs.Reading.{first_line, line, text_end}

-- Lines and words

first_of_two : first_line (codes "a b\n\nc") ≡ Some (codes "a b", codes "\nc")
first_of_two = refl

five_words : words_of (codes " a  b ") ≡ [] ∷ codes "a" ∷ [] ∷ codes "b" ∷ [] ∷ []
five_words = refl

no_word_is_an_empty_one : words_of [] ≡ [] ∷ []
no_word_is_an_empty_one = refl

the_line_of_a_text : line (just (codes "end")) (record { line = 7; text = codes "end\n" })
    ≡ Ok (tt, record { line = 8; text = [] })
the_line_of_a_text = refl

another_line : line (just (codes "end")) (record { line = 7; text = codes "end \n" }) ≡ Err (Line 7)
another_line = refl

a_line_without_its_end : line (just (codes "end")) (record { line = 7; text = codes "end" }) ≡ Err Truncated
a_line_without_its_end = refl

behind_the_end : (text_end (record { line = 7; text = codes "\n" }) ≡ Err (Line 7))
    × (text_end (record { line = 7; text = codes "x" }) ≡ Err Truncated)
behind_the_end = (refl, refl)

-- Spellings of numbers

greatest : number (codes "4294967295") ≡ Ok 4294967295
greatest = refl

past_the_greatest : number (codes "4294967296") ≡ Err Range
past_the_greatest = refl

below_zero : number (codes "-5") ≡ Err Range
below_zero = refl

misspelled : (number (codes "-0") ≡ Err Words) × (number (codes "00") ≡ Err Words) × (number (codes "+1") ≡ Err Words)
    × (number (codes "01") ≡ Err Words) × (number [] ≡ Err Words) × (number (codes "-") ≡ Err Words)
    × (number (codes "1a") ≡ Err Words) × (number (codes "--1") ≡ Err Words) × (number (codes "-01") ≡ Err Words)
misspelled = (refl, refl, refl, refl, refl, refl, refl, refl, refl)

-- Spellings of integers

integers_of_both_signs : (integer (codes "0") ≡ Ok (pos 0)) × (integer (codes "17") ≡ Ok (pos 17))
    × (integer (codes "-17") ≡ Ok (negsuc 16))
integers_of_both_signs = (refl, refl, refl)

greatest_integer : integer (codes "170141183460469231731687303715884105727")
    ≡ Ok (pos 170141183460469231731687303715884105727)
greatest_integer = refl

least_integer : integer (codes "-170141183460469231731687303715884105728")
    ≡ Ok (negsuc 170141183460469231731687303715884105727)
least_integer = refl

past_128_bits : (integer (codes "170141183460469231731687303715884105728") ≡ Err Range)
    × (integer (codes "-170141183460469231731687303715884105729") ≡ Err Range)
past_128_bits = (refl, refl)

misspelled_integers : (integer (codes "-0") ≡ Err Words) × (integer (codes "-01") ≡ Err Words)
    × (integer (codes "+1") ≡ Err Words) × (integer (codes "--1") ≡ Err Words) × (integer (codes "-") ≡ Err Words)
misspelled_integers = (refl, refl, refl, refl, refl)
