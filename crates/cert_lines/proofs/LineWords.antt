-- Lines that are made of words.
use Rattle.std.proofs.Common.{◌≡◌, ℕ, suc, ◌<◌, ◌^◌, ◌==◌, ◌||◌, ℤ, pos, negsuc, Bool, true, false, not, List}
use Rattle.std.proofs.Common.{[], ◌∷◌, decimal, refl, ap, ◌∙◌, arith}
use Rattle.std.specs.Char.{is_ascii_digit}
use Rattle.std.specs.List.{join_with_byte, list_all}
use Rattle.std.proofs.lemmas.Bool.{and_parts}
use Rattle.std.proofs.lemmas.Bool.Decides.{nat_tests}
use Rattle.std.specs.Fmt.{signed_decimal}
use Rattle.std.proofs.lemmas.List.Elements.{All-append, All-cons, All-weaker}
use Rattle.std.proofs.lemmas.List.Splits.{slice_split_none, slice_split_at}
use Rattle.std.proofs.lemmas.List.Sums.{AllPass-from_list_all, list_all-from_AllPass}
use Rattle.affine_core.specs.Within.{fits_128_bits}
use Rattle.cert_lines.specs.Words.{IsInRange, words_of}
use Rattle.cert_lines.proofs.Cuts.{Lacks}
use Rattle.cert_lines.proofs.Numerals.{digits_wide, below_half}

-- no space and no line feed stands in it
abbrev pub is_word : List ℕ → Bool
is_word word = list_all (λ byte. not ((byte == 32) || (byte == 10))) word

no_space : (byte : ℕ) → not ((byte == 32) || (byte == 10)) ≡ true → (byte == 32) ≡ false
no_space byte e = grind (arith, nat_tests)

no_line_feed : (byte : ℕ) → not ((byte == 32) || (byte == 10)) ≡ true → (byte == 10) ≡ false
no_line_feed byte e = grind (arith, nat_tests)

lacks_space : (word : List ℕ) → is_word word ≡ true → Lacks 32 word
lacks_space word e = All-weaker (λ byte. not ((byte == 32) || (byte == 10)) ≡ true) (λ byte. (byte == 32) ≡ false)
    no_space word (AllPass-from_list_all (λ byte. not ((byte == 32) || (byte == 10))) word e)

lacks_line_feed : (word : List ℕ) → is_word word ≡ true → Lacks 10 word
lacks_line_feed word e = All-weaker (λ byte. not ((byte == 32) || (byte == 10)) ≡ true) (λ byte. (byte == 10) ≡ false)
    no_line_feed word (AllPass-from_list_all (λ byte. not ((byte == 32) || (byte == 10))) word e)

digit_in_word : (byte : ℕ) → is_ascii_digit byte ≡ true → not ((byte == 32) || (byte == 10)) ≡ true
digit_in_word byte e = grind (arith, nat_tests)

pub decimal_is_word : (n : ℕ) → n < 10 ^ 64 → is_word (decimal n) ≡ true
decimal_is_word n small =
    list_all-from_AllPass (λ byte. not ((byte == 32) || (byte == 10))) (decimal n)
    (All-weaker (λ byte. is_ascii_digit byte ≡ true) (λ byte. not ((byte == 32) || (byte == 10)) ≡ true) digit_in_word
    (decimal n)
    (AllPass-from_list_all is_ascii_digit (decimal n) (digits_wide n small)))

pub word_of_number : (n : ℕ) → IsInRange n → is_word (decimal n) ≡ true
word_of_number n few = let small : n < 10 ^ 64 = omega arith in decimal_is_word n small

pub word_of_integer : (z : ℤ) → fits_128_bits z ≡ true → is_word (signed_decimal z) ≡ true
word_of_integer (pos n) fits = let half = below_half n fits in let small : n < 10 ^ 64 = omega arith
    in decimal_is_word n small
word_of_integer (negsuc n) fits = let half = below_half n fits in let small : suc n < 10 ^ 64 = omega arith
    in decimal_is_word (suc n) small

-- words that are joined are the words of their line
pub words_joined : (word : List ℕ) (words : List (List ℕ)) → list_all is_word (word ∷ words) ≡ true
    → words_of (join_with_byte 32 (word ∷ words)) ≡ word ∷ words
words_joined word [] e = slice_split_none (λ byte. byte == 32) word (lacks_space word (and_parts _ _ e).0)
words_joined word (other ∷ words) e =
    let parts = and_parts (is_word word) (list_all is_word (other ∷ words)) e in
    slice_split_at (λ byte. byte == 32) word 32 (join_with_byte 32 (other ∷ words)) (lacks_space word parts.0) refl
    ∙ ap (λ (more : List (List ℕ)). word ∷ more) (words_joined other words parts.1)

pub line_lacks : (words : List (List ℕ)) → list_all is_word words ≡ true → Lacks 10 (join_with_byte 32 words)
line_lacks [] e = λ k d within. absurd (omega arith)
line_lacks (word ∷ []) e = lacks_line_feed word (and_parts _ _ e).0
line_lacks (word ∷ (other ∷ words)) e =
    let parts = and_parts (is_word word) (list_all is_word (other ∷ words)) e in
    All-append (λ byte. (byte == 10) ≡ false) word (32 ∷ join_with_byte 32 (other ∷ words))
    (lacks_line_feed word parts.0)
    (All-cons (λ byte. (byte == 10) ≡ false) 32 (join_with_byte 32 (other ∷ words)) refl
    (line_lacks (other ∷ words) parts.1))
