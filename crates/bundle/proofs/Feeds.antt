-- No input element has a line feed before its last byte, but for a block comment.
--
-- Each kind of input element but one excludes such a line feed by itself: a line comment, a word, a number and a sign
-- have none, and white space is one byte. A block comment ends with a slash, so the text is no element where its last
-- byte is none (`no_element`). That last premise is needed: a block comment may well go over lines. Nothing is said of
-- a line feed that is the whole text, which is white space.
use Rattle.std.proofs.Common.{◌≡◌, ◌+◌, ◌<◌, ◌&&◌, ◌||◌, ℕ, Bool, true, false, not, List, [], ◌∷◌, ◌++◌, length, refl, sym, subst, inl, inr, arith, nat_eq}
use Rattle.std.specs.List.{list_all}
use Rattle.std.specs.Str.{bytes_eq}
use Rattle.std.proofs.lemmas.Bool.{cases_Bool, and_right}
use Rattle.loop_lex.proofs.Elements.{long_sign, no_sign, none_of, not_and}
use Rattle.loop_lex.specs.Lexical.{ends_at_first_close, is_block_comment, is_digit, is_digits, is_empty, is_input_element, is_letter, is_letter_or_digit, is_line_comment, is_line_feed, is_sign, is_white_space, is_word, signs}

all_but : (p : ℕ → Bool) (x : ℕ) (bytes more : List ℕ) → p x ≡ false → list_all p (bytes ++ x ∷ more) ≡ false
all_but p x [] more e = rw e refl
all_but p x (b ∷ bytes) more e = and_right (p b) (list_all p (bytes ++ x ∷ more)) (all_but p x bytes more e)

not_empty : (bytes : List ℕ) (last : ℕ) → is_empty (bytes ++ last ∷ []) ≡ false
not_empty [] last = refl
not_empty (b ∷ bytes) last = refl

-- the first `*/` doesn't stand at the end where another byte does
no_close : (bytes : List ℕ) (last : ℕ) → nat_eq last 47 ≡ false → ends_at_first_close (bytes ++ last ∷ []) ≡ false
no_close [] last e = refl
no_close (a ∷ []) last e = rw (and_right (nat_eq a 42) (nat_eq last 47) e) refl
no_close (a ∷ b ∷ bytes) last e =
    elim (cases_Bool
    (nat_eq a 42 && nat_eq b 47))
    [ inl closes ↦ rw closes (not_empty bytes last) | inr other ↦ rw other (no_close (b ∷ bytes) last e) ]

no_block : (bytes : List ℕ) (last : ℕ) → nat_eq last 47 ≡ false → is_block_comment (bytes ++ last ∷ []) ≡ false
no_block [] last e = refl
no_block (a ∷ []) last e = and_right (nat_eq a 47 && nat_eq last 42) false refl
no_block (a ∷ b ∷ bytes) last e =
    and_right (nat_eq a 47 && nat_eq b 42) (ends_at_first_close (bytes ++ last ∷ [])) (no_close bytes last e)

no_line : (bytes more : List ℕ) → is_line_comment (bytes ++ 10 ∷ more) ≡ false
no_line [] [] = refl
no_line [] (c ∷ more) = refl
no_line (a ∷ []) more = and_right (nat_eq a 47) false refl
no_line (a ∷ b ∷ bytes) more =
    and_right (nat_eq a 47) (nat_eq b 47 && list_all (λ c. not (is_line_feed c)) (bytes ++ 10 ∷ more))
    (and_right (nat_eq b 47) (list_all (λ c. not (is_line_feed c)) (bytes ++ 10 ∷ more))
    (all_but (λ c. not (is_line_feed c)) 10 bytes more refl))

no_space : (bytes more : List ℕ) → 0 < length bytes + length more → is_white_space (bytes ++ 10 ∷ more) ≡ false
no_space [] [] some = absurd (omega arith)
no_space [] (c ∷ more) some = refl
no_space (a ∷ []) more some = refl
no_space (a ∷ b ∷ bytes) more some = refl

no_word : (bytes more : List ℕ) → is_word (bytes ++ 10 ∷ more) ≡ false
no_word [] more = refl
no_word (a ∷ bytes) more =
    and_right (is_letter a) (list_all is_letter_or_digit (bytes ++ 10 ∷ more))
    (all_but is_letter_or_digit 10 bytes more refl)

no_digits : (bytes more : List ℕ) → is_digits (bytes ++ 10 ∷ more) ≡ false
no_digits [] more = refl
no_digits (a ∷ bytes) more =
    and_right (is_digit a) (list_all is_digit (bytes ++ 10 ∷ more)) (all_but is_digit 10 bytes more refl)

abbrev second_otherwise : List ℕ → Bool
second_otherwise (a ∷ c ∷ cs) = not (nat_eq 10 c)
second_otherwise _ = true

other_second : (b : ℕ) (t s : List ℕ) → second_otherwise s ≡ true → bytes_eq (b ∷ 10 ∷ t) s ≡ false
other_second b t [] h = refl
other_second b t (a ∷ []) h = and_right (nat_eq b a) false refl
other_second b t (a ∷ c ∷ cs) h =
    and_right (nat_eq b a) (nat_eq 10 c && bytes_eq t cs) (not_and (nat_eq 10 c) (bytes_eq t cs) h)

no_fed_sign : (bytes more : List ℕ) → is_sign (bytes ++ 10 ∷ more) ≡ false
no_fed_sign [] more = no_sign 10 more refl
no_fed_sign (a ∷ []) more = none_of second_otherwise (bytes_eq (a ∷ 10 ∷ more)) (other_second a more) signs refl
no_fed_sign (a ∷ b ∷ []) more = long_sign a b 10 more
no_fed_sign (a ∷ b ∷ c ∷ bytes) more = long_sign a b c (bytes ++ 10 ∷ more)

none_holds : (a b c d e f : Bool) → a ≡ false → b ≡ false → c ≡ false → d ≡ false → e ≡ false → f ≡ false
    → ((a || (b || c)) || (d || (e || f))) ≡ false
none_holds a b c d e f p q r s t u = rw (p, q, r, s, t, u) refl

-- a text with a line feed that isn't the whole, and whose last byte is no slash
pub no_element : (bytes more front : List ℕ) (last : ℕ) → bytes ++ 10 ∷ more ≡ front ++ last ∷ []
    → nat_eq last 47 ≡ false → 0 < length bytes + length more
    → is_input_element (bytes ++ 10 ∷ more) ≡ false
no_element bytes more front last is other some =
    let text : List ℕ = bytes ++ 10 ∷ more in
    none_holds (is_white_space text) (is_line_comment text) (is_block_comment text) (is_word text) (is_digits text)
    (is_sign text)
    (no_space bytes more some) (no_line bytes more)
    (subst (λ (whole : List ℕ). is_block_comment whole ≡ false) (sym is) (no_block front last other))
    (no_word bytes more) (no_digits bytes more) (no_fed_sign bytes more)
