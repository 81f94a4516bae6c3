-- What an input element with a given first byte can be.
--
-- By its first byte, and behind a slash by the second, an input element is of one kind: white space, letters and digits
-- begin no sign, and no sign begins with them, which is tested along the list of signs. So for a first byte of each
-- kind it is told what an element of two bytes or more is: none, a run of letters and digits, a run of digits, a
-- comment, or a sign. Which of these is the longest at a place is shown in `Longest`.
use Rattle.std.proofs.Common.{◌≡◌, ℕ, ◌<◌, Bool, true, false, not, ◌&&◌, ◌||◌, List, [], ◌∷◌, length, refl, arith}
use Rattle.std.proofs.Common.{nat_le, nat_eq}
use Rattle.std.specs.List.{list_all, list_any}
use Rattle.std.specs.Str.{bytes_eq}
use Rattle.std.proofs.lemmas.Bool.Decides.{nat_tests}
use Rattle.std.proofs.lemmas.Bool.{and_parts, and_right}
use Rattle.std.proofs.Math.Bool.{or-false}
use Rattle.loop_lex.specs.Lexical.{is_input_element, is_space, is_sign, signs, is_letter, is_digit, is_letter_or_digit}
use Rattle.loop_lex.specs.Lexical.{is_line_feed, ends_at_first_close}
use Rattle.loop_lex.specs.Front.{BeginsSignOnly}

pub not_and : (a b : Bool) → not a ≡ true → (a && b) ≡ false
not_and true b h = absurd cc
not_and false b h = refl

-- ---- signs

pub none_of : (p q : List ℕ → Bool) → ((s : List ℕ) → p s ≡ true → q s ≡ false) → (texts : List (List ℕ))
    → list_all p texts ≡ true → list_any q texts ≡ false
none_of p q apart [] h = refl
none_of p q apart (s ∷ texts) h =
    rw (apart s ((and_parts (p s) (list_all p texts) h).0)) (none_of p q apart texts ((and_parts (p s) (list_all p texts) h).1))

abbrev pub begins_otherwise : ℕ → List ℕ → Bool
begins_otherwise b [] = true
begins_otherwise b (c ∷ cs) = not (nat_eq b c)

other_front : (b : ℕ) (t s : List ℕ) → begins_otherwise b s ≡ true → bytes_eq (b ∷ t) s ≡ false
other_front b t [] h = refl
other_front b t (c ∷ cs) h = not_and (nat_eq b c) (bytes_eq t cs) h

-- no sign begins with this byte
pub no_sign : (b : ℕ) (t : List ℕ) → list_all (begins_otherwise b) signs ≡ true → is_sign (b ∷ t) ≡ false
no_sign b t h = none_of (begins_otherwise b) (bytes_eq (b ∷ t)) (other_front b t) signs h

other_length : (text s : List ℕ) → length s < length text → bytes_eq text s ≡ false
other_length [] s lt = absurd (omega arith)
other_length (x ∷ xs) [] lt = refl
other_length (x ∷ xs) (y ∷ ys) lt = and_right (nat_eq x y) (bytes_eq xs ys) (other_length xs ys (omega arith))

-- a sign has two bytes at most
pub long_sign : (a b c : ℕ) (t : List ℕ) → is_sign (a ∷ b ∷ c ∷ t) ≡ false
long_sign a b c t =
    none_of (λ s. nat_le (length s) 2) (bytes_eq (a ∷ b ∷ c ∷ t))
    (λ s h. other_length (a ∷ b ∷ c ∷ t) s (short (length s) h)) signs refl
  where
    short : (n : ℕ) → nat_le n 2 ≡ true → n < length (a ∷ b ∷ c ∷ t)
    short n h = grind (arith, nat_tests)

-- ---- first bytes

-- a byte that begins no sign and no comment
pub record BeginsNoSign (b : ℕ) (letter digit : Bool) : Type 0 where
  pub space : is_space b ≡ false
  pub letter_is : is_letter b ≡ letter
  pub digit_is : is_digit b ≡ digit
  pub slash : nat_eq b 47 ≡ false
  pub sign : (t : List ℕ) → is_sign (b ∷ t) ≡ false

letter_begins : (b : ℕ) → is_letter b ≡ true → list_all (begins_otherwise b) signs ≡ true
letter_begins b h = grind (arith, nat_tests)

digit_begins : (b : ℕ) → is_digit b ≡ true → list_all (begins_otherwise b) signs ≡ true
digit_begins b h = grind (arith, nat_tests)

pub space_begins : (b : ℕ) → is_space b ≡ true → list_all (begins_otherwise b) signs ≡ true
space_begins b h = grind (arith, nat_tests)

pub of_letter : (b : ℕ) → is_letter b ≡ true → BeginsNoSign b true false
of_letter b h =
    record {
      space = grind (arith, nat_tests);
      letter_is = h;
      digit_is = grind (arith, nat_tests);
      slash =
          grind (arith, nat_tests);
      sign = λ t. no_sign b t (letter_begins b h);
    }

pub of_digit : (b : ℕ) → is_digit b ≡ true → BeginsNoSign b false true
of_digit b h =
    record {
      space = grind (arith, nat_tests);
      letter_is = grind (arith, nat_tests);
      digit_is = h;
      slash =
          grind (arith, nat_tests);
      sign = λ t. no_sign b t (digit_begins b h);
    }

space_is_no_other : (b : ℕ) → is_space b ≡ true → (is_letter b ≡ false) × (is_digit b ≡ false) × (nat_eq b 47 ≡ false)
space_is_no_other b h = (grind (arith, nat_tests), grind (arith, nat_tests), grind (arith, nat_tests))

-- ---- input elements

pub space_alone : (b c : ℕ) (t : List ℕ) → is_space b ≡ true → is_input_element (b ∷ c ∷ t) ≡ false
space_alone b c t h = let o = space_is_no_other b h in rw (o.2, o.0, o.1) (no_sign b (c ∷ t) (space_begins b h))

pub letter_element : (b c : ℕ) (t : List ℕ) → BeginsNoSign b true false
    → is_input_element (b ∷ c ∷ t) ≡ list_all is_letter_or_digit (c ∷ t)
letter_element b c t q =
    rw (q.slash, q.letter_is, q.digit_is, q.sign (c ∷ t)) (or-false (list_all is_letter_or_digit (c ∷ t)))

pub digit_element : (b c : ℕ) (t : List ℕ) → BeginsNoSign b false true
    → is_input_element (b ∷ c ∷ t) ≡ list_all is_digit (c ∷ t)
digit_element b c t q = rw (q.slash, q.letter_is, q.digit_is, q.sign (c ∷ t)) (or-false (list_all is_digit (c ∷ t)))

pub line_element : (t : List ℕ) → is_input_element (47 ∷ 47 ∷ t) ≡ list_all (λ c. not (is_line_feed c)) t
line_element t = tidy (list_all (λ c. not (is_line_feed c)) t)
  where
    tidy : (x : Bool) → ((x || false) || false) ≡ x
    tidy true = refl
    tidy false = refl

pub block_element : (t : List ℕ) → is_input_element (47 ∷ 42 ∷ t) ≡ ends_at_first_close t
block_element t = or-false (ends_at_first_close t)

pub slash_element : (c : ℕ) (t : List ℕ) → nat_eq c 47 ≡ false → nat_eq c 42 ≡ false
    → is_input_element (47 ∷ c ∷ t) ≡ false
slash_element c t h k = rw (h, k) refl

pub sign_element_one : (b : ℕ) → BeginsSignOnly b → is_input_element (b ∷ []) ≡ is_sign (b ∷ [])
sign_element_one b q = rw (q.space, q.letter, q.digit) refl

pub sign_element : (b c : ℕ) (t : List ℕ) → BeginsSignOnly b → is_input_element (b ∷ c ∷ t) ≡ is_sign (b ∷ c ∷ t)
sign_element b c t q = rw (q.slash, q.letter, q.digit) refl
