-- Tokens that were written with a space behind each are read back.
--
-- A token's text with a space behind it is no input element, whatever follows the space (`Ends`): words, numbers and
-- signs have no space in them, and a token begins no comment. So at the front of such a text the longest element is the
-- token, and the next is the space, which gives none. By induction along the texts the tokens are those that were
-- written, at their places (`spaced_from`), and their texts are the same (`texts_back`). Where no space stands between
-- them, two words may become one.
use Rattle.std.proofs.Common.{◌≡◌, ℕ, zero, suc, ◌+◌, ◌-◌, ◌<◌, ◌≤◌, Bool, true, false, not, ◌&&◌, List, [], ◌∷◌, ◌++◌}
use Rattle.std.proofs.Common.{length, take, drop, refl, sym, ap, ◌∙◌, arith, nat_eq, Result, Ok, map, length-append}
use Rattle.std.specs.List.{list_all}
use Rattle.std.specs.Str.{bytes_eq}
use Rattle.std.proofs.lemmas.Bool.Decides.{nat_tests}
use Rattle.std.proofs.lemmas.List.{drop-drop}
use Rattle.std.proofs.lemmas.Bool.{and_parts, and_right, not-true, both_ways}
use Rattle.loop_lex.specs.Lexical.{is_input_element, is_separator, is_token, is_space, is_sign, signs, is_letter}
use Rattle.loop_lex.specs.Lexical.{is_digit, is_letter_or_digit, is_large}
use Rattle.loop_lex.specs.Front.{BeginsSignOnly, IsLongest}
use Rattle.loop_lex.specs.Tokens.{token_limit, tokens, tokens_from, token_at, before, text_of}
use Rattle.loop_lex.specs.Spaced.{are_token_texts, spaced, spaced_tokens}
use Rattle.loop_lex.specs.declared.token.Token.{Token}
use Rattle.loop_lex.specs.declared.token.LexError.{LexError}
use Rattle.loop_lex.proofs.Elements.{BeginsNoSign, of_letter, of_digit, not_and, none_of}
use Rattle.loop_lex.proofs.Elements.{no_sign, space_begins, letter_element, digit_element, sign_element, long_sign}
use Rattle.loop_lex.proofs.Longest.{longest_is, NoneOver, no_separator, space_found}
use Rattle.loop_lex.proofs.Loop.{at_element, element_separates, element_token}

-- ---- a token with a space behind it is no input element

all_but_space : (p : ℕ → Bool) (bs t : List ℕ) → p 32 ≡ false → list_all p (bs ++ 32 ∷ t) ≡ false
all_but_space p [] t e = rw e refl
all_but_space p (b ∷ bs) t e = and_right (p b) (list_all p (bs ++ 32 ∷ t)) (all_but_space p bs t e)

abbrev second_otherwise : List ℕ → Bool
second_otherwise (a ∷ c ∷ cs) = not (nat_eq 32 c)
second_otherwise _ = true

other_second : (b : ℕ) (t s : List ℕ) → second_otherwise s ≡ true → bytes_eq (b ∷ 32 ∷ t) s ≡ false
other_second b t [] h = refl
other_second b t (a ∷ []) h = and_right (nat_eq b a) false refl
other_second b t (a ∷ c ∷ cs) h =
    and_right (nat_eq b a) (nat_eq 32 c && bytes_eq t cs) (not_and (nat_eq 32 c) (bytes_eq t cs) h)

-- no sign has a space behind its first byte
no_spaced_sign : (b : ℕ) (t : List ℕ) → is_sign (b ∷ 32 ∷ t) ≡ false
no_spaced_sign b t = none_of second_otherwise (bytes_eq (b ∷ 32 ∷ t)) (other_second b t) signs refl

sign_begins : (b : ℕ) (bs : List ℕ) → is_sign (b ∷ bs) ≡ true → is_letter b ≡ false → is_digit b ≡ false
    → BeginsSignOnly b
sign_begins b bs sign letter digit =
    record { space = space (is_space b) refl; letter = letter; digit = digit; slash = slash (nat_eq b 47) refl }
  where
    space : (x : Bool) → is_space b ≡ x → is_space b ≡ false
    space true e =
        let never : is_sign (b ∷ bs) ≡ false =
        no_sign b bs (space_begins b e) in absurd (both_ways (is_sign (b ∷ bs)) never sign)
    space false e = e

    slash : (x : Bool) → nat_eq b 47 ≡ x → nat_eq b 47 ≡ false
    slash true e =
        let is : b ≡ 47 =
        grind (arith, nat_tests) in let never : is_sign (b ∷ bs) ≡ false =
        rw is refl in absurd (both_ways (is_sign (b ∷ bs)) never sign)
    slash false e = e

-- how a token begins, and that a space behind it ends it
record Ends (b : ℕ) (bs : List ℕ) : Type 0 where
  space : is_space b ≡ false
  slash : nat_eq b 47 ≡ false
  apart : (t : List ℕ) → is_input_element (b ∷ (bs ++ 32 ∷ t)) ≡ false

of_word : (b : ℕ) (bs : List ℕ) → is_letter b ≡ true → Ends b bs
of_word b bs h = let q = of_letter b h in record { space = q.space; slash = q.slash; apart = apart bs q }
  where
    apart : (bs : List ℕ) → BeginsNoSign b true false → (t : List ℕ) → is_input_element (b ∷ (bs ++ 32 ∷ t)) ≡ false
    apart [] q t = letter_element b 32 t q ∙ all_but_space is_letter_or_digit [] t refl
    apart (c ∷ bs) q t = letter_element b c (bs ++ 32 ∷ t) q ∙ all_but_space is_letter_or_digit (c ∷ bs) t refl

of_digits : (b : ℕ) (bs : List ℕ) → is_digit b ≡ true → Ends b bs
of_digits b bs h = let q = of_digit b h in record { space = q.space; slash = q.slash; apart = apart bs q }
  where
    apart : (bs : List ℕ) → BeginsNoSign b false true → (t : List ℕ) → is_input_element (b ∷ (bs ++ 32 ∷ t)) ≡ false
    apart [] q t = digit_element b 32 t q ∙ all_but_space is_digit [] t refl
    apart (c ∷ bs) q t = digit_element b c (bs ++ 32 ∷ t) q ∙ all_but_space is_digit (c ∷ bs) t refl

of_sign : (b : ℕ) (bs : List ℕ) → is_sign (b ∷ bs) ≡ true → is_letter b ≡ false → is_digit b ≡ false → Ends b bs
of_sign b bs sign letter digit =
    let q = sign_begins b bs sign letter digit in record { space = q.space; slash = q.slash; apart = apart bs q }
  where
    apart : (bs : List ℕ) → BeginsSignOnly b → (t : List ℕ) → is_input_element (b ∷ (bs ++ 32 ∷ t)) ≡ false
    apart [] q t = sign_element b 32 t q ∙ no_spaced_sign b t
    apart (c ∷ []) q t = sign_element b c (32 ∷ t) q ∙ long_sign b c 32 t
    apart (c ∷ d ∷ bs) q t = sign_element b c (d ∷ (bs ++ 32 ∷ t)) q ∙ long_sign b c d (bs ++ 32 ∷ t)

of_token : (b : ℕ) (bs : List ℕ) → is_token (b ∷ bs) ≡ true → Ends b bs
of_token b bs h = letter (is_letter b) refl
  where
    digit : (x : Bool) → is_digit b ≡ x → is_letter b ≡ false → Ends b bs
    digit true e no_letter = of_digits b bs e
    digit false e no_letter = of_sign b bs (rw (no_letter, e) at h) no_letter e

    letter : (x : Bool) → is_letter b ≡ x → Ends b bs
    letter true e = of_word b bs e
    letter false e = digit (is_digit b) refl e

-- ---- the longest

take_front : (xs ys : List ℕ) → take (length xs) (xs ++ ys) ≡ xs
take_front [] ys = refl
take_front (x ∷ xs) ys = ap (λ r. x ∷ r) (take_front xs ys)

drop_front : (xs ys : List ℕ) → drop (length xs) (xs ++ ys) ≡ ys
drop_front [] ys = refl
drop_front (x ∷ xs) ys = drop_front xs ys

take_over : (bs r : List ℕ) (m : ℕ) → length bs < m → (t : List ℕ) × (take m (bs ++ 32 ∷ r) ≡ bs ++ 32 ∷ t)
take_over [] r zero lt = absurd (omega arith)
take_over [] r (suc m) lt = (take m r, refl)
take_over (b ∷ bs) r zero lt = absurd (omega arith)
take_over (b ∷ bs) r (suc m) lt = let more = take_over bs r m (omega arith) in (more.0, ap (λ x. b ∷ x) more.1)

token_in_front : (text rest : List ℕ) → is_token text ≡ true → IsLongest (text ++ 32 ∷ rest) (length text) false
token_in_front [] rest h = absurd (both_ways (is_token []) refl h)
token_in_front (b ∷ bs) rest h =
    let ends = of_token b bs h in
    let itself : take (length bs) (bs ++ 32 ∷ rest) ≡ bs = take_front bs (32 ∷ rest) in
    let alone : is_separator (b ∷ bs) ≡ false = no_separator b bs ends.space ends.slash in
    let far : length (bs ++ 32 ∷ rest) ≡ length bs + suc (length rest) = length-append bs (32 ∷ rest) in
    record {
      some = omega arith;
      within = omega (arith, far);
      greatest =
          longest_is (suc (length (bs ++ 32 ∷ rest))) (b ∷ (bs ++ 32 ∷ rest)) (length bs) (omega arith)
          (omega (arith, far)) (rw (itself, alone) h) (over ends);
      sort = rw itself alone;
    }
  where
    over : Ends b bs → NoneOver (b ∷ (bs ++ 32 ∷ rest)) (suc (length bs))
    over ends zero lt le = absurd (omega arith)
    over ends (suc m) lt le = let more = take_over bs rest m (omega arith) in rw more.1 (ends.apart more.0)

-- ---- the tokens

past_space : (room at : ℕ) (rest : List ℕ) → tokens_from room at 0 (32 ∷ rest) ≡ tokens_from room (at + 1) 0 rest
past_space room at rest =
    at_element room at 1 (32 ∷ rest) true (space_found 32 rest refl)
    ∙ element_separates room at 1 (32 ∷ rest) (λ left. tokens_from left (at + 1) 0 rest) (omega arith) refl

-- a token, and the space behind it
one_token : (room at : ℕ) (text rest : List ℕ) → is_token text ≡ true → is_large text ≡ false
    → tokens_from (suc room) at 0 (text ++ 32 ∷ rest)
    ≡ before (token_at at text) (tokens_from room (at + length text + 1) 0 rest)
one_token room at text rest h l =
    let long = token_in_front text rest h in
    let front : take (length text) (text ++ 32 ∷ rest) ≡ text = take_front text (32 ∷ rest) in
    let back : drop (length text) (text ++ 32 ∷ rest) ≡ 32 ∷ rest = drop_front text (32 ∷ rest) in
    let after : ℕ → Result (List Token) LexError =
    λ left. tokens_from left (at + length text) 0 (drop (length text) (text ++ 32 ∷ rest)) in
    at_element (suc room) at (length text) (text ++ 32 ∷ rest) false long
    ∙ element_token room at (length text) (text ++ 32 ∷ rest) after long.some long.sort (rw front l)
    ∙ rw (front, back) (ap (before (token_at at text)) (past_space room (at + length text) rest))

pub spaced_from : (room at : ℕ) (texts : List (List ℕ)) → are_token_texts texts ≡ true → length texts ≤ room
    → tokens_from room at 0 (spaced texts) ≡ Ok (spaced_tokens at texts)
unfolding tokens_from
spaced_from room at [] h le = refl
spaced_from zero at (text ∷ texts) h le = absurd (omega arith)
spaced_from (suc room) at (text ∷ texts) h le =
    let this : (is_token text && not (is_large text)) ≡ true =
    (and_parts (is_token text && not (is_large text)) (are_token_texts texts) h).0 in
    let others : are_token_texts texts ≡ true =
    (and_parts (is_token text && not (is_large text)) (are_token_texts texts) h).1 in
    one_token room at text (spaced texts) ((and_parts (is_token text) (not (is_large text)) this).0)
    (not-true (is_large text) ((and_parts (is_token text) (not (is_large text)) this).1))
    ∙ ap (before (token_at at text)) (spaced_from room (at + length text + 1) texts others (omega arith))

pub read_back : (texts : List (List ℕ)) → are_token_texts texts ≡ true → length texts ≤ token_limit
    → tokens (spaced texts) ≡ Ok (spaced_tokens 0 texts)
read_back texts h le = spaced_from token_limit 0 texts h le

texts_from : (whole : List ℕ) (at : ℕ) (texts : List (List ℕ)) → drop at whole ≡ spaced texts
    → map (text_of whole) (spaced_tokens at texts) ≡ texts
texts_from whole at [] e = refl
texts_from whole at (text ∷ texts) e =
    let many : at + length text - at ≡ length text = omega arith in
    let first : text_of whole (token_at at text) ≡ text = rw (many, e) (take_front text (32 ∷ spaced texts)) in
    let behind : drop (at + length text) whole ≡ 32 ∷ spaced texts =
    sym (drop-drop (length text) at whole) ∙ ap (drop (length text)) e ∙ drop_front text (32 ∷ spaced texts) in
    let next : drop (at + length text + 1) whole ≡ spaced texts =
    sym (drop-drop 1 (at + length text) whole) ∙ ap (drop 1) behind in
    rw first (ap (λ r. text ∷ r) (texts_from whole (at + length text + 1) texts next))

pub texts_back : (texts : List (List ℕ)) → map (text_of (spaced texts)) (spaced_tokens 0 texts) ≡ texts
texts_back texts = texts_from (spaced texts) 0 texts refl
