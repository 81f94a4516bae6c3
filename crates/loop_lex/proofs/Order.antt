-- What the tokens of a source keep.
--
-- By induction along the bytes, the tokens of the bytes from a place on are within the room, stand one behind the other
-- from that place, and each has a text of its kind (`Kept`, `kept_from`): an element's token ends where the next
-- begins, and its text is the element, which is no separator and no large number. That each two stand in order follows
-- from each standing behind the one before (`pairs_are`). That no token is left out isn't said here.
use Rattle.std.proofs.Common.{◌≡◌, ℕ, zero, suc, ◌+◌, ◌-◌, ◌<◌, ◌≤◌, Bool, true, false, if◌then◌else◌, ◌||◌, List, []}
use Rattle.std.proofs.Common.{◌∷◌, length, take, drop, refl, sym, ap, ◌∙◌, subst, arith, nat_eq, nat_lt, get_or, Result}
use Rattle.std.proofs.Common.{Ok, Err, add-zero}
use Rattle.std.specs.Prelude.{All, AllPairs}
use Rattle.std.proofs.lemmas.List.{drop-drop, length-take}
use Rattle.std.proofs.lemmas.Bool.Decides.{nat_tests}
use Rattle.loop_lex.specs.Lexical.{is_input_element, is_separator, is_token, is_word, is_digits, is_reserved, is_sign}
use Rattle.loop_lex.specs.Lexical.{is_large, greatest_number}
use Rattle.loop_lex.specs.Tokens.{token_limit, longest, tokens_from, tokens, element, before, token_at, kind_of}
use Rattle.loop_lex.specs.Tokens.{text_of, IsTextOf, IsTokenOf, AreTokensOf}
use Rattle.loop_lex.specs.declared.token.Token.{Token}
use Rattle.loop_lex.specs.declared.token.LexError.{LexError}
use Rattle.loop_lex.specs.declared.token.LexError.TheVariants.{LargeNumber, TooMany}
use Rattle.loop_lex.proofs.Longest.{longest_le, longest_element}
use Rattle.plain_data.specs.Digits.{decimal_number}

-- ---- the text of one token

or_right : (a b : Bool) → a ≡ false → (a || b) ≡ true → b ≡ true
or_right a b e h = rw e at h

-- a token's text is of its kind
text_is : (text : List ℕ) → is_token text ≡ true → is_large text ≡ false → IsTextOf (kind_of text) text
text_is text token small = digits (is_digits text) refl
  where
    at_most : (n : ℕ) → nat_lt greatest_number n ≡ false → n ≤ greatest_number
    at_most n h = grind (arith, nat_tests)

    reserved : (r : Bool) → is_reserved text ≡ r → is_word text ≡ true → is_digits text ≡ false
        → IsTextOf (kind_of text) text
    reserved true r w d = rw (d, w, r) r
    reserved false r w d = rw (d, w, r) (w, r)

    word : (w : Bool) → is_word text ≡ w → is_digits text ≡ false → IsTextOf (kind_of text) text
    word true w d = reserved (is_reserved text) refl w d
    word false w d = rw (d, w) (or_right (is_digits text) (is_sign text) d (or_right (is_word text) _ w token))

    digits : (d : Bool) → is_digits text ≡ d → IsTextOf (kind_of text) text
    digits true d = rw d (d, at_most (decimal_number text) (rw d at small))
    digits false d = word (is_word text) refl d

-- ---- each token behind the ones before

-- the tokens stand in order from a place on
abbrev Stand : List ℕ → ℕ → List Token → Type 0
Stand bytes from [] = Unit {0}
Stand bytes from (t ∷ ts) = (from ≤ t.start) × IsTokenOf bytes t × Stand bytes t.end ts

stand_from : (bytes : List ℕ) (from to : ℕ) (ts : List Token) → from ≤ to → Stand bytes to ts → Stand bytes from ts
stand_from bytes from to [] le s = tt
stand_from bytes from to (t ∷ ts) le s = (omega (arith, s.0), s.1, s.2)

each_is : (bytes : List ℕ) (from : ℕ) (ts : List Token) → Stand bytes from ts → All (IsTokenOf bytes) ts
each_is bytes from [] s k d lt = absurd (omega arith)
each_is bytes from (t ∷ ts) s zero d lt = s.1
each_is bytes from (t ∷ ts) s (suc k) d lt = each_is bytes t.end ts s.2 k d (omega arith)

each_after : (bytes : List ℕ) (from : ℕ) (ts : List Token) → Stand bytes from ts → All (λ t. from ≤ t.start) ts
each_after bytes from [] s k d lt = absurd (omega arith)
each_after bytes from (t ∷ ts) s zero d lt = s.0
each_after bytes from (t ∷ ts) s (suc k) d lt =
    let later : t.end ≤ (get_or ts k d).start = each_after bytes t.end ts s.2 k d (omega arith) in
    let some : t.start < t.end = s.1.some in
    omega (arith, later, some, s.0)

pairs_are : (bytes : List ℕ) (from : ℕ) (ts : List Token) → Stand bytes from ts → AllPairs (λ a b. a.end ≤ b.start) ts
pairs_are bytes from [] s i j d lt le = absurd (omega arith)
pairs_are bytes from (t ∷ ts) s zero zero d lt le = absurd (omega arith)
pairs_are bytes from (t ∷ ts) s zero (suc j) d lt le = each_after bytes t.end ts s.2 j d (omega arith)
pairs_are bytes from (t ∷ ts) s (suc i) zero d lt le = absurd (omega arith)
pairs_are bytes from (t ∷ ts) s (suc i) (suc j) d lt le = pairs_are bytes t.end ts s.2 i j d (omega arith) (omega arith)

-- ---- the tokens of bytes that begin at a place of the whole source

record Rest (whole : List ℕ) (at : ℕ) (bytes : List ℕ) : Type 0 where
  is : drop at whole ≡ bytes
  within : at + length bytes ≡ length whole

record Kept (whole : List ℕ) (room from : ℕ) (ts : List Token) : Type 0 where
  limit : length ts ≤ room
  stand : Stand whole from ts

abbrev KeptIfOk : List ℕ → ℕ → ℕ → Result (List Token) LexError → Type 0
KeptIfOk whole room from (Ok ts) = Kept whole room from ts
KeptIfOk whole room from (Err e) = Unit {0}

rest_next : (whole : List ℕ) (at b : ℕ) (bytes : List ℕ) → Rest whole at (b ∷ bytes) → Rest whole (at + 1) bytes
rest_next whole at b bytes rest = record {
  is = next;
  within = omega (arith, rest.within);
}
  where
    next : drop (at + 1) whole ≡ bytes
    next = sym (drop-drop 1 at whole) ∙ ap (drop 1) rest.is

module _ (whole : List ℕ) (room at n b : ℕ) (bytes : List ℕ) (rest : Rest whole at (b ∷ bytes))
    (le : suc n ≤ length (b ∷ bytes)) (is : is_input_element (take (suc n) (b ∷ bytes)) ≡ true) where
  length_is : length (take (suc n) (b ∷ bytes)) ≡ suc n
  length_is = omega (arith, length-take (suc n) (b ∷ bytes))

  its_text : text_of whole (token_at at (take (suc n) (b ∷ bytes))) ≡ take (suc n) (b ∷ bytes)
  its_text = let many : at + suc n - at ≡ suc n = omega arith in rw (length_is, many, rest.is) refl

  its_token : is_separator (take (suc n) (b ∷ bytes)) ≡ false → is_large (take (suc n) (b ∷ bytes)) ≡ false
      → IsTokenOf whole (token_at at (take (suc n) (b ∷ bytes)))
  its_token apart small = record {
    some = omega (arith, length_is);
    within = omega (arith, length_is, rest.within);
    text = rw its_text
        (text_is (take (suc n) (b ∷ bytes))
        (or_right (is_separator (take (suc n) (b ∷ bytes))) (is_token (take (suc n) (b ∷ bytes))) apart is) small);
  }

  kept_before : is_separator (take (suc n) (b ∷ bytes)) ≡ false → is_large (take (suc n) (b ∷ bytes)) ≡ false
      → nat_eq room 0 ≡ false → (r : Result (List Token) LexError) → KeptIfOk whole (room - 1) (at + suc n) r
      → KeptIfOk whole room at (before (token_at at (take (suc n) (b ∷ bytes))) r)
  kept_before apart small some (Err e) kept = tt
  kept_before apart small some (Ok ts) kept = record {
    limit = let more : 0 < room = grind (arith, nat_tests) in omega (arith, kept.limit);
    stand = (omega arith, its_token apart small, rw length_is kept.stand);
  }

  kept_after : (left : ℕ) (r : Result (List Token) LexError) → KeptIfOk whole left (at + suc n) r
      → KeptIfOk whole left at r
  kept_after left (Err e) kept = tt
  kept_after left (Ok ts) kept =
      record { limit = kept.limit; stand = stand_from whole at (at + suc n) ts (omega arith) kept.stand }

  kept_element : (behind : ℕ → Result (List Token) LexError)
      → ((left : ℕ) → KeptIfOk whole left (at + suc n) (behind left))
      → KeptIfOk whole room at (element room at (suc n) (b ∷ bytes) behind)
  kept_element behind kept = separator (is_separator (take (suc n) (b ∷ bytes))) refl
    where
      full : (x : Bool) → nat_eq room 0 ≡ x → is_separator (take (suc n) (b ∷ bytes)) ≡ false
          → is_large (take (suc n) (b ∷ bytes)) ≡ false
          → KeptIfOk whole room at
          (if x then Err (TooMany at) else before (token_at at (take (suc n) (b ∷ bytes))) (behind (room - 1)))
      full true e apart small = tt
      full false e apart small = kept_before apart small e (behind (room - 1)) (kept (room - 1))

      large : (x : Bool) → is_large (take (suc n) (b ∷ bytes)) ≡ x → is_separator (take (suc n) (b ∷ bytes)) ≡ false
          → KeptIfOk whole room at
          (if x then Err (LargeNumber at) else
          (if nat_eq room 0 then Err (TooMany at) else before (token_at at (take (suc n) (b ∷ bytes)))
          (behind (room - 1))))
      large true e apart = tt
      large false e apart = full (nat_eq room 0) refl apart e

      separator : (x : Bool) → is_separator (take (suc n) (b ∷ bytes)) ≡ x
          → KeptIfOk whole room at
          (if x then behind room else
          (if is_large (take (suc n) (b ∷ bytes)) then Err (LargeNumber at) else
          (if nat_eq room 0 then Err (TooMany at) else before (token_at at (take (suc n) (b ∷ bytes)))
          (behind (room - 1)))))
      separator true e = kept_after room (behind room) (kept room)
      separator false e = large (is_large (take (suc n) (b ∷ bytes))) refl e

-- the longest input element, or none
kept_longest : (whole : List ℕ) (room at n b : ℕ) (bytes : List ℕ) → Rest whole at (b ∷ bytes) → n ≤ length (b ∷ bytes)
    → (0 < n → is_input_element (take n (b ∷ bytes)) ≡ true) → (behind : ℕ → Result (List Token) LexError)
    → (0 < n → (left : ℕ) → KeptIfOk whole left (at + n) (behind left))
    → KeptIfOk whole room at (element room at n (b ∷ bytes) behind)
kept_longest whole room at zero b bytes rest le is behind kept = tt
kept_longest whole room at (suc n) b bytes rest le is behind kept =
    kept_element whole room at n b bytes rest le (is (omega arith)) behind (kept (omega arith))

kept_from : (whole : List ℕ) (room at skip : ℕ) (bytes : List ℕ) → Rest whole at bytes → skip ≤ length bytes
    → KeptIfOk whole room (at + skip) (tokens_from room at skip bytes)
unfolding tokens_from
kept_from whole room at zero [] rest le = record { limit = omega arith; stand = tt }
kept_from whole room at (suc skip) [] rest le = absurd (omega arith)
kept_from whole room at (suc skip) (b ∷ bytes) rest le =
    let e : at + suc skip ≡ at + 1 + skip = omega arith in
    rw e (kept_from whole room (at + 1) skip bytes (rest_next whole at b bytes rest) (omega arith))
kept_from whole room at zero (b ∷ bytes) rest le =
    let n : ℕ = longest (b ∷ bytes) in
    let short : n ≤ length (b ∷ bytes) = longest_le (length (b ∷ bytes)) (b ∷ bytes) in
    let behind : ℕ → Result (List Token) LexError = λ left. tokens_from left (at + 1) (n - 1) bytes in
    let kept : 0 < n → (left : ℕ) → KeptIfOk whole left (at + n) (behind left) = λ some left.
    let e : at + n ≡ at + 1 + (n - 1) = omega arith in
    rw e (kept_from whole left (at + 1) (n - 1) bytes (rest_next whole at b bytes rest) (omega arith)) in
    rw add-zero (kept_longest whole room at n b bytes rest short
    (longest_element (length (b ∷ bytes)) (b ∷ bytes)) behind kept)

pub in_order : (bytes : List ℕ) (found : List Token) → tokens bytes ≡ Ok found → AreTokensOf bytes found
in_order bytes found e =
    let kept : KeptIfOk bytes token_limit 0 (Ok found) =
    subst (KeptIfOk bytes token_limit 0) e
    (kept_from bytes token_limit 0 0 bytes (record { is = refl; within = omega arith }) (omega arith)) in
    record { limit = kept.limit; each = each_is bytes 0 found kept.stand; order = pairs_are bytes 0 found kept.stand }
