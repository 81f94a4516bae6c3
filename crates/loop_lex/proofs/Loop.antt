-- The tokens found so far, and those of the rest.
--
-- The invariant `Reads`: the tokens found, put before those that the rest gives, come to the whole result, and the
-- tokens found with those that still have room are the limit. It holds at first, and one element goes on with it: a
-- separator only moves the place, and a token is put behind the found ones (`goes_past`, `takes_token`). A large
-- number, a token without room, and a place without an element each make the whole result that refusal, since refusals
-- pass through what was found. At the end of the bytes the found tokens are all (`is_done`).
use Rattle.std.proofs.Common.{◌≡◌, ℕ, zero, suc, ◌+◌, ◌-◌, ◌<◌, ◌≤◌, Bool, true, false, if◌then◌else◌, List, [], ◌∷◌}
use Rattle.std.proofs.Common.{◌++◌, length, take, drop, refl, sym, ap, ◌∙◌, arith, nat_eq, Result, Ok, Err}
use Rattle.std.proofs.Common.{append_assoc, add-zero, length-drop}
use Rattle.std.proofs.lemmas.List.{drop-drop, append-nil, length-append}
use Rattle.std.proofs.lemmas.Bool.Decides.{nat_tests}
use Rattle.loop_lex.specs.Lexical.{is_separator, is_large}
use Rattle.loop_lex.specs.Front.{IsLongest}
use Rattle.loop_lex.specs.Tokens.{token_limit, longest, tokens_from, element, before, token_at, refusal}
use Rattle.loop_lex.specs.declared.token.Token.{Token}
use Rattle.loop_lex.specs.declared.token.LexError.{LexError}
use Rattle.loop_lex.specs.declared.token.LexError.TheVariants.{LargeNumber, TooMany}

-- the tokens found, and then those that the rest gives
abbrev pub onto : List Token → Result (List Token) LexError → Result (List Token) LexError
onto front (Ok ts) = Ok (front ++ ts)
onto front (Err e) = Err e

-- what belongs to the element before is passed over
pub skips : (room at k : ℕ) (bytes : List ℕ) → k ≤ length bytes
    → tokens_from room at k bytes ≡ tokens_from room (at + k) 0 (drop k bytes)
unfolding tokens_from
skips room at zero bytes le = rw add-zero refl
skips room at (suc k) [] le = absurd (omega arith)
skips room at (suc k) (b ∷ bytes) le =
    let e : at + suc k ≡ at + 1 + k = omega arith in rw e (skips room (at + 1) k bytes (omega arith))

element_same : (room at n : ℕ) (bytes : List ℕ) (f g : ℕ → Result (List Token) LexError)
    → ((left : ℕ) → f left ≡ g left) → element room at n bytes f ≡ element room at n bytes g
element_same room at zero bytes f g e = refl
element_same room at (suc n) bytes f g e = rw (e room, e (room - 1)) refl

-- one element at the front
pub at_element : (room at n : ℕ) (bytes : List ℕ) (separates : Bool) → IsLongest bytes n separates
    → tokens_from room at 0 bytes ≡ element room at n bytes (λ left. tokens_from left (at + n) 0 (drop n bytes))
unfolding tokens_from
at_element room at n [] separates long = absurd (omega (arith, long.some, long.within))
at_element room at zero (b ∷ bytes) separates long = absurd (omega (arith, long.some))
at_element room at (suc n) (b ∷ bytes) separates long =
    let one : suc n - 1 ≡ n = omega arith in
    let far : at + suc n ≡ at + 1 + n = omega arith in
    rw (long.greatest, one, far)
    (element_same room at (suc n) (b ∷ bytes) (λ left. tokens_from left (at + 1) n bytes)
    (λ left. tokens_from left (at + 1 + n) 0 (drop n bytes))
    (λ left. skips left (at + 1) n bytes (omega (arith, long.within))))

pub element_separates : (room at n : ℕ) (bytes : List ℕ) (after : ℕ → Result (List Token) LexError) → 0 < n
    → is_separator (take n bytes) ≡ true → element room at n bytes after ≡ after room
element_separates room at zero bytes after lt e = absurd (omega arith)
element_separates room at (suc n) bytes after lt e = rw e refl

pub element_large : (room at n : ℕ) (bytes : List ℕ) (after : ℕ → Result (List Token) LexError) → 0 < n
    → is_separator (take n bytes) ≡ false → is_large (take n bytes) ≡ true
    → element room at n bytes after ≡ Err (LargeNumber at)
element_large room at zero bytes after lt e l = absurd (omega arith)
element_large room at (suc n) bytes after lt e l = rw (e, l) refl

pub element_full : (at n : ℕ) (bytes : List ℕ) (after : ℕ → Result (List Token) LexError) → 0 < n
    → is_separator (take n bytes) ≡ false → is_large (take n bytes) ≡ false
    → element 0 at n bytes after ≡ Err (TooMany at)
element_full at zero bytes after lt e l = absurd (omega arith)
element_full at (suc n) bytes after lt e l = rw (e, l) refl

not_zero : {A : Type 0} (x : A) (room : ℕ) (y : A) → (if nat_eq (suc room) 0 then x else y) ≡ y
not_zero x room y = grind (arith, nat_tests)

pub element_token : (room at n : ℕ) (bytes : List ℕ) (after : ℕ → Result (List Token) LexError) → 0 < n
    → is_separator (take n bytes) ≡ false → is_large (take n bytes) ≡ false
    → element (suc room) at n bytes after ≡ before (token_at at (take n bytes)) (after room)
element_token room at zero bytes after lt e l = absurd (omega arith)
element_token room at (suc n) bytes after lt e l =
    let one : suc room - 1 ≡ room =
    omega arith in rw (e, l, one)
    (not_zero (Err (TooMany at)) room (before (token_at at (take (suc n) bytes)) (after room)))

onto_more : (front : List Token) (t : Token) (rest : Result (List Token) LexError)
    → onto front (before t rest) ≡ onto (front ++ t ∷ []) rest
onto_more front t (Ok ts) = ap (λ (x : List Token). Ok x) (sym (append_assoc front (t ∷ []) ts))
onto_more front t (Err e) = refl

-- the state of the loop: what was found, at which place
pub record Reads (found : List Token) (room at : ℕ) (bytes : List ℕ)
    (total : Result (List Token) LexError) : Type 0 where
  pub inside : at ≤ length bytes
  pub count : length found + room ≡ token_limit
  pub so_far : onto found (tokens_from room at 0 (drop at bytes)) ≡ total

module _ (found : List Token) (room at n : ℕ) (bytes : List ℕ) (total : Result (List Token) LexError)
    (r : Reads found room at bytes total) where
  inside_after : (separates : Bool) → IsLongest (drop at bytes) n separates → at + n ≤ length bytes
  inside_after separates long = omega (arith, long.within, r.inside, length-drop at bytes)

  at_front : (separates : Bool) → IsLongest (drop at bytes) n separates
      → onto found (element room at n (drop at bytes) (λ left. tokens_from left (at + n) 0 (drop (at + n) bytes)))
      ≡ total
  at_front separates long =
      let same : element room at n (drop at bytes) (λ left. tokens_from left (at + n) 0 (drop (at + n) bytes))
      ≡ tokens_from room at 0 (drop at bytes)
      = element_same room at n (drop at bytes) (λ left. tokens_from left (at + n) 0 (drop (at + n) bytes))
      (λ left. tokens_from left (at + n) 0 (drop n (drop at bytes)))
      (λ left. ap (tokens_from left (at + n) 0) (sym (drop-drop n at bytes)))
      ∙ sym (at_element room at n (drop at bytes) separates long) in
      ap (onto found) same ∙ r.so_far

  pub goes_past : IsLongest (drop at bytes) n true → Reads found room (at + n) bytes total
  goes_past long = record {
    inside = inside_after true long;
    count = r.count;
    so_far =
        sym (ap (onto found)
        (element_separates room at n (drop at bytes)
        (λ left. tokens_from left (at + n) 0 (drop (at + n) bytes)) long.some long.sort)) ∙ at_front true long;
  }

  pub is_large_there : IsLongest (drop at bytes) n false → is_large (take n (drop at bytes)) ≡ true
      → total ≡ Err (LargeNumber at)
  is_large_there long large =
      sym (at_front false long)
      ∙ ap (onto found)
      (element_large room at n (drop at bytes)
      (λ left. tokens_from left (at + n) 0 (drop (at + n) bytes)) long.some long.sort large)

  pub is_full_there : IsLongest (drop at bytes) n false → is_large (take n (drop at bytes)) ≡ false → room ≡ 0
      → total ≡ Err (TooMany at)
  is_full_there long large full =
      sym (at_front false long)
      ∙ ap (onto found)
      (ap (λ k. element k at n (drop at bytes) (λ left. tokens_from left (at + n) 0 (drop (at + n) bytes))) full
      ∙ element_full at n (drop at bytes)
      (λ left. tokens_from left (at + n) 0 (drop (at + n) bytes)) long.some long.sort large)

  pub takes_token : (fewer : ℕ) → suc fewer ≡ room → IsLongest (drop at bytes) n false
      → is_large (take n (drop at bytes)) ≡ false
      → Reads (found ++ token_at at (take n (drop at bytes)) ∷ []) fewer (at + n) bytes total
  takes_token fewer e long large = record {
    inside = inside_after false long;
    count = omega (arith, r.count, length-append found (token_at at (take n (drop at bytes)) ∷ []));
    so_far =
        sym (onto_more found (token_at at (take n (drop at bytes)))
        (tokens_from fewer (at + n) 0 (drop (at + n) bytes)))
        ∙ sym (ap (onto found)
        (ap (λ k. element k at n (drop at bytes) (λ left. tokens_from left (at + n) 0 (drop (at + n) bytes)))
        (sym e) ∙ element_token fewer at n (drop at bytes)
        (λ left. tokens_from left (at + n) 0 (drop (at + n) bytes)) long.some long.sort large))
        ∙ at_front false long;
  }

nothing_there : (room at : ℕ) (bytes : List ℕ) → 0 < length bytes → longest bytes ≡ 0
    → tokens_from room at 0 bytes ≡ Err (refusal at bytes)
unfolding tokens_from
nothing_there room at [] lt e = absurd (omega arith)
nothing_there room at (b ∷ bytes) lt e = rw e refl

pub is_refused : (found : List Token) (room at : ℕ) (bytes : List ℕ) (total : Result (List Token) LexError)
    → Reads found room at bytes total → at < length bytes → longest (drop at bytes) ≡ 0
    → total ≡ Err (refusal at (drop at bytes))
is_refused found room at bytes total r lt none =
    sym r.so_far ∙ ap (onto found) (nothing_there room at (drop at bytes) (omega (arith, length-drop at bytes)) none)

nothing_left : (room at : ℕ) (bytes : List ℕ) → length bytes ≡ 0 → tokens_from room at 0 bytes ≡ Ok []
unfolding tokens_from
nothing_left room at [] e = refl
nothing_left room at (b ∷ bytes) e = absurd (omega arith)

pub is_done : (found : List Token) (room at : ℕ) (bytes : List ℕ) (total : Result (List Token) LexError)
    → Reads found room at bytes total → length bytes ≤ at → total ≡ Ok found
is_done found room at bytes total r le =
    sym r.so_far ∙ ap (onto found) (nothing_left room at (drop at bytes) (omega (arith, length-drop at bytes)))
    ∙ ap (λ (x : List Token). Ok x) (append-nil found)
