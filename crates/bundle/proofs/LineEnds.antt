-- A line feed behind a source changes none of its tokens.
--
-- The longest element at the front stays the same: one that reached the line feed would have it behind other bytes and
-- as its last byte, which `Feeds` excludes, and what ends before it doesn't see it. So by induction along the source
-- its elements are the same up to its end, and there the line feed alone is white space, which gives no token. The
-- tokens lie within the source, so their texts, and with them the sentence, are the same too. This holds of refusals as
-- well as of tokens.
use Rattle.std.proofs.Common.{◌≡◌, ◌∙◌, ◌+◌, ◌-◌, ◌≤◌, ℕ, zero, suc, Bool, false, cond, List, [], ◌∷◌, ◌++◌, length, take, drop, map, refl, ap, inl, inr, arith, nat_eq, length-append, Result, Ok, Err}
use Rattle.std.specs.Prelude.{◌==◌, if◌then◌else◌, All}
use Rattle.std.proofs.lemmas.Bool.{cases_Bool, and_right}
use Rattle.std.proofs.lemmas.List.{drop-append-le, length-drop, take-append-le, take_all}
use mathlib.Core.Path.{fun_ext}
use Rattle.loop_grammar.specs.Lexemes.{lexeme_at, lexeme_of, numbered_from, sentence}
use Rattle.loop_grammar.specs.declared.lexeme.Lexeme.{Lexeme}
use Rattle.loop_lex.proofs.Longest.{longest_le}
use Rattle.loop_lex.proofs.Order.{in_order}
use Rattle.loop_lex.specs.Lexical.{is_input_element, is_large, is_separator, opens_comment}
use Rattle.loop_lex.specs.Tokens.{IsTokenOf, before, element, longest, longest_up_to, text_of, token_at, token_limit, tokens, tokens_from}
use Rattle.loop_lex.specs.declared.token.LexError.{LexError}
use Rattle.loop_lex.specs.declared.token.LexError.TheVariants.{LargeNumber, TooMany}
use Rattle.loop_lex.specs.declared.token.Token.{Token}
use Rattle.bundle.specs.Certified.{ends_with_line, with_line_end}
use Rattle.bundle.proofs.Feeds.{no_element}

-- The longest element

up_to_same : (k : ℕ) (bytes more : List ℕ) → k ≤ length bytes → longest_up_to k (bytes ++ more) ≡ longest_up_to k bytes
unfolding longest_up_to
up_to_same zero bytes more le = refl
up_to_same (suc k) bytes more le =
    ap (λ (text : List ℕ). cond (is_input_element text) (suc k) (longest_up_to k (bytes ++ more)))
    (take-append-le (suc k) bytes more le)
    ∙ ap (cond (is_input_element (take (suc k) bytes)) (suc k)) (up_to_same k bytes more (omega arith))

shorter : (b : ℕ) (bytes : List ℕ) → length (b ∷ (bytes ++ 10 ∷ [])) ≡ suc (length (b ∷ bytes))
    → longest_up_to (suc (length (b ∷ bytes))) (b ∷ (bytes ++ 10 ∷ []))
    ≡ longest_up_to (length (b ∷ bytes)) (b ∷ (bytes ++ 10 ∷ []))
unfolding longest_up_to
shorter b bytes long =
    let all : take (suc (length (b ∷ bytes))) (b ∷ (bytes ++ 10 ∷ [])) ≡ b ∷ (bytes ++ 10 ∷ []) =
    take_all (suc (length (b ∷ bytes))) (b ∷ (bytes ++ 10 ∷ [])) (omega (arith, long)) in
    ap (λ (text : List ℕ).
    cond (is_input_element text) (suc (length (b ∷ bytes)))
    (longest_up_to (length (b ∷ bytes)) (b ∷ (bytes ++ 10 ∷ [])))) all
    ∙ ap (λ (test : Bool).
    cond test (suc (length (b ∷ bytes))) (longest_up_to (length (b ∷ bytes)) (b ∷ (bytes ++ 10 ∷ []))))
    (no_element (b ∷ bytes) [] (b ∷ bytes) 10 refl refl (omega arith))

longest_same : (b : ℕ) (bytes : List ℕ) → longest (b ∷ (bytes ++ 10 ∷ [])) ≡ longest (b ∷ bytes)
longest_same b bytes =
    let whole : List ℕ = b ∷ (bytes ++ 10 ∷ []) in
    let long : length whole ≡ suc (length (b ∷ bytes)) = omega (arith, length-append bytes (10 ∷ [])) in
    ap (λ (k : ℕ). longest_up_to k whole) long ∙ shorter b bytes long
    ∙ up_to_same (length (b ∷ bytes)) (b ∷ bytes) (10 ∷ []) (omega arith)

-- Tokens

opens_same : (b : ℕ) (bytes : List ℕ) → opens_comment (b ∷ (bytes ++ 10 ∷ [])) ≡ opens_comment (b ∷ bytes)
opens_same b [] = and_right (nat_eq b 47) false refl
opens_same b (c ∷ bytes) = refl

abbrev Behind : Type 0
Behind = ℕ → Result (List Token) LexError

-- an element of this text, and what stands behind it
abbrev of_text : ℕ → ℕ → List ℕ → Behind → Result (List Token) LexError
of_text room at text behind =
    if is_separator text then behind room
    else (if is_large text then Err (LargeNumber at)
    else (if room == 0 then Err (TooMany at)
    else before (token_at at text) (behind (room - 1))))

element_same : (room at n b : ℕ) (bytes : List ℕ) (behind : Behind) → n ≤ length (b ∷ bytes)
    → element room at n (b ∷ (bytes ++ 10 ∷ [])) behind ≡ element room at n (b ∷ bytes) behind
element_same room at zero b bytes behind le = rw (opens_same b bytes) refl
element_same room at (suc n) b bytes behind le =
    ap (λ (text : List ℕ). of_text room at text behind) (take-append-le (suc n) (b ∷ bytes) (10 ∷ []) le)

feed_alone : (room at : ℕ) → tokens_from room at 0 (10 ∷ []) ≡ Ok []
unfolding tokens_from longest_up_to
feed_alone room at = refl

from_same : (room at skip : ℕ) (bytes : List ℕ) → skip ≤ length bytes
    → tokens_from room at skip (bytes ++ 10 ∷ []) ≡ tokens_from room at skip bytes
unfolding tokens_from
from_same room at zero [] le = feed_alone room at
from_same room at (suc skip) [] le = absurd (omega arith)
from_same room at (suc skip) (b ∷ bytes) le = from_same room (at + 1) skip bytes (omega arith)
from_same room at zero (b ∷ bytes) le =
    let n : ℕ = longest (b ∷ bytes) in
    let within : n ≤ length (b ∷ bytes) = longest_le (length (b ∷ bytes)) (b ∷ bytes) in
    ap (λ (m : ℕ).
    element room at m (b ∷ (bytes ++ 10 ∷ [])) (λ left. tokens_from left (at + 1) (m - 1) (bytes ++ 10 ∷ [])))
    (longest_same b bytes)
    ∙ ap (element room at n (b ∷ (bytes ++ 10 ∷ [])))
    (fun_ext (λ left. from_same left (at + 1) (n - 1) bytes (omega (arith, within))))
    ∙ element_same room at n b bytes (λ left. tokens_from left (at + 1) (n - 1) bytes) within

pub tokens_same : (source : List ℕ) → tokens (with_line_end source) ≡ tokens source
tokens_same source =
    elim (cases_Bool
    (ends_with_line source))
    [ inl ends ↦ rw ends refl | inr open_line ↦ rw open_line (from_same token_limit 0 0 source (omega arith)) ]

-- What the tokens are to the grammar

text_same : (bytes more : List ℕ) (token : Token) → IsTokenOf bytes token
    → text_of (bytes ++ more) token ≡ text_of bytes token
text_same bytes more token is =
    let some = is.some in
    let within = is.within in
    ap (take (token.end - token.start)) (drop-append-le token.start bytes more (omega (arith, some, within)))
    ∙ take-append-le (token.end - token.start) (drop token.start bytes) more
    (omega (arith, length-drop token.start bytes, within))

lexeme_same : (bytes more : List ℕ) (token : Token) → IsTokenOf bytes token
    → lexeme_at (bytes ++ more) token ≡ lexeme_at bytes token
unfolding lexeme_at
lexeme_same bytes more token is = ap (lexeme_of token.kind) (text_same bytes more token is)

lexemes_same : (bytes more : List ℕ) (found : List Token) → All (IsTokenOf bytes) found
    → map (lexeme_at (bytes ++ more)) found ≡ map (lexeme_at bytes) found
lexemes_same bytes more [] all = refl
lexemes_same bytes more (token ∷ found) all =
    ap (λ (first : Lexeme). first ∷ map (lexeme_at (bytes ++ more)) found)
    (lexeme_same bytes more token (all 0 token (omega arith)))
    ∙ ap (λ (rest : List Lexeme). lexeme_at bytes token ∷ rest)
    (lexemes_same bytes more found (λ k d lt. all (suc k) d (omega arith)))

behind_same : (bytes more : List ℕ) (found : List Token) → tokens bytes ≡ Ok found
    → sentence (bytes ++ more) found ≡ sentence bytes found
unfolding sentence
behind_same bytes more found is = ap (numbered_from 0) (lexemes_same bytes more found (in_order bytes found is).each)

pub sentence_same : (source : List ℕ) (found : List Token) → tokens source ≡ Ok found
    → sentence (with_line_end source) found ≡ sentence source found
sentence_same source found is =
    elim (cases_Bool
    (ends_with_line source))
    [ inl ends ↦ rw ends refl | inr open_line ↦ rw open_line (behind_same source (10 ∷ []) found is) ]
