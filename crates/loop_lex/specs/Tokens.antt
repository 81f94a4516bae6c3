-- The tokens of a source, each the longest that its place allows.
use Rattle.std.specs.Prelude.{◌≡◌, ◌==◌, ◌+◌, ◌-◌, ◌<◌, ◌≤◌, ℕ, zero, suc, true, false, List, [], ◌∷◌, take, length, slice_range, All, AllPairs, if◌then◌else◌, Result, Ok, Err}
use Rattle.std.specs.Global.{Vec}
use Rattle.loop_lex.specs.Lexical.{is_input_element, is_separator, is_large, is_digits, is_word, is_reserved, is_sign, opens_comment, greatest_number}
use Rattle.loop_lex.specs.declared.token.Token.{Token}
use Rattle.loop_lex.specs.declared.token.TokenKind.{TokenKind}
use Rattle.loop_lex.specs.declared.token.TokenKind.TheVariants.{Name, Number, Reserved, Sign}
use Rattle.loop_lex.specs.declared.token.LexError.{LexError}
use Rattle.loop_lex.specs.declared.token.LexError.TheVariants.{BadByte, OpenComment, LargeNumber, TooMany}
use Rattle.plain_data.specs.Digits.{decimal_number}

-- the greatest n up to `most` for which the first n bytes are an input element, or 0
unfoldable pub longest_up_to : ℕ → List ℕ → ℕ
longest_up_to zero bytes = 0
longest_up_to (suc most) bytes =
    if is_input_element (take (suc most) bytes) then suc most else longest_up_to most bytes

-- the length of the longest input element at the front, or 0 where none stands there
abbrev pub longest : List ℕ → ℕ
longest bytes = longest_up_to (length bytes) bytes

-- the kind of a text that is a token
abbrev pub kind_of : List ℕ → TokenKind
kind_of text =
    if is_digits text then Number
    else (if is_word text then (if is_reserved text then Reserved else Name) else Sign)

-- why no input element stands at the front of the bytes, which begin at `at`
abbrev pub refusal : ℕ → List ℕ → LexError
refusal at bytes = if opens_comment bytes then OpenComment at else BadByte at

-- the token of this text that begins at `at`
abbrev pub token_at : ℕ → List ℕ → Token
token_at at text = record { kind = kind_of text; start = at; end = at + length text }

-- a token and the tokens behind it
abbrev pub before : Token → Result (List Token) LexError → Result (List Token) LexError
before token (Ok tokens) = Ok (token ∷ tokens)
before token (Err error) = Err error

-- The input element of n bytes at the front, which begins at `at`, and what stands behind it.
-- `room` more tokens may come, and `behind` gives the tokens that follow where so many more may.
-- Of two refusals at one place the one that is tested first decides.
abbrev pub element : ℕ → ℕ → ℕ → List ℕ → (ℕ → Result (List Token) LexError)
    → Result (List Token) LexError
element room at zero bytes behind = Err (refusal at bytes)
element room at (suc n) bytes behind =
    let text = take (suc n) bytes in
    if is_separator text then behind room
    else (if is_large text then Err (LargeNumber at)
    else (if room == 0 then Err (TooMany at)
    else before (token_at at text) (behind (room - 1))))

-- the tokens of bytes that begin at `at`, of which the first `skip` belong to the input element before
unfoldable pub tokens_from : ℕ → ℕ → ℕ → List ℕ → Result (List Token) LexError
tokens_from room at skip [] = Ok []
tokens_from room at (suc skip) (b ∷ bytes) = tokens_from room (at + 1) skip bytes
tokens_from room at zero (b ∷ bytes) =
    let n = longest (b ∷ bytes) in
    element room at n (b ∷ bytes) (λ left. tokens_from left (at + 1) (n - 1) bytes)

-- the number of tokens that a source can have
abbrev pub token_limit : ℕ
token_limit = 8192

-- the tokens of a source, or the first refusal
abbrev pub tokens : List ℕ → Result (List Token) LexError
tokens bytes = tokens_from token_limit 0 0 bytes

-- the lexer's answer, with its tokens as a list
abbrev pub answer_of : Result (Vec Token) LexError → Result (List Token) LexError
answer_of (Ok found) = Ok found.items
answer_of (Err error) = Err error

-- the text of a token: its slice of the bytes
abbrev pub text_of : List ℕ → Token → List ℕ
text_of bytes token = slice_range bytes token.start token.end

-- a text of this kind
abbrev pub IsTextOf : TokenKind → List ℕ → Type 0
IsTextOf Name text = (is_word text ≡ true) × (is_reserved text ≡ false)
IsTextOf Number text = (is_digits text ≡ true) × (decimal_number text ≤ greatest_number)
IsTextOf Reserved text = is_reserved text ≡ true
IsTextOf Sign text = is_sign text ≡ true

-- the token lies within the bytes, and its slice of them is a text of its kind
pub record IsTokenOf (bytes : List ℕ) (token : Token) : Type 0 where
  pub some : token.start < token.end
  pub within : token.end ≤ length bytes
  pub text : IsTextOf token.kind (text_of bytes token)

-- so many tokens as there may be, each of the bytes, and each behind the ones before
pub record AreTokensOf (bytes : List ℕ) (tokens : List Token) : Type 0 where
  pub limit : length tokens ≤ token_limit
  pub each : All (IsTokenOf bytes) tokens
  pub order : AllPairs (λ a b. a.end ≤ b.start) tokens
