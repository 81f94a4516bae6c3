-- What the scanners find at the front of bytes.
use Rattle.std.specs.Prelude.{◌≡◌, ◌<◌, ◌≤◌, ℕ, Bool, true, false, List, [], ◌∷◌, take, length, nat_eq}
use Rattle.loop_lex.specs.Lexical.{is_separator, is_space, is_letter, is_digit, is_sign, ends_at_first_close, opens_comment}
use Rattle.loop_lex.specs.Tokens.{longest, kind_of}
use Rattle.loop_lex.specs.declared.scan.Front.{Front}
use Rattle.loop_lex.specs.declared.scan.Front.TheVariants.{Separator, Token, OpenComment, Unknown}

-- no `*/` stands in the body of a comment
abbrev pub NeverCloses : List ℕ → Type 0
NeverCloses body = (m : ℕ) → m ≤ length body → ends_at_first_close (take m body) ≡ false

-- the first `*/` of the body ends at n
pub record ClosesAt (body : List ℕ) (n : ℕ) : Type 0 where
  pub within : n ≤ length body
  pub closed : ends_at_first_close (take n body) ≡ true
  pub only : (m : ℕ) → n < m → m ≤ length body → ends_at_first_close (take m body) ≡ false

-- the longest input element at the front has n bytes, and is a separator or none
pub record IsLongest (bytes : List ℕ) (n : ℕ) (separates : Bool) : Type 0 where
  pub some : 0 < n
  pub within : n ≤ length bytes
  pub greatest : longest bytes ≡ n
  pub sort : is_separator (take n bytes) ≡ separates

-- what was found stands at the front of the bytes
abbrev pub IsFront : List ℕ → Front → Type 0
IsFront bytes (Separator n) = IsLongest bytes n true
IsFront bytes (Token kind n) = IsLongest bytes n false × (kind_of (take n bytes) ≡ kind)
IsFront bytes Unknown = (longest bytes ≡ 0) × (opens_comment bytes ≡ false)
IsFront bytes OpenComment = (longest bytes ≡ 0) × (opens_comment bytes ≡ true)

-- a byte that begins no white space, word, number or comment
pub record BeginsSignOnly (b : ℕ) : Type 0 where
  pub space : is_space b ≡ false
  pub letter : is_letter b ≡ false
  pub digit : is_digit b ≡ false
  pub slash : nat_eq b 47 ≡ false

-- the first byte passes the test
abbrev pub Begins : (ℕ → Bool) → List ℕ → Type 0
Begins test [] = ⊥
Begins test (b ∷ bytes) = test b ≡ true

abbrev pub begins_double_sign : List ℕ → Bool
begins_double_sign (a ∷ b ∷ rest) = is_sign (a ∷ b ∷ [])
begins_double_sign _ = false
