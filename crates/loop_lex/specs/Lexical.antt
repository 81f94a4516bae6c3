-- The lexical grammar: which texts are white space, comments and tokens. A text is a list of bytes.
use Rattle.std.specs.Prelude.{◌==◌, ◌&&◌, ◌||◌, ℕ, Bool, true, false, not, List, [], ◌∷◌, nat_le, nat_lt, if◌then◌else◌, codes}
use Rattle.std.specs.List.{list_all, list_any}
use Rattle.std.specs.Str.{bytes_eq}
use Rattle.plain_data.specs.Digits.{decimal_number}

-- a space, a tab, a line feed or a carriage return
abbrev pub is_space : ℕ → Bool
is_space b = list_any (λ c. c == b) (32 ∷ 9 ∷ 10 ∷ 13 ∷ [])

abbrev pub is_digit : ℕ → Bool
is_digit b = nat_le 48 b && nat_le b 57

-- an ASCII letter or an underscore
abbrev pub is_letter : ℕ → Bool
is_letter b = (nat_le 65 b && nat_le b 90) || ((nat_le 97 b && nat_le b 122) || (b == 95))

abbrev pub is_letter_or_digit : ℕ → Bool
is_letter_or_digit b = is_letter b || is_digit b

abbrev pub is_line_feed : ℕ → Bool
is_line_feed b = b == 10

-- one byte of white space
abbrev pub is_white_space : List ℕ → Bool
is_white_space (b ∷ []) = is_space b
is_white_space _ = false

-- `//` and then no line feed
abbrev pub is_line_comment : List ℕ → Bool
is_line_comment (a ∷ b ∷ body) =
    (a == 47) && ((b == 47) && list_all (λ c. not (is_line_feed c)) body)
is_line_comment _ = false

abbrev pub is_empty : List ℕ → Bool
is_empty [] = true
is_empty (b ∷ bs) = false

-- the first `*/` stands at the end
abbrev pub ends_at_first_close : List ℕ → Bool
ends_at_first_close [] = false
ends_at_first_close (a ∷ []) = false
ends_at_first_close (a ∷ b ∷ rest) =
    if (a == 42) && (b == 47) then is_empty rest else ends_at_first_close (b ∷ rest)

abbrev pub opens_comment : List ℕ → Bool
opens_comment (a ∷ b ∷ rest) = (a == 47) && (b == 42)
opens_comment _ = false

-- `/*` and then the bytes up to the next `*/`, which stands behind the whole `/*`
abbrev pub is_block_comment : List ℕ → Bool
is_block_comment (a ∷ b ∷ body) = opens_comment (a ∷ b ∷ []) && ends_at_first_close body
is_block_comment _ = false

-- a letter, then letters and digits
abbrev pub is_word : List ℕ → Bool
is_word (b ∷ bs) = is_letter b && list_all is_letter_or_digit bs
is_word [] = false

abbrev pub reserved_words : List (List ℕ)
reserved_words =
    codes "param" ∷ codes "in" ∷ codes "out" ∷ codes "inout" ∷ codes "var" ∷ codes "int"
    ∷ codes "for"
    ∷ codes "if" ∷ codes "else" ∷ codes "min" ∷ codes "max" ∷ []

abbrev pub is_reserved : List ℕ → Bool
is_reserved text = list_any (bytes_eq text) reserved_words

-- a word that is not reserved
abbrev pub is_name : List ℕ → Bool
is_name text = is_word text && not (is_reserved text)

abbrev pub is_digits : List ℕ → Bool
is_digits (b ∷ bs) = is_digit b && list_all is_digit bs
is_digits [] = false

abbrev pub signs : List (List ℕ)
signs =
    codes "(" ∷ codes ")" ∷ codes "[" ∷ codes "]" ∷ codes "{" ∷ codes "}" ∷ codes ";" ∷ codes ","
    ∷ codes "=" ∷ codes "<" ∷ codes "<=" ∷ codes ">" ∷ codes ">=" ∷ codes "=="
    ∷ codes "+" ∷ codes "++" ∷ codes "+=" ∷ codes "-" ∷ codes "*" ∷ codes "&&" ∷ []

abbrev pub is_sign : List ℕ → Bool
is_sign text = list_any (bytes_eq text) signs

-- white space or a comment, which separate tokens
abbrev pub is_separator : List ℕ → Bool
is_separator text = is_white_space text || (is_line_comment text || is_block_comment text)

-- which texts are tokens: words, digits and signs
abbrev pub is_token : List ℕ → Bool
is_token text = is_word text || (is_digits text || is_sign text)

abbrev pub is_input_element : List ℕ → Bool
is_input_element text = is_separator text || is_token text

-- the greatest number that a source can write, 2 ^ 63 - 1
abbrev pub greatest_number : ℕ
greatest_number = 9223372036854775807

-- digits whose value passes the greatest number
abbrev pub is_large : List ℕ → Bool
is_large text = is_digits text && nat_lt greatest_number (decimal_number text)
