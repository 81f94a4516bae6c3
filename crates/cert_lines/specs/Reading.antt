-- What the parts of a text say, line by line, or why one is refused.
use Rattle.std.specs.Prelude.{◌≡◌, ◌≢◌, ℕ, zero, suc, ◌+◌, Option, Some, None, List, [], ◌∷◌, Result, Ok, Err, refl}
use Rattle.std.specs.Coded.{Coded, code_by, coded×, coded_ℕ, coded_list}
use Rattle.cert_lines.specs.declared.error.CertError.{CertError}
use Rattle.cert_lines.specs.declared.error.CertError.TheVariants.{Line, Number, Truncated, Memory}
use Rattle.cert_lines.specs.declared.error.Fault.{Fault}
use Rattle.cert_lines.specs.declared.error.Fault.TheVariants.{Words, Range}
use Rattle.cert_lines.specs.Words.{cut_at, words_of}

-- the first line without its line feed, and what stands behind that; none where no line feed stands
abbrev pub first_line : List ℕ → Option (List ℕ × List ℕ)
first_line text = cut_at 10 text

-- Parts of the text

-- where a part begins: the number of its first line, and the text from there on
pub record Place : Type 0 where
  pub line : ℕ
  pub text : List ℕ

-- what a part says and where the next one begins, or why it is refused
abbrev pub Part : Type 0 → Type 0
Part A = Place → Result (A × Place) CertError

-- what line n says, before this text
abbrev pub line_read : {A : Type 0} → ℕ → List ℕ → Result A Fault → Result (A × Place) CertError
line_read n text (Ok value) = Ok (value, record { line = n + 1; text = text })
line_read n text (Err Words) = Err (Line n)
line_read n text (Err Range) = Err (Number n)

-- one line, whose words are judged; a text without a line feed ends before it
abbrev pub cut_read : {A : Type 0} → (List (List ℕ) → Result A Fault) → ℕ → Option (List ℕ × List ℕ)
    → Result (A × Place) CertError
cut_read judge n None = Err Truncated
cut_read judge n (Some cut) = line_read n cut.1 (judge (words_of cut.0))

-- what one line of a text says and where the next one begins, or why it is refused, with its number
abbrev pub line : {A : Type 0} → (List (List ℕ) → Result A Fault) → Part A
line judge at = cut_read judge at.line (first_line at.text)

-- a part, and then one that goes by what it said
abbrev pub followed_by : {A B : Type 0} → Result (A × Place) CertError → (A → Part B)
    → Result (B × Place) CertError
followed_by (Ok found) next = next found.0 found.1
followed_by (Err refusal) next = Err refusal

-- so many parts of one kind
unfoldable pub many : {A : Type 0} → Part A → ℕ → Part (List A)
many part zero at = Ok ([], at)
many part (suc count) at =
    followed_by (part at)
    (λ value at. followed_by (many part count at) (λ values at. Ok (value ∷ values, at)))

-- what is wrong with a text that goes on behind its last line
abbrev pub goes_on : ℕ → Option (List ℕ × List ℕ) → CertError
goes_on n None = Truncated
goes_on n (Some cut) = Line n

-- behind the last line stands nothing: a text that goes on is refused
abbrev pub text_end : Part Unit
text_end at = end_read at at.text
  where
    end_read : Place → List ℕ → Result (Unit × Place) CertError
    end_read at [] = Ok (tt, at)
    end_read at (byte ∷ bytes) = Err (goes_on at.line (first_line (byte ∷ bytes)))

-- what was read, without the place behind it
abbrev pub found : {A : Type 0} → Result (A × Place) CertError → Result A CertError
found (Ok read) = Ok read.0
found (Err refusal) = Err refusal

-- a place is stored as its line and its text
abbrev pub place_code : Coded Place
place_code =
    code_by (ℕ × List ℕ) (coded× coded_ℕ (coded_list coded_ℕ)) (λ at. (at.line, at.text))
    (λ pair. record { line = pair.0; text = pair.1 }) (λ _. refl)

-- what a part answers and the place that it leaves are what the definition says, unless memory ran out
abbrev pub Reads : {A : Type 0} → Result A CertError → Place → Result (A × Place) CertError → Type 0
Reads (Ok value) at wanted = wanted ≡ Ok (value, at)
Reads (Err refusal) at wanted = refusal ≢ Memory → wanted ≡ Err refusal
