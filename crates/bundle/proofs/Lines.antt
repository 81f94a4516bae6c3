-- The first line of some bytes, and all their lines together.
use Rattle.std.proofs.Common.{◌≡◌, ℕ, ◌+◌, ◌<◌, ◌==◌, List, [], ◌∷◌, ◌++◌, true, false, suc, length, take, drop, refl, sym, ap, ◌∙◌, ◌≤◌, length-append, length-drop, arith, Some}
use Rattle.std.proofs.lemmas.List.{drop-drop}
use Rattle.std.proofs.Math.Seq.{take-add, take-append_seam, drop-append_seam}
use Rattle.std.specs.List.{concat, position_or_len}
use Rattle.bundle.specs.Parts.{lines_of, with_byte, before_separator, after_separator, is_separator}

abbrev feed : List ℕ → ℕ
feed bytes = position_or_len (λ byte. byte == 10) bytes

at_feed : (byte : ℕ) (bytes : List ℕ) → (byte == 10) ≡ true → feed (byte ∷ bytes) ≡ 0
at_feed byte bytes e = rw e refl

past_byte : (byte : ℕ) (bytes : List ℕ) → (byte == 10) ≡ false → feed (byte ∷ bytes) ≡ suc (feed bytes)
past_byte byte bytes e = rw e (omega arith)

-- a line that a LF ends
pub lines_of-line : (bytes : List ℕ) → feed bytes < length bytes
    → lines_of bytes ≡ take (suc (feed bytes)) bytes ∷ lines_of (drop (suc (feed bytes)) bytes)
lines_of-line [] some = absurd (omega arith)
lines_of-line (byte ∷ bytes) some =
    elim (byte == 10) as
    (λ t. (byte == 10) ≡ t
    → lines_of (byte ∷ bytes)
    ≡ take (suc (feed (byte ∷ bytes))) (byte ∷ bytes) ∷ lines_of
    (drop (suc (feed (byte ∷ bytes))) (byte ∷ bytes))) [
      | true ↦ λ e. rw (at_feed byte bytes e, e) refl
      | false ↦ λ e. let less : feed bytes < length bytes =
          omega (arith, past_byte byte bytes e) in rw (past_byte byte bytes e, e)
          (ap (with_byte byte) (lines_of-line bytes less))
    ] refl

-- a last line without one
pub lines_of-last : (bytes : List ℕ) → 0 < length bytes → feed bytes ≡ length bytes → lines_of bytes ≡ bytes ∷ []
lines_of-last [] some whole = absurd (omega arith)
lines_of-last (byte ∷ []) some whole =
    elim (byte == 10) as (λ t. (byte == 10) ≡ t → lines_of (byte ∷ []) ≡ (byte ∷ []) ∷ [])
    [ true ↦ λ e. rw e refl | false ↦ λ e. rw e refl ] refl
lines_of-last (byte ∷ next ∷ bytes) some whole =
    elim (byte == 10) as (λ t. (byte == 10) ≡ t → lines_of (byte ∷ next ∷ bytes) ≡ (byte ∷ next ∷ bytes) ∷ []) [
      | true ↦ λ e. absurd (omega (arith, at_feed byte (next ∷ bytes) e))
      | false ↦ λ e. let rest : feed (next ∷ bytes) ≡ length (next ∷ bytes) =
          omega (arith, past_byte byte (next ∷ bytes) e) in rw e
          (ap (with_byte byte) (lines_of-last (next ∷ bytes) (omega arith) rest))
    ] refl

concat-with_byte : (byte : ℕ) (lines : List (List ℕ)) → concat (with_byte byte lines) ≡ byte ∷ concat lines
concat-with_byte byte [] = refl
concat-with_byte byte (line ∷ lines) = refl

pub concat-lines_of : (bytes : List ℕ) → concat (lines_of bytes) ≡ bytes
concat-lines_of [] = refl
concat-lines_of (byte ∷ bytes) =
    elim (byte == 10) as (λ t. (byte == 10) ≡ t → concat (lines_of (byte ∷ bytes)) ≡ byte ∷ bytes) [
      | true ↦ λ e. rw e (ap (λ (rest : List ℕ). byte ∷ rest) (concat-lines_of bytes))
      | false ↦ λ e. rw e
          (concat-with_byte byte (lines_of bytes) ∙ ap (λ (rest : List ℕ). byte ∷ rest) (concat-lines_of bytes))
    ] refl

pub before_separator-line : (bytes line later : List ℕ) → lines_of bytes ≡ line ∷ lines_of later
    → is_separator line ≡ false → before_separator bytes ≡ line ++ before_separator later
before_separator-line bytes line later e plain = rw (e, plain) refl

pub after_separator-line : (bytes line later : List ℕ) → lines_of bytes ≡ line ∷ lines_of later
    → is_separator line ≡ false → after_separator bytes ≡ after_separator later
after_separator-line bytes line later e plain = rw (e, plain) refl

pub after_separator-here : (bytes line later : List ℕ) → lines_of bytes ≡ line ∷ lines_of later
    → is_separator line ≡ true → after_separator bytes ≡ Some later
after_separator-here bytes line later e ends = rw (e, ends) (ap (λ (rest : List ℕ). Some rest) (concat-lines_of later))

-- a line at a place, and what stands after it
pub drop-past_line : (bytes line later : List ℕ) (start : ℕ) → drop start bytes ≡ line ++ later
    → drop (start + length line) bytes ≡ later
drop-past_line bytes line later start e =
    sym (drop-drop (length line) start bytes) ∙ ap (drop (length line)) e ∙ drop-append_seam line later

pub take-past_line : (bytes line later : List ℕ) (start : ℕ) → drop start bytes ≡ line ++ later
    → take (start + length line) bytes ≡ take start bytes ++ line
take-past_line bytes line later start e =
    take-add start (length line) bytes
    ∙ ap (λ (front : List ℕ). take start bytes ++ front) (ap (take (length line)) e ∙ take-append_seam line later)

pub length-past_line : (bytes line later : List ℕ) (start : ℕ) → start ≤ length bytes → drop start bytes ≡ line ++ later
    → start + length line ≤ length bytes
length-past_line bytes line later start within e =
    omega (arith, sym (length-drop start bytes) ∙ ap length e ∙ length-append line later)
