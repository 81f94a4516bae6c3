-- The parts of a bundle that is put together of a source and a certificate.
--
-- Bytes whose last line is ended have their lines apart from those behind (`lines_behind`). So a source with no
-- separator, ended, is what stands before the first of the two separators; nothing stands between them, which is the
-- data part; and all behind the second is the certificate, whatever it holds. The other way, the source part of any
-- bundle has no separator, since the lines before the first one are the lines of their own bytes (`source_whole`). That
-- a line end behind a source makes no separator is a premise here, shown in `Separators`.
use Rattle.std.proofs.Common.{◌≡◌, ◌==◌, ◌∙◌, ◌<◌, ℕ, zero, suc, true, false, List, [], ◌∷◌, ◌++◌, Some, None, Option, length, take, refl, sym, ap, inl, inr, arith, append_assoc}
use Rattle.std.specs.Prelude.{codes, if◌then◌else◌, option_and_then}
use Rattle.std.specs.List.{concat}
use Rattle.std.specs.Option.{option_map_or}
use Rattle.std.proofs.lemmas.Bool.{cases_Bool}
use Rattle.std.proofs.lemmas.List.{append-nil}
use Rattle.bundle.specs.Parts.{after_separator, before_separator, certificate_part, data_part, is_separator, lines_after, lines_before, lines_of, source_part, with_byte}
use Rattle.bundle.proofs.Lines.{concat-lines_of}
use Rattle.bundle.specs.Certified.{certified, ends_with_line, with_line_end}

-- The lines of bytes behind a line end

with_byte-append : (byte : ℕ) (lines more : List (List ℕ)) → 0 < length lines
    → with_byte byte (lines ++ more) ≡ with_byte byte lines ++ more
with_byte-append byte [] more some = absurd (omega arith)
with_byte-append byte (line ∷ lines) more some = refl

some_with_byte : (byte : ℕ) (lines : List (List ℕ)) → 0 < length (with_byte byte lines)
some_with_byte byte [] = omega arith
some_with_byte byte (line ∷ lines) = omega arith

some_lines : (byte : ℕ) (bytes : List ℕ) → 0 < length (lines_of (byte ∷ bytes))
some_lines byte bytes =
    elim (cases_Bool
    (byte == 10)) [ inl feed ↦ rw feed (omega arith) | inr other ↦ rw other (some_with_byte byte (lines_of bytes)) ]

pub lines_behind : (bytes more : List ℕ) → ends_with_line bytes ≡ true
    → lines_of (bytes ++ more) ≡ lines_of bytes ++ lines_of more
lines_behind [] more ends = refl
lines_behind (byte ∷ []) more ends = rw ends refl
lines_behind (byte ∷ next ∷ bytes) more ends =
    elim (cases_Bool (byte == 10)) [
      | inl feed ↦ rw feed (ap (λ (lines : List (List ℕ)). (byte ∷ []) ∷ lines) (lines_behind (next ∷ bytes) more ends))
      | inr other ↦ rw other
          (ap (with_byte byte) (lines_behind (next ∷ bytes) more ends)
          ∙ with_byte-append byte (lines_of (next ∷ bytes)) (lines_of more) (some_lines next bytes))
    ]

-- Lines without a separator

before_behind : (lines more : List (List ℕ)) → lines_after lines ≡ None
    → lines_before (lines ++ more) ≡ concat lines ++ lines_before more
before_behind [] more none = refl
before_behind (line ∷ lines) more none =
    elim (cases_Bool (is_separator line)) [
      | inl here ↦ let found : Some (concat lines) ≡ None = rw here at none in cc
      | inr other ↦ rw other
          (ap (λ (rest : List ℕ). line ++ rest) (before_behind lines more (rw other at none))
          ∙ sym (append_assoc line (concat lines) (lines_before more)))
    ]

pub after_behind : (lines more : List (List ℕ)) → lines_after lines ≡ None
    → lines_after (lines ++ more) ≡ lines_after more
after_behind [] more none = refl
after_behind (line ∷ lines) more none =
    elim (cases_Bool (is_separator line)) [
      | inl here ↦ let found : Some (concat lines) ≡ None = rw here at none in cc
      | inr other ↦ rw other (after_behind lines more (rw other at none))
    ]

-- two separators and a text
abbrev tail : List ℕ → List ℕ
tail text = codes "%%\n%%\n" ++ text

tail_before : (text : List ℕ) → before_separator (tail text) ≡ []
tail_before text = refl

tail_after : (text : List ℕ) → after_separator (tail text) ≡ Some (codes "%%\n" ++ text)
tail_after text = ap (λ (rest : List ℕ). Some (codes "%%\n" ++ rest)) (concat-lines_of text)

last_before : (text : List ℕ) → before_separator (codes "%%\n" ++ text) ≡ []
last_before text = refl

last_after : (text : List ℕ) → after_separator (codes "%%\n" ++ text) ≡ Some text
last_after text = ap (λ (rest : List ℕ). Some rest) (concat-lines_of text)

module _ (source text : List ℕ) (ends : ends_with_line source ≡ true) (none : after_separator source ≡ None) where
  ended_before : before_separator (source ++ tail text) ≡ source
  ended_before =
      ap lines_before (lines_behind source (tail text) ends)
      ∙ before_behind (lines_of source) (lines_of (tail text)) none
      ∙ ap (λ (rest : List ℕ). concat (lines_of source) ++ rest) (tail_before text)
      ∙ append-nil (concat (lines_of source)) ∙ concat-lines_of source

  ended_after : after_separator (source ++ tail text) ≡ Some (codes "%%\n" ++ text)
  ended_after =
      ap lines_after (lines_behind source (tail text) ends) ∙ after_behind (lines_of source) (lines_of (tail text)) none
      ∙ tail_after text

  ended_data : data_part (source ++ tail text) ≡ []
  ended_data = ap (λ (o : Option (List ℕ)). option_map_or before_separator o []) ended_after ∙ last_before text

  ended_certificate : certificate_part (source ++ tail text) ≡ Some text
  ended_certificate = ap (option_and_then after_separator) ended_after ∙ last_after text

ends_behind : (source : List ℕ) → ends_with_line (source ++ 10 ∷ []) ≡ true
ends_behind [] = refl
ends_behind (byte ∷ []) = refl
ends_behind (byte ∷ next ∷ bytes) = ends_behind (next ∷ bytes)

pub ends_with : (source : List ℕ) → ends_with_line (with_line_end source) ≡ true
ends_with source =
    elim (cases_Bool
    (ends_with_line source)) [ inl ends ↦ rw ends ends | inr open_line ↦ rw open_line (ends_behind source) ]

pub certified_source : (source text : List ℕ) → after_separator (with_line_end source) ≡ None
    → source_part (certified source text) ≡ with_line_end source
certified_source source text = ended_before (with_line_end source) text (ends_with source)

pub certified_data : (source text : List ℕ) → after_separator (with_line_end source) ≡ None
    → data_part (certified source text) ≡ []
certified_data source text = ended_data (with_line_end source) text (ends_with source)

pub certified_certificate : (source text : List ℕ) → after_separator (with_line_end source) ≡ None
    → certificate_part (certified source text) ≡ Some text
certified_certificate source text = ended_certificate (with_line_end source) text (ends_with source)

-- A source part has no separator

take_none : (k : ℕ) → ◌≡◌ {A = List (List ℕ)} (take k []) []
take_none zero = refl
take_none (suc k) = refl

with_first : (byte k : ℕ) (lines : List (List ℕ)) → (byte == 10) ≡ false
    → lines_of (concat (take (suc k) lines)) ≡ take (suc k) lines
    → lines_of (concat (take (suc k) (with_byte byte lines))) ≡ take (suc k) (with_byte byte lines)
with_first byte k [] other own =
    ap (λ (lines : List (List ℕ)). lines_of (byte ∷ concat lines)) (take_none k)
    ∙ rw other (ap (λ (lines : List (List ℕ)). (byte ∷ []) ∷ lines) (sym (take_none k)))
with_first byte k (line ∷ lines) other own = rw other (ap (with_byte byte) own)

-- the first lines of some bytes are the lines of their own bytes
first_lines : (bytes : List ℕ) (k : ℕ) → lines_of (concat (take k (lines_of bytes))) ≡ take k (lines_of bytes)
first_lines bytes zero = refl
first_lines [] (suc k) = refl
first_lines (byte ∷ bytes) (suc k) =
    elim (cases_Bool (byte == 10)) [
      | inl feed ↦ rw feed (rw feed (ap (λ (lines : List (List ℕ)). (byte ∷ []) ∷ lines) (first_lines bytes k)))
      | inr other ↦ rw other (with_first byte k (lines_of bytes) other (first_lines bytes (suc k)))
    ]

-- how many lines stand before the first separator
abbrev count_before : List (List ℕ) → ℕ
count_before [] = 0
count_before (line ∷ lines) = if is_separator line then 0 else suc (count_before lines)

before_counted : (lines : List (List ℕ)) → lines_before lines ≡ concat (take (count_before lines) lines)
before_counted [] = refl
before_counted (line ∷ lines) =
    elim (cases_Bool
    (is_separator line)) [
      | inl here ↦ rw here refl
      | inr other ↦ rw other (ap (λ (rest : List ℕ). line ++ rest) (before_counted lines))
    ]

none_counted : (lines : List (List ℕ)) → lines_after (take (count_before lines) lines) ≡ None
none_counted [] = refl
none_counted (line ∷ lines) =
    elim (cases_Bool
    (is_separator line)) [ inl here ↦ rw here refl | inr other ↦ rw other (rw other (none_counted lines)) ]

pub source_whole : (bundle : List ℕ) → after_separator (source_part bundle) ≡ None
source_whole bundle =
    ap (λ (bytes : List ℕ). lines_after (lines_of bytes)) (before_counted (lines_of bundle))
    ∙ ap lines_after (first_lines bundle (count_before (lines_of bundle))) ∙ none_counted (lines_of bundle)
