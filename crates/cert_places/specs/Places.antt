-- Where a text is refused, told exactly: by the texts that begin as it does, and by nothing of how it is read.
--
-- The texts meant here may nest deeper than they can be read. Of a front none of the lines does, but those behind it may.
use Rattle.std.specs.Prelude.{◌≡◌, ◌<◌, ◌≤◌, ◌||◌, Bool, ℕ, suc, if◌then◌else◌, Some, List, ◌∷◌, ◌++◌, All, codes, length, map}
use Rattle.cert_lines.specs.Words.{is_negative, is_numeral, words_of}
use Rattle.cert_text.specs.CertText.{IsInRangeOf, folded_text}
use Rattle.cert_text.specs.Folding.{Folded, cert_of, network_of, scripts, too_long}
use Rattle.cert_places.specs.Depths.{NestsTo, Version, folded_depths}
use Rattle.cert_places.specs.Fronts.{IsLine, lines_text}

-- a line that doesn't nest too deep
abbrev pub IsShallow : ℕ → Type 0
IsShallow depth = depth ≤ 512

-- some text, however deep it nests, has these bytes and its lines these depths
pub record IsText (text : List ℕ) (depths : List ℕ) : Type 0 where
  pub levels : ℕ
  pub version : Version
  pub folded : Folded
  pub nests : NestsTo levels version folded
  pub is_text : folded_text version folded ≡ text
  pub depths_are : folded_depths folded ≡ depths

-- the lines are the first of some text, and none of them nests too deep
pub record IsFront (lines : List (List ℕ)) : Type 0 where
  pub rest : List ℕ
  pub depths : List ℕ
  pub others : List ℕ
  pub in_text : IsText (lines_text lines ++ rest) (depths ++ others)
  pub as_many : length depths ≡ length lines
  pub shallow : All IsShallow depths

-- line n of the text, and the lines before it
pub record IsLineAt (text : List ℕ) (n : ℕ) (lines : List (List ℕ)) (line : List ℕ) : Type 0 where
  pub each : All IsLine lines
  pub whole : IsLine line
  pub rest : List ℕ
  pub is_text : text ≡ lines_text lines ++ (line ++ 10 ∷ rest)
  pub number : n ≡ suc (length lines)

-- the lines before line n are the first of some text, and with line n they are the first of none
pub record IsWrongAt (text : List ℕ) (n : ℕ) : Type 0 where
  pub lines : List (List ℕ)
  pub line : List ℕ
  pub there : IsLineAt text n lines line
  pub front : IsFront lines
  pub none : (rest depths : List ℕ) → IsText (lines_text lines ++ (line ++ 10 ∷ rest)) depths → ⊥

-- a numeral, or `-` and one
abbrev pub is_number : List ℕ → Bool
is_number word = is_numeral word || is_negative word

-- 2 for each number, and each other word as it stands
abbrev pub in_pattern : List ℕ → List ℕ
in_pattern word = if is_number word then codes "2" else word

-- the same for each word
abbrev pub patterns : List (List ℕ) → List (List ℕ)
patterns words = map in_pattern words

-- The pattern of a line: its words, with 2 for each number. Lines with one pattern differ in their numbers alone.
abbrev pub pattern : List ℕ → List (List ℕ)
pattern line = patterns (words_of line)

-- Line n is wrong in its numbers alone: it isn't the first, and the lines before it go on to some text, however deep it
-- nests, with another line of its pattern.
pub record IsOutOfRangeAt (text : List ℕ) (n : ℕ) : Type 0 where
  pub wrong : IsWrongAt text n
  pub later : 1 < n
  pub other : List ℕ
  pub whole : IsLine other
  pub same : pattern wrong.line ≡ pattern other
  pub rest : List ℕ
  pub depths : List ℕ
  pub some : IsText (lines_text wrong.lines ++ (other ++ 10 ∷ rest)) depths

-- the first depth above 512 stands behind so many
pub record IsDeepBehind (count : ℕ) (depths : List ℕ) : Type 0 where
  pub before : List ℕ
  pub depth : ℕ
  pub others : List ℕ
  pub depths_are : depths ≡ before ++ depth ∷ others
  pub as_many : length before ≡ count
  pub shallow : All IsShallow before
  pub too_deep : 512 < depth

-- the first n lines are the first of some text, and in each such text line n is the first that nests too deep
pub record IsTooDeepAt (text : List ℕ) (n : ℕ) : Type 0 where
  pub lines : List (List ℕ)
  pub line : List ℕ
  pub there : IsLineAt text n lines line
  pub rest : List ℕ
  pub depths : List ℕ
  pub some : IsText (lines_text lines ++ (line ++ 10 ∷ rest)) depths
  pub deep : (rest depths : List ℕ) → IsText (lines_text lines ++ (line ++ 10 ∷ rest)) depths
      → IsDeepBehind (length lines) depths

-- Blocks within their ranges have the text, and stand for a pair that is too long: p is the first script up to which there are
-- too many events, or the number of scripts where the schedule has too many entries.
pub record IsTooLong (text : List ℕ) (p : ℕ) : Type 0 where
  pub version : Version
  pub folded : Folded
  pub in_range : IsInRangeOf version folded
  pub is_text : folded_text version folded ≡ text
  pub long : too_long (scripts (network_of folded)) (cert_of folded).schedule ≡ Some p

-- the whole lines are the first of some text, none of them too deep, and these bytes are no text
pub record IsCutShort (text : List ℕ) : Type 0 where
  pub lines : List (List ℕ)
  pub each : All IsLine lines
  pub rest : List ℕ
  pub last : IsLine rest
  pub is_text : text ≡ lines_text lines ++ rest
  pub front : IsFront lines
  pub none : (depths : List ℕ) → IsText text depths → ⊥
