-- Lines of words.
use Rattle.std.specs.Prelude.{ℕ, List, ◌++◌, codes, decimal}
use Rattle.std.specs.List.{join_with_byte}
use Rattle.text_out.specs.declared.words.Word.{Word}
use Rattle.text_out.specs.declared.words.Word.TheVariants.{Text, Number}

-- a text stands for itself, a number for its decimal digits
abbrev pub word_text : Word → List ℕ
word_text (Text text) = text.now
word_text (Number number) = decimal number

-- a word with a space before it
abbrev pub spaced_text : Word → List ℕ
spaced_text word = codes " " ++ word_text word

-- these words with one space between two of them, and a line feed
abbrev pub line_text : List (List ℕ) → List ℕ
line_text words = join_with_byte 32 words ++ codes "\n"
