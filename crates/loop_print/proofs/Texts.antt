-- The text of the words is read back as these words.
--
-- Each word that stands for a token has a text that is a token, and the lexer's lexeme of that text is the word again
-- (`writable`, `read_back`). The words of a tree that has a source are such words, since those of the source are and
-- the tree's come from them, and there are no more than the source has, so within the limit. So the text's sentence is
-- the words, numbered from 0, and these derive the tree again (`SpelledSources`). What the lexer does with
-- texts that are written with spaces behind is a hypothesis (`ReadsSpaced`, `KeepsTexts`), and so is what tokens keep
-- (`KeepsTokens`).
use Rattle.std.proofs.Common.{rules, ◌≡◌, ℕ, ◌+◌, ◌*◌, ◌-◌, ◌^◌, ◌<◌, ◌≤◌, pos, negsuc, Bool, true, false, not, ◌&&◌}
use Rattle.std.proofs.Common.{◌||◌, List, [], ◌∷◌, fold, map, length, refl, sym, ap, subst, ◌∙◌, arith, All, nat_lt, Ok}
use Rattle.std.specs.Fmt.{decimal}
use Rattle.std.specs.List.{list_all, list_any}
use Rattle.std.specs.Str.{bytes_eq}
use Rattle.std.proofs.lemmas.Bool.{le-ltb, or_right, and_parts}
use Rattle.std.proofs.lemmas.Bool.Decides.{nat_tests}
use Rattle.std.proofs.lemmas.Fmt.{digits_decimal, digits_value-decimal, decimal_nonempty}
use Rattle.std.proofs.lemmas.List.{length-map}
use Rattle.std.proofs.lemmas.List.Elements.{All-head, All-tail}
use Rattle.std.proofs.lemmas.Slice.Eq.{bytes_eq-Decides}
use Rattle.std.proofs.lemmas.Str.Parse.{IsDigitsTest, FoldsDigits, IsNumeralModel, numerals_by_fold}
use Rattle.loop_lex.specs.Lexical.{is_word, is_letter, is_letter_or_digit, is_digit, is_digits, is_token, is_reserved}
use Rattle.loop_lex.specs.Lexical.{is_sign, reserved_words, signs, is_large, greatest_number}
use Rattle.loop_lex.specs.Spaced.{are_token_texts, spaced, spaced_tokens}
use Rattle.loop_lex.specs.Tokens.{kind_of, token_at, tokens, token_limit, text_of, IsTextOf as IsKindOf, IsTokenOf}
use Rattle.loop_lex.specs.Tokens.{AreTokensOf}
use Rattle.loop_lex.specs.declared.token.Token.{Token}
use Rattle.loop_lex.specs.declared.token.TokenKind.{TokenKind}
use Rattle.loop_lex.specs.declared.token.TokenKind.TheVariants as kind
use Rattle.loop_grammar.specs.declared.lexeme.Lexeme.{Lexeme}
use Rattle.loop_grammar.specs.declared.lexeme.Lexeme.TheVariants as word
use Rattle.loop_grammar.specs.declared.lexeme.Choice.TheVariants.{Min}
use Rattle.loop_grammar.specs.declared.tree.CompareSign.TheVariants.{Less}
use Rattle.loop_grammar.specs.declared.tree.DeclWord.TheVariants.{Param}
use Rattle.loop_grammar.specs.declared.tree.Tree.{Tree}
use Rattle.loop_grammar.specs.Grammar.{Program, program_text, program_tree, Derives}
use Rattle.loop_grammar.specs.Lexemes.{reserved_lexeme, bracket_lexeme, comparison_lexeme, sign_lexeme, lexeme_of}
use Rattle.loop_grammar.specs.Lexemes.{lexeme_at, numbered_from, sentence}
use Rattle.loop_grammar.proofs.Lexemes.{length-sentence}
use Rattle.loop_print.specs.Printing.{lexeme_text, written, tree_words}
use Rattle.loop_print.specs.ReadBack.{HasSource, ReadsBackAs}
use Rattle.loop_print.proofs.SpelledSources.{spelled_program}
use Rattle.loop_print.proofs.Spelling.{Each, IsTokenWord, AreTokenWords, AreTokens, Within}
use Rattle.plain_data.specs.Digits.{decimal_number}

-- ---- names

letter_no_digit : (b : ℕ) → is_letter b ≡ true → is_digit b ≡ false
letter_no_digit b h = grind (arith, nat_tests)

word_no_digits : (text : List ℕ) → is_word text ≡ true → is_digits text ≡ false
word_no_digits [] h = refl
word_no_digits (b ∷ bs) h =
    let no_digit : is_digit b ≡ false =
    letter_no_digit b ((and_parts (is_letter b) (list_all is_letter_or_digit bs) h).0) in rw no_digit refl

-- ---- numbers

abbrev IsNumeral : List ℕ → Type 0
IsNumeral text = list_all is_digit text ≡ true

abbrev value_behind : ℕ → List ℕ → ℕ
value_behind n text = fold (λ value digit. value * 10 + (digit - 48)) n text

tells_numerals : IsDigitsTest IsNumeral
tells_numerals = search rules

folds_numerals : FoldsDigits value_behind
folds_numerals = record { empty = λ n. refl; more = λ n c cs h. refl }

own_numerals : IsNumeralModel IsNumeral decimal_number
own_numerals = numerals_by_fold IsNumeral tells_numerals value_behind folds_numerals

digits_of_some : (text : List ℕ) → 0 < length text → IsNumeral text → is_digits text ≡ true
digits_of_some [] some h = absurd (omega arith)
digits_of_some (b ∷ bs) some h = h

decimal_digits : (n : ℕ) → n ≤ greatest_number → is_digits (decimal n) ≡ true
decimal_digits n le =
    let lt : n < 2 ^ 64 =
    omega arith in digits_of_some (decimal n) (decimal_nonempty n lt) (digits_decimal own_numerals n lt)

decimal_value : (n : ℕ) → n ≤ greatest_number → decimal_number (decimal n) ≡ n
decimal_value n le = let lt : n < 2 ^ 64 = omega arith in digits_value-decimal own_numerals n lt

not_large : (n v : ℕ) → n ≤ greatest_number → v ≡ n → nat_lt greatest_number v ≡ false
not_large n v le e = le-ltb greatest_number v (omega (arith, e, le))

-- ---- words

abbrev IsWritable : List ℕ → Type 0
IsWritable text = (is_token text && not (is_large text)) ≡ true

name_writable : (text : List ℕ) → is_word text ≡ true → IsWritable text
name_writable text h = rw (h, word_no_digits text h) refl

number_writable : (text : List ℕ) → is_digits text ≡ true → nat_lt greatest_number (decimal_number text) ≡ false
    → IsWritable text
number_writable text d l = rw (d, l, or_right (is_word text) true refl) refl

pub writable : (w : Lexeme) → IsTokenWord w → IsWritable (lexeme_text w)
unfolding lexeme_text
writable (word.Name text) h = name_writable text h.0
writable (word.Number (pos n)) h =
    number_writable (decimal n) (decimal_digits n h) (not_large n (decimal_number (decimal n)) h (decimal_value n h))
writable (word.Number (negsuc n)) h = absurd h
writable word.Other h = absurd h
writable (word.Declare Param) h = refl
writable (word.Choice Min) h = refl
writable (word.Compare Less) h = refl
writable _ h = refl

-- what a text is to the grammar
abbrev pub lexeme_of_text : List ℕ → Lexeme
lexeme_of_text text = lexeme_of (kind_of text) text

name_read : (text : List ℕ) → is_word text ≡ true → is_reserved text ≡ false → lexeme_of_text text ≡ word.Name text
name_read text h r =
    let k : kind_of text ≡ kind.Name = rw (word_no_digits text h, h, r) refl in
    ap (λ (s : TokenKind). lexeme_of s text) k

number_read : (text : List ℕ) → is_digits text ≡ true → lexeme_of_text text ≡ word.Number (pos (decimal_number text))
number_read text d =
    let k : kind_of text ≡ kind.Number = rw d refl in
    ap (λ (s : TokenKind). lexeme_of s text) k

pub read_back : (w : Lexeme) → IsTokenWord w → lexeme_of_text (lexeme_text w) ≡ w
unfolding lexeme_text reserved_lexeme sign_lexeme comparison_lexeme bracket_lexeme
read_back (word.Name text) h = name_read text h.0 h.1
read_back (word.Number (pos n)) h =
    number_read (decimal n) (decimal_digits n h) ∙ ap (λ (m : ℕ). word.Number (pos m)) (decimal_value n h)
read_back (word.Number (negsuc n)) h = absurd h
read_back word.Other h = absurd h
read_back (word.Declare Param) h = refl
read_back (word.Choice Min) h = refl
read_back (word.Compare Less) h = refl
read_back _ h = refl

-- ---- texts of words

pub all_writable : (ws : List Lexeme) → AreTokenWords ws → are_token_texts (map lexeme_text ws) ≡ true
all_writable [] h = refl
all_writable (w ∷ ws) h = rw (writable w h.0) (all_writable ws h.1)

all_read : (ws : List Lexeme) → AreTokenWords ws → map lexeme_of_text (map lexeme_text ws) ≡ ws
all_read [] h = refl
all_read (w ∷ ws) h = λ i. read_back w h.0 i ∷ all_read ws h.1 i

lexemes_at : (bytes : List ℕ) (at : ℕ) (texts : List (List ℕ)) → map (text_of bytes) (spaced_tokens at texts) ≡ texts
    → map (lexeme_at bytes) (spaced_tokens at texts) ≡ map lexeme_of_text texts
unfolding lexeme_at
lexemes_at bytes at [] e = refl
lexemes_at bytes at (text ∷ texts) e =
    let own : text_of bytes (token_at at text) ≡ text = cc in
    let others : map (text_of bytes) (spaced_tokens (at + length text + 1) texts) ≡ texts = cc in
    λ i. lexeme_of (kind_of text) (own i) ∷ lexemes_at bytes (at + length text + 1) texts others i

-- the texts of tokens that were written with spaces
abbrev pub KeepsTexts : Type 0
KeepsTexts = (texts : List (List ℕ)) → map (text_of (spaced texts)) (spaced_tokens 0 texts) ≡ texts

-- the sentence of the text is the words, numbered from 0
sentence_is : (ws : List Lexeme) → KeepsTexts → AreTokenWords ws
    → sentence (written ws) (spaced_tokens 0 (map lexeme_text ws)) ≡ numbered_from 0 ws
unfolding sentence written
sentence_is ws texts h =
    let e = texts (map lexeme_text ws) in
    ap (numbered_from 0) (lexemes_at (written ws) 0 (map lexeme_text ws) e ∙ all_read ws h)

-- ---- the words of a source are tokens

first_or_later : (P : List ℕ → Type 0) (text x : List ℕ) (first later : Bool) → bytes_eq text x ≡ first → P x
    → (later ≡ true → P text) → (first || later) ≡ true → P text
first_or_later P text x true later e own others h = subst P (sym ((bytes_eq-Decides text x).0 e)) own
first_or_later P text x false later e own others h = others h

-- what holds of each text in a list holds of a text that is in it
listed : (P : List ℕ → Type 0) (text : List ℕ) (list : List (List ℕ)) → list_any (bytes_eq text) list ≡ true
    → Each P list → P text
listed P text [] h each = absurd cc
listed P text (x ∷ xs) h each =
    first_or_later P text x (bytes_eq text x) (list_any (bytes_eq text) xs) refl each.0
    (λ later. listed P text xs later each.1) h

reserved_word : (text : List ℕ) → is_reserved text ≡ true → IsTokenWord (reserved_lexeme text)
unfolding reserved_lexeme
reserved_word text h = listed (λ s. IsTokenWord (reserved_lexeme s)) text reserved_words h (search rules)

sign_word : (text : List ℕ) → is_sign text ≡ true → IsTokenWord (sign_lexeme text)
unfolding sign_lexeme comparison_lexeme bracket_lexeme
sign_word text h = listed (λ s. IsTokenWord (sign_lexeme s)) text signs h (search rules)

token_word : (k : TokenKind) (text : List ℕ) → IsKindOf k text → IsTokenWord (lexeme_of k text)
token_word kind.Name text h = h
token_word kind.Number text h = h.1
token_word kind.Reserved text h = reserved_word text h
token_word kind.Sign text h = sign_word text h

lexeme_word : (bytes : List ℕ) (t : Token) → IsTokenOf bytes t → IsTokenWord (lexeme_at bytes t)
unfolding lexeme_at
lexeme_word bytes t h = token_word t.kind (text_of bytes t) h.text

numbered_tokens : (bytes : List ℕ) (n : ℕ) (found : List Token) → All (IsTokenOf bytes) found
    → AreTokens (numbered_from n (map (lexeme_at bytes) found))
numbered_tokens bytes n [] h = tt
numbered_tokens bytes n (t ∷ found) h = (
  lexeme_word bytes t (All-head (IsTokenOf bytes) t found h),
  numbered_tokens bytes (n + 1) found (All-tail (IsTokenOf bytes) t found h),
)

sentence_tokens : (bytes : List ℕ) (found : List Token) → AreTokensOf bytes found → AreTokens (sentence bytes found)
unfolding sentence
sentence_tokens bytes found h = numbered_tokens bytes 0 found h.each

-- ---- the law

abbrev pub KeepsTokens : Type 0
KeepsTokens = (bytes : List ℕ) (found : List Token) → tokens bytes ≡ Ok found → AreTokensOf bytes found

abbrev pub ReadsSpaced : Type 0
ReadsSpaced =
    (texts : List (List ℕ)) → are_token_texts texts ≡ true → length texts ≤ token_limit
    → tokens (spaced texts) ≡ Ok (spaced_tokens 0 texts)

words_read : (ws : List Lexeme) → ReadsSpaced → AreTokenWords ws → length ws ≤ token_limit
    → tokens (written ws) ≡ Ok (spaced_tokens 0 (map lexeme_text ws))
unfolding written
words_read ws reads valid short =
    let e : length (map lexeme_text ws) ≡ length ws =
    length-map ws lexeme_text in reads (map lexeme_text ws) (all_writable ws valid) (omega (arith, e, short))

of_program : (p : Program) (source : List ℕ) (found : List Token) → KeepsTokens → ReadsSpaced → KeepsTexts
    → tokens source ≡ Ok found → program_text p ≡ sentence source found
    → ReadsBackAs (written (tree_words (program_tree p))) (program_tree p)
of_program p source found keeps reads texts read text =
    let ws : List Lexeme = tree_words (program_tree p) in
    let kept : AreTokensOf source found = keeps source found read in
    let again = spelled_program p 0 in
    let within : Within ws (program_text p) = again.tokens.within in
    let valid : AreTokenWords ws = within.valid (rw text (sentence_tokens source found kept)) in
    let short : length ws ≤ token_limit
    = omega (arith, within.shorter, ap length text, length-sentence source found, kept.limit) in (
      spaced_tokens 0 (map lexeme_text ws),
      program_tree again.new,
      words_read ws reads valid short,
      (again.new, again.tokens.is ∙ sym (sentence_is ws texts valid), refl),
      again.same,
    )

-- the text of a tree that has a source
pub text_is_read : (tree : Tree) (text : List ℕ) → KeepsTokens → ReadsSpaced → KeepsTexts → HasSource tree
    → text ≡ written (tree_words tree) → ReadsBackAs text tree
text_is_read tree text keeps reads texts has is =
    let d : Derives (sentence has.0 has.1) tree = has.3 in
    let p : Program = d.0 in
    let whole : ReadsBackAs (written (tree_words (program_tree p))) (program_tree p) =
    of_program p has.0 has.1 keeps reads texts has.2 d.1 in
    subst (λ (s : List ℕ). ReadsBackAs s tree) (sym is)
    (subst (λ (t : Tree). ReadsBackAs (written (tree_words t)) t) d.2 whole)
