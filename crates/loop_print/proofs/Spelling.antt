-- Words that stand again for what tokens stood for.
--
-- `Respelled` is what is shown of each thing that derives: its tree's words, numbered from any number on, are the tokens
-- of a thing that derives again, with the same tree but for token numbers; and they are no more than the tokens that
-- the first had, and stand for tokens where those do (`Within`). The words come one by one from those tokens, some of
-- which are left out (`skip`), so both are kept where words are put together (`first`, `both`). Nothing is shown of
-- words that don't come from a derivation.
use Rattle.std.proofs.Common.{◌≡◌, ℕ, suc, ◌+◌, ◌<◌, ◌≤◌, pos, negsuc, true, false, List, [], ◌∷◌, ◌++◌, length, refl}
use Rattle.std.proofs.Common.{sym, ap, ◌∙◌, append_assoc, arith, length-append}
use Rattle.std.specs.List.{flat_map}
use Rattle.std.proofs.lemmas.Grind.{flat_map-append}
use Rattle.std.proofs.lemmas.List.{append-nil}
use Rattle.loop_lex.specs.Lexical.{is_word, is_reserved, greatest_number}
use Rattle.loop_grammar.specs.declared.lexeme.Lexeme.{Lexeme}
use Rattle.loop_grammar.specs.declared.lexeme.Lexeme.TheVariants as word
use Rattle.loop_grammar.specs.Grammar.{Tok}
use Rattle.loop_grammar.specs.Lexemes.{numbered_from}
use Rattle.loop_print.specs.Printing.{in_parentheses, joined, behind_sign}

-- ---- words that stand for tokens

-- a name is no reserved word, a number is within the greatest, and no token is `Other`
abbrev pub IsTokenWord : Lexeme → Type 0
IsTokenWord (word.Name text) = (is_word text ≡ true) × (is_reserved text ≡ false)
IsTokenWord (word.Number (pos n)) = n ≤ greatest_number
IsTokenWord (word.Number (negsuc n)) = ⊥
IsTokenWord word.Other = ⊥
IsTokenWord _ = Unit {0}

abbrev pub Each : {A : Type 0} → (A → Type 0) → List A → Type 0
Each P [] = Unit {0}
Each P (x ∷ xs) = P x × Each P xs

abbrev pub AreTokenWords : List Lexeme → Type 0
AreTokenWords = Each IsTokenWord

abbrev pub AreTokens : List Tok → Type 0
AreTokens = Each (λ t. IsTokenWord t.0)

each_append : {A : Type 0} (P : A → Type 0) (a b : List A) → Each P a → Each P b → Each P (a ++ b)
each_append P [] b ha hb = hb
each_append P (x ∷ a) b ha hb = (ha.0, each_append P a b ha.1 hb)

each_split : {A : Type 0} (P : A → Type 0) (a b : List A) → Each P (a ++ b) → Each P a × Each P b
each_split P [] b h = (tt, h)
each_split P (x ∷ a) b h = let parts = each_split P a b h.1 in ((h.0, parts.0), parts.1)

-- no more words than tokens, and tokens where those are
pub record Within (words : List Lexeme) (old : List Tok) : Type 0 where
  pub shorter : length words ≤ length old
  pub valid : AreTokens old → AreTokenWords words

pub skip : {t : Tok} {a : List Lexeme} {us : List Tok} → Within a us → Within a (t ∷ us)
skip {t} {a} {us} h = record { shorter = omega arith; valid = λ v. h.valid v.1 }

pub only_left : {a : List Lexeme} {us : List Tok} (vs : List Tok) → Within a us → Within a (us ++ vs)
only_left {a} {us} vs h = record {
  shorter = omega (arith, length-append us vs);
  valid = λ v. h.valid (each_split (λ t. IsTokenWord t.0) us vs v).0;
}

pub no_parentheses : {a : List Lexeme} {us : List Tok} → Within (in_parentheses a) us → Within a us
no_parentheses {a} {us} h = record {
  shorter = omega (arith, length-append a (word.Close ∷ []));
  valid = λ v. (each_split IsTokenWord a (word.Close ∷ []) (h.valid v).1).0;
}

-- ---- words and their tokens, old and new

pub record Spells (n : ℕ) (words : List Lexeme) (new old : List Tok) : Type 0 where
  pub is : new ≡ numbered_from n words
  pub within : Within words old

pub none : {n : ℕ} → Spells n [] [] []
none {n} = record { is = refl; within = record { shorter = omega arith; valid = λ v. tt } }

pub first : {n : ℕ} {w : Lexeme} {p : ℕ} {a : List Lexeme} {ts us : List Tok} → Spells (n + 1) a ts us
    → Spells n (w ∷ a) ((w, n) ∷ ts) ((w, p) ∷ us)
first {n} {w} {p} {a} {ts} {us} h = record {
  is = ap (λ (l : List Tok). (w, n) ∷ l) h.is;
  within = record { shorter = omega arith; valid = λ v. (v.0, h.within.valid v.1) };
}

pub last : {n : ℕ} {w : Lexeme} {p : ℕ} → Spells n (w ∷ []) ((w, n) ∷ []) ((w, p) ∷ [])
last {n} {w} {p} = first none

numbered_append : (n : ℕ) (a b : List Lexeme)
    → numbered_from n (a ++ b) ≡ numbered_from n a ++ numbered_from (n + length a) b
numbered_append n [] b = let e : n ≡ n + 0 = omega arith in ap (λ (k : ℕ). numbered_from k b) e
numbered_append n (w ∷ a) b =
    let e : n + 1 + length a ≡ n + suc (length a) = omega arith in
    ap (λ (ts : List Tok). (w, n) ∷ ts)
    (numbered_append (n + 1) a b ∙ ap (λ (k : ℕ). numbered_from (n + 1) a ++ numbered_from k b) e)

pub both : {n : ℕ} {a b : List Lexeme} {ts ts' us us' : List Tok} → Spells n a ts us
    → Spells (n + length a) b ts' us' → Spells n (a ++ b) (ts ++ ts') (us ++ us')
both {n} {a} {b} {ts} {ts'} {us} {us'} x y = record {
  is = (λ i. x.is i ++ y.is i) ∙ sym (numbered_append n a b);
  within = record {
    shorter = omega (arith, length-append a b, length-append us us');
    valid = λ v. let parts = each_split (λ t. IsTokenWord t.0) us us' v
        in each_append IsTokenWord a b (x.within.valid parts.0) (y.within.valid parts.1);
  };
}

-- ---- lists of words

pub flat_more : {A : Type 0} (words : A → List Lexeme) (xs : List A) (y : A)
    → flat_map words (xs ++ y ∷ []) ≡ flat_map words xs ++ words y
flat_more words xs y =
    flat_map-append words xs (y ∷ []) ∙ ap (λ (ws : List Lexeme). flat_map words xs ++ ws) (append-nil (words y))

pub joined_more : {A : Type 0} (sign : Lexeme) (words : A → List Lexeme) (xs : List A) (y : A) → 0 < length xs
    → joined sign words (xs ++ y ∷ []) ≡ joined sign words xs ++ sign ∷ words y
joined_more sign words [] y some = absurd (omega arith)
joined_more sign words (x ∷ xs) y some =
    ap (λ (ws : List Lexeme). words x ++ ws) (flat_more (behind_sign sign words) xs y)
    ∙ sym (append_assoc (words x) (flat_map (behind_sign sign words) xs) (sign ∷ words y))

-- ---- what derives again

-- what derives from these words, numbered from n, which come from tokens; and its tree
pub record Again {A B : Type 0} (text : A → List Tok) (tree : A → B) (n : ℕ) (words : List Lexeme) (b : B)
    (old : List Tok) : Type 0 where
  pub new : A
  pub tokens : Spells n words (text new) old
  pub same : tree new ≡ b

-- the words of its tree derive again, and the tree is the same where it is bare of token numbers
abbrev pub Respelled : {A B : Type 0} → (A → List Tok) → (A → B) → (B → B) → (B → List Lexeme) → A → Type 0
Respelled text tree bare words x =
    (n : ℕ) → Again text (λ y. bare (tree y)) n (words (tree x)) (bare (tree x)) (text x)
