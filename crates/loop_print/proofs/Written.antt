-- Words that are written behind words.
--
-- `Writes` says that what was written is what was there and then the words; it is joined by writing one behind the
-- other (`behind`). Along a list this is the invariant of the loop that writes it: after so many items, their words are
-- written (`WritesFirst`).
use Rattle.std.proofs.Common.{◌≡◌, ℕ, ◌+◌, ◌<◌, List, [], ◌∷◌, ◌++◌, map, length, take, get_or, refl, sym, ap}
use Rattle.std.proofs.Common.{◌∙◌, append_assoc, subst}
use Rattle.std.proofs.Math.Seq.{take-length}
use Rattle.std.specs.List.{flat_map}
use Rattle.std.proofs.lemmas.Grind.{flat_map-append}
use Rattle.std.proofs.lemmas.List.{take_more, append-nil}
use Rattle.loop_lex.specs.Spaced.{spaced}
use Rattle.loop_grammar.specs.declared.lexeme.Lexeme.{Lexeme}
use Rattle.loop_grammar.specs.declared.tree.Operand.{Operand}
use Rattle.loop_print.specs.Printing.{lexeme_text, written, Writes, joined, behind_sign, Phrase, phrase_of, expr_words}

written_append : (a b : List Lexeme) → written (a ++ b) ≡ written a ++ written b
unfolding written
written_append [] b = refl
written_append (w ∷ a) b =
    ap (λ (rest : List ℕ). lexeme_text w ++ 32 ∷ rest) (written_append a b)
    ∙ sym (append_assoc (lexeme_text w) (32 ∷ spaced (map lexeme_text a)) (spaced (map lexeme_text b)))

pub behind : {old middle new : List ℕ} {a b : List Lexeme} → Writes old middle a → Writes middle new b
    → Writes old new (a ++ b)
behind {old} {middle} {new} {a} {b} first second = record {
  is = second.is ∙ ap (λ (o : List ℕ). o ++ written b) first.is ∙ append_assoc old (written a) (written b)
      ∙ ap (λ (o : List ℕ). old ++ o) (sym (written_append a b));
}

pub nothing : (o : List ℕ) → Writes o o []
unfolding written
nothing o = record { is = sym (append-nil o) }

-- what was written of an operand, by the phrase that it is
pub as_phrase : (o : Operand) {p : Phrase} {old new : List ℕ} → phrase_of o ≡ p → Writes old new p.words
    → Writes old new (expr_words o)
as_phrase o {p} {old} {new} is h = subst (λ (q : Phrase). Writes old new q.words) (sym is) h

-- ---- lists

-- the words of a list's first items were written
pub record WritesFirst {A : Type 0} (words : A → List Lexeme) (xs : List A) (i : ℕ) (old new : List ℕ) : Type 0 where
  pub is : Writes old new (flat_map words (take i xs))

pub none_written : {A : Type 0} {words : A → List Lexeme} {xs : List A} (o : List ℕ) → WritesFirst words xs 0 o o
none_written o = record { is = nothing o }

pub more_written : {A : Type 0} {words : A → List Lexeme} {xs : List A} {i : ℕ} {x : A} {old middle new : List ℕ}
    → WritesFirst words xs i old middle → i < length xs → x ≡ get_or xs i x → Writes middle new (words x)
    → WritesFirst words xs (i + 1) old new
more_written {words = words} {xs = xs} {i = i} {x = x} before lt is turn =
    record { is = rw (take_more xs i x lt, ← is, flat_map-append, append-nil (words x)) (behind before.is turn) }

pub all_written : {A : Type 0} {words : A → List Lexeme} {xs : List A} {i : ℕ} {old new : List ℕ}
    → WritesFirst words xs i old new → i ≡ length xs → Writes old new (flat_map words xs)
all_written {xs = xs} h end = rw (end, take-length) at h.is

pub joined_written : {A : Type 0} (sign : Lexeme) (words : A → List Lexeme) {list : List A} {x : A} {xs : List A}
    {i : ℕ} {old middle new : List ℕ} → list ≡ x ∷ xs → Writes old middle (words x)
    → WritesFirst (behind_sign sign words) xs i middle new → i ≡ length xs → Writes old new (joined sign words list)
joined_written sign words is first rest end = rw is (behind first (all_written rest end))
