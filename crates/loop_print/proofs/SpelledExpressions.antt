-- The words of an operand derive again.
--
-- By induction on the derivation that the operand came from, its words derive again as a sum, a product or a factor,
-- whichever it binds like (`again` in `Spelled`); and the words at the derivation's place, in parentheses where that
-- asks for them, come from its tokens (`within`). At a place of another rank they derive as that, as they are or in
-- parentheses, which make a factor of them (`as_placed`). Parentheses of the source aren't kept: they are left out
-- where an operand binds as tightly, and else the derivation had them (`in_round`). A `min` or `max` of one argument is
-- that argument already in the tree.
use Rattle.std.proofs.Common.{◌≡◌, ℕ, ◌+◌, ◌<◌, List, [], ◌∷◌, ◌++◌, map, length, refl, ap, ◌∙◌, arith, length-append}
use Rattle.std.proofs.lemmas.List.{append-nil, length-map, map-append}
use Rattle.loop_grammar.specs.declared.lexeme.Lexeme.{Lexeme}
use Rattle.loop_grammar.specs.declared.lexeme.Lexeme.TheVariants as word
use Rattle.loop_grammar.specs.declared.lexeme.Choice.{Choice}
use Rattle.loop_grammar.specs.declared.lexeme.Choice.TheVariants.{Min as ChoiceMin, Max as ChoiceMax}
use Rattle.loop_print.specs.declared.printer.Rank.{Rank}
use Rattle.loop_print.specs.declared.printer.Rank.TheVariants as rank
use Rattle.loop_grammar.specs.declared.tree.BinarySign.{BinarySign}
use Rattle.loop_grammar.specs.declared.tree.BinarySign.TheVariants.{Add, Sub, Mul}
use Rattle.loop_grammar.specs.declared.tree.Named.{Named}
use Rattle.loop_grammar.specs.declared.tree.Operand.{Operand}
use Rattle.loop_grammar.specs.declared.tree.Operand as operand
use Rattle.loop_grammar.specs.Grammar.{Tok, SumSign, plus, minus, Expr, Term, Factor, Access, Exprs, term, sum, factor}
use Rattle.loop_grammar.specs.Grammar.{product, negation, number, parentheses, access, choice, name, subscript, one}
use Rattle.loop_grammar.specs.Grammar.{also, sum_word, binary_sign, chosen, expr_text, term_text, factor_text}
use Rattle.loop_grammar.specs.Grammar.{access_text, exprs_text, expr_tree, term_tree, factor_tree, expr_trees, array}
use Rattle.loop_print.specs.Printing.{Phrase, placed, phrase_at, in_parentheses, joined, phrase_of, expr_words}
use Rattle.loop_print.specs.Printing.{binary_word, binary_rank, right_rank, named_words}
use Rattle.loop_print.specs.Numbers.{unnumbered_operand, unnumbered_named}
use Rattle.loop_print.proofs.Phrases.{choice_of, phrase_number, phrase_access, phrase_binary, phrase_neg, phrase_choice}
use Rattle.loop_print.proofs.Phrases.{unnumbered_number, unnumbered_access, unnumbered_binary, unnumbered_neg}
use Rattle.loop_print.proofs.Phrases.{unnumbered_choice}
use Rattle.loop_print.proofs.Spelling.{Within, skip, only_left, no_parentheses, Spells, first, last, both, flat_more}
use Rattle.loop_print.proofs.Spelling.{joined_more, Again, Respelled}

-- ---- ranks

-- what derives an operand that binds so
abbrev Derivation : Rank → Type 0
Derivation rank.Sum = Expr
Derivation rank.Product = Term
Derivation rank.Factor = Factor

abbrev text_at : (r : Rank) → Derivation r → List Tok
text_at rank.Sum = expr_text
text_at rank.Product = term_text
text_at rank.Factor = factor_text

abbrev tree_at : (r : Rank) → Derivation r → Operand
tree_at rank.Sum = expr_tree
tree_at rank.Product = term_tree
tree_at rank.Factor = factor_tree

-- such a derivation of words, of an operand whose token numbers are 0
abbrev As : Rank → ℕ → List Lexeme → Operand → List Tok → Type 0
As r n words t old = Again (text_at r) (λ d. unnumbered_operand (tree_at r d)) n words t old

as_term : {n : ℕ} {ws : List Lexeme} {t : Operand} {old : List Tok} → As rank.Factor n ws t old
    → As rank.Product n ws t old
as_term a = record { new = factor a.new; tokens = a.tokens; same = a.same }

as_expr : {n : ℕ} {ws : List Lexeme} {t : Operand} {old : List Tok} → As rank.Product n ws t old
    → As rank.Sum n ws t old
as_expr a = record { new = term a.new; tokens = a.tokens; same = a.same }

in_brackets : (p q : ℕ) {n : ℕ} {ws : List Lexeme} {new old : List Tok} → Spells (n + 1) ws new old
    → Spells n (in_parentheses ws) ((word.Open, n) ∷ (new ++ (word.Close, n + 1 + length ws) ∷ []))
    ((word.Open, p) ∷ (old ++ (word.Close, q) ∷ []))
in_brackets p q h = first (both h last)

as_factor : {n : ℕ} {ws : List Lexeme} {t : Operand} {old : List Tok} → As rank.Sum (n + 1) ws t old
    → Within (in_parentheses ws) old → As rank.Factor n (in_parentheses ws) t old
as_factor {n} {ws} a within = record {
  new = parentheses n a.new (n + 1 + length ws);
  tokens = record { is = (in_brackets 0 0 a.tokens).is; within = within };
  same = a.same;
}

derived_at : (place own : Rank) {ws : List Lexeme} {t : Operand} {old : List Tok} → ((n : ℕ) → As own n ws t old)
    → Within (placed place own ws) old → (n : ℕ) → As place n (placed place own ws) t old
derived_at rank.Sum rank.Sum h within n = h n
derived_at rank.Sum rank.Product h within n = as_expr (h n)
derived_at rank.Sum rank.Factor h within n = as_expr (as_term (h n))
derived_at rank.Product rank.Sum h within n = as_term (as_factor (h (n + 1)) within)
derived_at rank.Product rank.Product h within n = h n
derived_at rank.Product rank.Factor h within n = as_term (h n)
derived_at rank.Factor rank.Sum h within n = as_factor (h (n + 1)) within
derived_at rank.Factor rank.Product h within n = as_factor (as_expr (h (n + 1))) within
derived_at rank.Factor rank.Factor h within n = h n

-- ---- phrases

-- words that derive as what they bind like, and come at this place from these tokens
record Spelled (place : Rank) (p : Phrase) (t : Operand) (old : List Tok) : Type 0 where
  again : (n : ℕ) → As p.rank n p.words t old
  within : Within (phrase_at place p) old

abbrev IsSpelled : Rank → Operand → List Tok → Type 0
IsSpelled place t old = Spelled place (phrase_of t) (unnumbered_operand t) old

as_placed : {place : Rank} {p : Phrase} {t : Operand} {old : List Tok} → Spelled place p t old → (n : ℕ)
    → As place n (phrase_at place p) t old
as_placed {place} {p} h = derived_at place p.rank h.again h.within

own : (r : Rank) {ws : List Lexeme} {t : Operand} {old : List Tok} → ((n : ℕ) → As r n ws t old)
    → Spelled r (record { rank = r; words = ws }) t old
own rank.Sum h = record { again = h; within = (h 0).tokens.within }
own rank.Product h = record { again = h; within = (h 0).tokens.within }
own rank.Factor h = record { again = h; within = (h 0).tokens.within }

from_more : {place : Rank} {p : Phrase} {t : Operand} {old older : List Tok}
    → ((ws : List Lexeme) → Within ws old → Within ws older) → Spelled place p t old → Spelled place p t older
from_more {place} {p} more h = record {
  again = λ n. record {
    new = (h.again n).new;
    tokens = record { is = (h.again n).tokens.is; within = more p.words (h.again n).tokens.within };
    same = (h.again n).same;
  };
  within = more (phrase_at place p) h.within;
}

no_product : (r : Rank) {ws : List Lexeme} {old : List Tok} → Within (placed rank.Product r ws) old → Within ws old
no_product rank.Sum h = no_parentheses h
no_product rank.Product h = h
no_product rank.Factor h = h

no_factor : (r : Rank) (ws : List Lexeme) {old : List Tok} → Within (placed rank.Factor r ws) old
    → Within (placed rank.Product r ws) old
no_factor rank.Sum ws h = h
no_factor rank.Product ws h = no_parentheses h
no_factor rank.Factor ws h = h

in_round : (r : Rank) (p q : ℕ) {ws : List Lexeme} {new old : List Tok} → Spells 1 ws new old
    → Within (placed rank.Factor r ws) ((word.Open, p) ∷ (old ++ (word.Close, q) ∷ []))
in_round rank.Sum p q h = (in_brackets p q {n = 0} h).within
in_round rank.Product p q h = (in_brackets p q {n = 0} h).within
in_round rank.Factor p q h = skip (only_left ((word.Close, q) ∷ []) h.within)

bracketed : (q r : ℕ) {p : Phrase} {t : Operand} {old : List Tok} → Spelled rank.Sum p t old
    → Spelled rank.Factor p t ((word.Open, q) ∷ (old ++ (word.Close, r) ∷ []))
bracketed q r {p} {t} {old} h = record {
  again = (from_more (λ ws within. skip (only_left ((word.Close, r) ∷ []) within)) h).again;
  within = in_round p.rank q r (h.again 1).tokens;
}

-- ---- operands of each kind

binary_again : (sign : BinarySign) (m : ℕ) {n : ℕ} {a b : List Lexeme} {l r : Operand} {ts us : List Tok}
    → As (binary_rank sign) n a l ts → As (right_rank sign) (n + length a + 1) b r us
    → As (binary_rank sign) n (a ++ binary_word sign ∷ b) (operand.Binary sign 0 l r)
    (ts ++ (binary_word sign, m) ∷ us)
binary_again Add m {n = n} {a = a} x y = record {
  new = sum x.new plus (n + length a) y.new;
  tokens = both x.tokens (first y.tokens);
  same = rw unnumbered_binary (λ i. operand.Binary Add 0 (x.same i) (y.same i));
}
binary_again Sub m {n = n} {a = a} x y = record {
  new = sum x.new minus (n + length a) y.new;
  tokens = both x.tokens (first y.tokens);
  same = rw unnumbered_binary (λ i. operand.Binary Sub 0 (x.same i) (y.same i));
}
binary_again Mul m {n = n} {a = a} x y = record {
  new = product x.new (n + length a) y.new;
  tokens = both x.tokens (first y.tokens);
  same = rw unnumbered_binary (λ i. operand.Binary Mul 0 (x.same i) (y.same i));
}

binary_spelled : (sign : BinarySign) (m p : ℕ) (l r : Operand) {ts us : List Tok} → IsSpelled (binary_rank sign) l ts
    → IsSpelled (right_rank sign) r us
    → IsSpelled (binary_rank sign) (operand.Binary sign p l r) (ts ++ (binary_word sign, m) ∷ us)
binary_spelled sign m p l r x y =
    rw (phrase_binary, unnumbered_binary) (own (binary_rank sign) (λ n.
    binary_again sign m (as_placed x n) (as_placed y (n + length (phrase_at (binary_rank sign) (phrase_of l)) + 1))))

sum_spelled : (s : SumSign) (p : ℕ) (l r : Operand) {ts us : List Tok} → IsSpelled rank.Sum l ts
    → IsSpelled rank.Product r us
    → IsSpelled rank.Sum (operand.Binary (binary_sign s) p l r) (ts ++ (sum_word s, p) ∷ us)
sum_spelled plus p l r x y = binary_spelled Add p p l r x y
sum_spelled minus p l r x y = binary_spelled Sub p p l r x y

chosen_several : (c : Choice) (p : ℕ) (xs : List Operand) → 1 < length xs → chosen c p xs ≡ choice_of c p xs
chosen_several c p [] some = absurd (omega arith)
chosen_several c p (x ∷ []) some = absurd (omega arith)
chosen_several ChoiceMin p (x ∷ y ∷ xs) some = refl
chosen_several ChoiceMax p (x ∷ y ∷ xs) some = refl

exprs_some : (es : Exprs) → 0 < length (expr_trees es)
exprs_some (one e) = omega arith
exprs_some (also es p e) = omega (arith, length-append (expr_trees es) (expr_tree e ∷ []))

-- arguments of `min` or `max`
abbrev Arguments : Exprs → Type 0
Arguments = Respelled exprs_text expr_trees (map unnumbered_operand) (joined word.Comma expr_words)

choice_spelled : (c : Choice) (p q r : ℕ) (es : Exprs) → 1 < length (expr_trees es) → Arguments es
    → IsSpelled rank.Factor (chosen c p (expr_trees es))
    ((word.Choice c, p) ∷ (word.Open, q) ∷ (exprs_text es ++ (word.Close, r) ∷ []))
choice_spelled c p q r es several h =
    rw (chosen_several c p (expr_trees es) several, phrase_choice, unnumbered_choice) (own rank.Factor (λ n.
    let x = h (n + 1 + 1) in
    let counts : length (expr_trees x.new) ≡ length (expr_trees es) = simp length-map at (ap length x.same) in
    let close : ℕ = n + 1 + 1 + length (joined word.Comma expr_words (expr_trees es)) in record {
      new = choice c n (n + 1) x.new close;
      tokens = first (first (both x.tokens last));
      same = ap unnumbered_operand (chosen_several c n (expr_trees x.new) (omega arith))
          ∙ unnumbered_choice c n (expr_trees x.new) ∙ ap (choice_of c 0) x.same;
    }))

more_arguments : (es : Exprs) (p : ℕ) (e : Expr) → Arguments es → IsSpelled rank.Sum (expr_tree e) (expr_text e)
    → Arguments (also es p e)
more_arguments es p e h x n =
    let m : ℕ = n + length (joined word.Comma expr_words (expr_trees es)) in
    let xs = h n in
    let y = as_placed x (m + 1) in record {
      new = also xs.new m y.new;
      tokens =
          rw (joined_more word.Comma expr_words (expr_trees es) (expr_tree e) (exprs_some es))
          (both xs.tokens (first y.tokens));
      same = simp (map-append, xs.same, y.same);
    }

more_subscripts : (a : Access) (p : ℕ) (e : Expr) (q : ℕ) → Respelled access_text array unnumbered_named named_words a
    → IsSpelled rank.Sum (expr_tree e) (expr_text e)
    → Respelled access_text array unnumbered_named named_words (subscript a p e q)
more_subscripts a p e q h x n =
    let m : ℕ = n + length (named_words (array a)) in
    let xs = h n in
    let y = as_placed x (m + 1) in record {
      new = subscript xs.new m y.new (m + 1 + length (expr_words (expr_tree e)));
      tokens = rw flat_more (both xs.tokens (first (both y.tokens last)));
      same =
          simp map-append (λ i. record { name = (xs.same i).name; extents = (xs.same i).extents ++ y.same i ∷ [] });
    }

mutual
  spelled_expr : (e : Expr) → IsSpelled rank.Sum (expr_tree e) (expr_text e)
  spelled_expr (term t) =
      let h = spelled_term t in
      record { again = h.again; within = no_product (phrase_of (term_tree t)).rank h.within }
  spelled_expr (sum e s p t) = sum_spelled s p (expr_tree e) (term_tree t) (spelled_expr e) (spelled_term t)

  spelled_term : (t : Term) → IsSpelled rank.Product (term_tree t) (term_text t)
  spelled_term (factor f) =
      let h = spelled_factor f in
      record { again = h.again; within = no_factor (phrase_of (factor_tree f)).rank (expr_words (factor_tree f)) h.within }
  spelled_term (product t p f) =
      binary_spelled Mul p p (term_tree t) (factor_tree f) (spelled_term t) (spelled_factor f)

  spelled_factor : (f : Factor) → IsSpelled rank.Factor (factor_tree f) (factor_text f)
  spelled_factor (negation p f) =
      let h = spelled_factor f in
      rw (phrase_neg, unnumbered_neg) (own rank.Factor (λ n. let x = as_placed h (n + 1) in record {
        new = negation n x.new;
        tokens = first x.tokens;
        same = unnumbered_neg n (factor_tree x.new) ∙ ap (operand.Neg 0) x.same;
      }))
  spelled_factor (number v p) =
      rw (phrase_number, unnumbered_number) (own rank.Factor (λ n. record {
        new = number v n;
        tokens = last;
        same = unnumbered_number v n;
      }))
  spelled_factor (parentheses p e q) = bracketed p q (spelled_expr e)
  spelled_factor (access a) =
      let h = spelled_access a in
      rw (phrase_access, unnumbered_access) (own rank.Factor (λ n. let x = h n in record {
        new = access x.new;
        tokens = x.tokens;
        same = rw unnumbered_access (ap (λ (m : Named). operand.Access m.name m.extents) x.same);
      }))
  spelled_factor (choice c p q (one e) r) = from_more (λ ws. skip) (bracketed q r (spelled_expr e))
  spelled_factor (choice c p q (also es s e) r) =
      let count : 1 < length (expr_trees es ++ expr_tree e ∷ [])
      = omega (arith, exprs_some es, length-append (expr_trees es) (expr_tree e ∷ [])) in
      choice_spelled c p q r (also es s e) count (more_arguments es s e (spelled_exprs es) (spelled_expr e))

  pub spelled_access : (a : Access) → Respelled access_text array unnumbered_named named_words a
  spelled_access (name x) n =
      record { new = name (record { text = x.text; token = n }); tokens = last; same = refl }
  spelled_access (subscript a p e q) n = more_subscripts a p e q (spelled_access a) (spelled_expr e) n

  spelled_exprs : (es : Exprs) → Arguments es
  spelled_exprs (one e) n = let x = as_placed (spelled_expr e) n in record {
    new = one x.new;
    tokens = rw append-nil x.tokens;
    same = ap (λ (t : Operand). t ∷ []) x.same;
  }
  spelled_exprs (also es p e) n = more_arguments es p e (spelled_exprs es) (spelled_expr e) n

pub again_expr : (e : Expr) → Respelled expr_text expr_tree unnumbered_operand expr_words e
again_expr e = as_placed (spelled_expr e)
