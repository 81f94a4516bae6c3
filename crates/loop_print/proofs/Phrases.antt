-- How operands and parts are written, and what they are without token numbers, by their kind.
--
-- The words of an operand and of a part, and both without token numbers, are defined as folds over their layers; here
-- each is unfolded once for each kind (`by_kind`), so that it is told by those of the operands and parts below. How an
-- operand binds is a part of its phrase, so whether it needs parentheses is seen at the place where it stands.
use Rattle.std.proofs.Common.{◌≡◌, ℕ, ℤ, Bool, Option, Some, None, List, [], ◌∷◌, ◌++◌, map, refl, ap}
use Rattle.std.proofs.lemmas.List.{append-nil}
use Rattle.std.proofs.lemmas.List.Folds.{flat_map-map}
use Rattle.loop_grammar.specs.declared.lexeme.Lexeme.{Lexeme}
use Rattle.loop_grammar.specs.declared.lexeme.Lexeme.TheVariants as word
use Rattle.loop_grammar.specs.declared.lexeme.Choice.{Choice}
use Rattle.loop_grammar.specs.declared.lexeme.Choice.TheVariants.{Min as ChoiceMin, Max as ChoiceMax}
use Rattle.loop_print.specs.declared.printer.Rank.TheVariants as rank
use Rattle.loop_grammar.specs.declared.tree.BinarySign.{BinarySign}
use Rattle.loop_grammar.specs.declared.tree.Comparison.{Comparison}
use Rattle.loop_grammar.specs.declared.tree.Name.{Name}
use Rattle.loop_grammar.specs.declared.tree.Other.{Other}
use Rattle.loop_grammar.specs.declared.tree.Operand.{Operand}
use Rattle.loop_grammar.specs.declared.tree.Operand.TheOpen as layer
use Rattle.loop_grammar.specs.declared.tree.Operand.TheVariants.{Number, Access, Binary, Neg, Min, Max, rolls-Number}
use Rattle.loop_grammar.specs.declared.tree.Operand.TheVariants.{rolls-Access, rolls-Binary, rolls-Neg, rolls-Min}
use Rattle.loop_grammar.specs.declared.tree.Operand.TheVariants.{rolls-Max}
use Rattle.loop_grammar.specs.declared.tree.Operand.TheFolds.{fold-roll-Operand}
use Rattle.loop_grammar.specs.declared.tree.Step.{Step}
use Rattle.loop_grammar.specs.declared.tree.Part.{Part}
use Rattle.loop_grammar.specs.declared.tree.Part.TheVariants.{For, If, Assign, Block, rolls-For, rolls-If, rolls-Assign}
use Rattle.loop_grammar.specs.declared.tree.Part.TheVariants.{rolls-Block}
use Rattle.loop_grammar.specs.declared.tree.Part.TheFolds.{fold-roll-Part, fold_out-Other}
use Rattle.loop_print.specs.Printing.{Phrase, phrase_words, behind_sign, joined, phrase_step, phrase_of, expr_words}
use Rattle.loop_print.specs.Printing.{access_words, choice_words, header_words, guard_words, in_braces, assign_words}
use Rattle.loop_print.specs.Printing.{part_words, other_words, parts_words}
use Rattle.loop_print.specs.Numbers.{unnumbered_name, unnumbered_operand, unnumbered_comparison, unnumbered_step}
use Rattle.loop_print.specs.Numbers.{unnumbered_part}

-- a fold at each kind
ruleset by_kind = (
  ← rolls-Number,
  ← rolls-Access,
  ← rolls-Binary,
  ← rolls-Neg,
  ← rolls-Min,
  ← rolls-Max,
  ← rolls-For,
  ← rolls-If,
  ← rolls-Assign,
  ← rolls-Block,
  fold-roll-Operand,
  fold-roll-Part,
  fold_out-Other,
)

-- ---- operands

pub phrase_number : (value : ℤ) (token : ℕ) → phrase_of (Number value token) ≡ phrase_step (layer.Number value token)
unfolding phrase_of
phrase_number value token = simp by_kind

-- a phrase that binds like a factor
abbrev pub factor_phrase : List Lexeme → Phrase
factor_phrase words = record { rank = rank.Factor; words = words }

pub phrase_access : (name : Name) (subscripts : List Operand)
    → phrase_of (Access name subscripts) ≡ factor_phrase (access_words name subscripts)
unfolding phrase_of
phrase_access name subscripts = simp (by_kind, flat_map-map)

pub phrase_binary : (sign : BinarySign) (token : ℕ) (left right : Operand)
    → phrase_of (Binary sign token left right)
    ≡ phrase_step (layer.Binary sign token (phrase_of left) (phrase_of right))
unfolding phrase_of
phrase_binary sign token left right = simp by_kind

pub phrase_neg : (token : ℕ) (inner : Operand)
    → phrase_of (Neg token inner) ≡ phrase_step (layer.Neg token (phrase_of inner))
unfolding phrase_of
phrase_neg token inner = simp by_kind

joined_phrases : (list : List Operand)
    → joined word.Comma phrase_words (map phrase_of list) ≡ joined word.Comma expr_words list
joined_phrases [] = refl
joined_phrases (x ∷ xs) =
    ap (λ (rest : List Lexeme). expr_words x ++ rest) (flat_map-map (behind_sign word.Comma phrase_words) phrase_of xs)

pub phrase_min : (token : ℕ) (list : List Operand)
    → phrase_of (Min token list) ≡ factor_phrase (choice_words ChoiceMin list)
unfolding phrase_of
phrase_min token list = simp (by_kind, joined_phrases)

pub phrase_max : (token : ℕ) (list : List Operand)
    → phrase_of (Max token list) ≡ factor_phrase (choice_words ChoiceMax list)
unfolding phrase_of
phrase_max token list = simp (by_kind, joined_phrases)

-- `min` or `max` of several arguments
abbrev pub choice_of : Choice → ℕ → List Operand → Operand
choice_of ChoiceMin token list = Min token list
choice_of ChoiceMax token list = Max token list

pub phrase_choice : (c : Choice) (token : ℕ) (list : List Operand)
    → phrase_of (choice_of c token list) ≡ factor_phrase (choice_words c list)
phrase_choice ChoiceMin token list = phrase_min token list
phrase_choice ChoiceMax token list = phrase_max token list

-- ---- operands without token numbers

pub unnumbered_number : (value : ℤ) (token : ℕ) → unnumbered_operand (Number value token) ≡ Number value 0
unfolding unnumbered_operand
unnumbered_number value token = simp by_kind

pub unnumbered_access : (name : Name) (subscripts : List Operand)
    → unnumbered_operand (Access name subscripts) ≡ Access (unnumbered_name name) (map unnumbered_operand subscripts)
unfolding unnumbered_operand
unnumbered_access name subscripts = simp by_kind

pub unnumbered_binary : (sign : BinarySign) (token : ℕ) (left right : Operand)
    → unnumbered_operand (Binary sign token left right)
    ≡ Binary sign 0 (unnumbered_operand left) (unnumbered_operand right)
unfolding unnumbered_operand
unnumbered_binary sign token left right = simp by_kind

pub unnumbered_neg : (token : ℕ) (inner : Operand)
    → unnumbered_operand (Neg token inner) ≡ Neg 0 (unnumbered_operand inner)
unfolding unnumbered_operand
unnumbered_neg token inner = simp by_kind

pub unnumbered_choice : (c : Choice) (token : ℕ) (list : List Operand)
    → unnumbered_operand (choice_of c token list) ≡ choice_of c 0 (map unnumbered_operand list)
unfolding unnumbered_operand
unnumbered_choice ChoiceMin token list = simp by_kind
unnumbered_choice ChoiceMax token list = simp by_kind

-- ---- parts

pub words_for : (name : Name) (first : Operand) (second : Name) (inclusive : Bool) (bound : Operand) (third : Name)
    (step : Step) (body : Part)
    → part_words (For name first second inclusive bound third step body)
    ≡ header_words name first second inclusive bound third step ++ part_words body
unfolding part_words
words_for name first second inclusive bound third step body = simp by_kind

pub words_if : (cond : List Comparison) (body : Part) (other : Option Other)
    → part_words (If cond body other) ≡ guard_words cond ++ (part_words body ++ other_words other)
unfolding part_words
words_if cond body None = simp (by_kind, append-nil)
words_if cond body (Some other) = simp by_kind

pub words_assign : (target : Name) (subscripts : List Operand) (value : Operand)
    → part_words (Assign target subscripts value) ≡ assign_words target subscripts value
unfolding part_words
words_assign target subscripts value = simp by_kind

pub words_block : (parts : List Part) → part_words (Block parts) ≡ in_braces (parts_words parts)
unfolding part_words
words_block parts = simp (by_kind, flat_map-map)

-- ---- parts without token numbers

pub unnumbered_for : (name : Name) (first : Operand) (second : Name) (inclusive : Bool) (bound : Operand) (third : Name)
    (step : Step) (body : Part)
    → unnumbered_part (For name first second inclusive bound third step body)
    ≡ For (unnumbered_name name) (unnumbered_operand first) (unnumbered_name second) inclusive
    (unnumbered_operand bound) (unnumbered_name third) (unnumbered_step step) (unnumbered_part body)
unfolding unnumbered_part
unnumbered_for name first second inclusive bound third step body = simp by_kind

pub unnumbered_if : (cond : List Comparison) (body : Part)
    → unnumbered_part (If cond body None) ≡ If (map unnumbered_comparison cond) (unnumbered_part body) None
unfolding unnumbered_part
unnumbered_if cond body = simp by_kind

pub unnumbered_else : (cond : List Comparison) (body : Part) (other : Other)
    → unnumbered_part (If cond body (Some other))
    ≡ If (map unnumbered_comparison cond) (unnumbered_part body)
    (Some (record { token = 0; body = unnumbered_part other.body }))
unfolding unnumbered_part
unnumbered_else cond body other = simp by_kind

pub unnumbered_assign : (target : Name) (subscripts : List Operand) (value : Operand)
    → unnumbered_part (Assign target subscripts value)
    ≡ Assign (unnumbered_name target) (map unnumbered_operand subscripts) (unnumbered_operand value)
unfolding unnumbered_part
unnumbered_assign target subscripts value = simp by_kind

pub unnumbered_block : (parts : List Part) → unnumbered_part (Block parts) ≡ Block (map unnumbered_part parts)
unfolding unnumbered_part
unnumbered_block parts = simp by_kind
