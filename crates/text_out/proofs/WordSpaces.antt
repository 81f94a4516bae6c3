-- Words with a space between two of them.
use Rattle.std.proofs.Common.{◌≡◌, ◌∙◌, ℕ, List, [], ◌∷◌, ◌++◌, sym, ap, append-nil, map}
use Rattle.std.specs.List.{flat_map, join_with_byte}
use Rattle.std.proofs.lemmas.List.Folds.{flat_map-map}
use Rattle.text_out.specs.declared.words.Word.{Word}
use Rattle.text_out.specs.Words.{word_text, spaced_text}

pub joined : (word : List ℕ) (words : List (List ℕ))
    → join_with_byte 32 (word ∷ words) ≡ word ++ flat_map (λ other. 32 ∷ other) words
joined word [] = sym (append-nil word)
joined word (other ∷ words) = ap (λ (text : List ℕ). word ++ (32 ∷ text)) (joined other words)

-- the first, and the others with a space before each
pub words_joined : (first : Word) (others : List Word)
    → join_with_byte 32 (map word_text (first ∷ others)) ≡ word_text first ++ flat_map spaced_text others
words_joined first others =
    joined (word_text first) (map word_text others)
    ∙ ap (λ (text : List ℕ). word_text first ++ text) (flat_map-map (λ other. 32 ∷ other) word_text others)
