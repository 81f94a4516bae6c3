-- A sentence has a lexeme for each token.
use Rattle.std.proofs.Common.{◌≡◌, ℕ, suc, ◌+◌, List, [], ◌∷◌, length, map, refl, ap, ◌∙◌}
use Rattle.std.proofs.lemmas.List.{length-map}
use Rattle.loop_lex.specs.declared.token.Token.{Token}
use Rattle.loop_grammar.specs.declared.lexeme.Lexeme.{Lexeme}
use Rattle.loop_grammar.specs.Lexemes.{lexeme_at, numbered_from, sentence}

pub length-numbered_from : (n : ℕ) (words : List Lexeme) → length (numbered_from n words) ≡ length words
length-numbered_from n [] = refl
length-numbered_from n (w ∷ words) = ap suc (length-numbered_from (n + 1) words)

pub length-sentence : (bytes : List ℕ) (tokens : List Token) → length (sentence bytes tokens) ≡ length tokens
unfolding sentence
length-sentence bytes tokens = length-numbered_from 0 (map (lexeme_at bytes) tokens) ∙ length-map tokens (lexeme_at bytes)
