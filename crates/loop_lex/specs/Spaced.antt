-- Tokens written one behind the other, with a space behind each.
use Rattle.std.specs.Prelude.{◌+◌, ◌&&◌, ◌++◌, ℕ, Bool, not, List, [], ◌∷◌, length}
use Rattle.std.specs.List.{list_all}
use Rattle.loop_lex.specs.Lexical.{is_token, is_large}
use Rattle.loop_lex.specs.Tokens.{token_at}
use Rattle.loop_lex.specs.declared.token.Token.{Token}

-- each is the text of a token
abbrev pub are_token_texts : List (List ℕ) → Bool
are_token_texts texts = list_all (λ text. is_token text && not (is_large text)) texts

-- the texts, each with a space behind it
abbrev pub spaced : List (List ℕ) → List ℕ
spaced [] = []
spaced (text ∷ texts) = text ++ 32 ∷ spaced texts

-- the tokens of these texts, of which the first begins at `at`
abbrev pub spaced_tokens : ℕ → List (List ℕ) → List Token
spaced_tokens at [] = []
spaced_tokens at (text ∷ texts) = token_at at text ∷ spaced_tokens (at + length text + 1) texts
