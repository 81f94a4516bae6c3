-- What a text is to the tree that it was printed from.
use Rattle.std.specs.Prelude.{◌≡◌, ℕ, List, Ok}
use Rattle.loop_lex.specs.Tokens.{tokens}
use Rattle.loop_lex.specs.declared.token.Token.{Token}
use Rattle.loop_grammar.specs.Lexemes.{IsTree}
use Rattle.loop_grammar.specs.declared.tree.Tree.{Tree}
use Rattle.loop_print.specs.Numbers.{without_token_numbers}

-- some source has this tree
abbrev pub HasSource : Tree → Type 0
HasSource tree =
    (source : List ℕ) × (found : List Token) × (tokens source ≡ Ok found) × IsTree source found tree

-- the text has tokens, and they have this tree, token numbers aside
abbrev pub ReadsBackAs : List ℕ → Tree → Type 0
ReadsBackAs text tree =
    (found : List Token) × (again : Tree) × (tokens text ≡ Ok found) × IsTree text found again
    × (without_token_numbers again ≡ without_token_numbers tree)
