-- What each token is to the grammar.
use Rattle.std.specs.Prelude.{◌+◌, ℕ, pos, List, [], ◌∷◌, map, codes, if◌then◌else◌}
use Rattle.std.specs.Str.{bytes_eq}
use Rattle.loop_lex.specs.Tokens.{text_of}
use Rattle.loop_lex.specs.declared.token.Token.{Token}
use Rattle.loop_lex.specs.declared.token.TokenKind.{TokenKind}
use Rattle.loop_lex.specs.declared.token.TokenKind.TheVariants as kind
use Rattle.loop_grammar.specs.declared.lexeme.Lexeme.{Lexeme}
use Rattle.loop_grammar.specs.declared.lexeme.Lexeme.TheVariants.{Name, Number, Declare, Int, For, If, Else, Choice, Open, Close, OpenSquare, CloseSquare, OpenCurly, CloseCurly, Semi, Comma, Assign, Compare, Plus, Minus, Times, Increment, AddAssign, And, Other}
use Rattle.loop_grammar.specs.declared.lexeme.Choice.TheVariants.{Min, Max}
use Rattle.loop_grammar.specs.declared.tree.CompareSign.TheVariants.{Less, LessEq, Greater, GreaterEq, Equal}
use Rattle.loop_grammar.specs.declared.tree.DeclWord.TheVariants.{Param, Input, Output, Both, Var}
use Rattle.loop_grammar.specs.declared.tree.Tree.{Tree}
use Rattle.loop_grammar.specs.Grammar.{Tok, Derives}
use Rattle.plain_data.specs.Digits.{decimal_number}

-- `Other` is what no token is
unfoldable pub reserved_lexeme : List ℕ → Lexeme
reserved_lexeme text =
    if bytes_eq text (codes "param") then Declare Param
    else (if bytes_eq text (codes "in") then Declare Input
    else (if bytes_eq text (codes "out") then Declare Output
    else (if bytes_eq text (codes "inout") then Declare Both
    else (if bytes_eq text (codes "var") then Declare Var
    else (if bytes_eq text (codes "int") then Int
    else (if bytes_eq text (codes "for") then For
    else (if bytes_eq text (codes "if") then If
    else (if bytes_eq text (codes "else") then Else
    else (if bytes_eq text (codes "min") then Choice Min
    else (if bytes_eq text (codes "max") then Choice Max
    else Other))))))))))

unfoldable pub bracket_lexeme : List ℕ → Lexeme
bracket_lexeme text =
    if bytes_eq text (codes "(") then Open
    else (if bytes_eq text (codes ")") then Close
    else (if bytes_eq text (codes "[") then OpenSquare
    else (if bytes_eq text (codes "]") then CloseSquare
    else (if bytes_eq text (codes "{") then OpenCurly
    else (if bytes_eq text (codes "}") then CloseCurly
    else Other)))))

unfoldable pub comparison_lexeme : List ℕ → Lexeme
comparison_lexeme text =
    if bytes_eq text (codes "<") then Compare Less
    else (if bytes_eq text (codes "<=") then Compare LessEq
    else (if bytes_eq text (codes ">") then Compare Greater
    else (if bytes_eq text (codes ">=") then Compare GreaterEq
    else (if bytes_eq text (codes "==") then Compare Equal
    else bracket_lexeme text))))

unfoldable pub sign_lexeme : List ℕ → Lexeme
sign_lexeme text =
    if bytes_eq text (codes ";") then Semi
    else (if bytes_eq text (codes ",") then Comma
    else (if bytes_eq text (codes "=") then Assign
    else (if bytes_eq text (codes "+") then Plus
    else (if bytes_eq text (codes "-") then Minus
    else (if bytes_eq text (codes "*") then Times
    else (if bytes_eq text (codes "++") then Increment
    else (if bytes_eq text (codes "+=") then AddAssign
    else (if bytes_eq text (codes "&&") then And
    else comparison_lexeme text))))))))

abbrev pub lexeme_of : TokenKind → List ℕ → Lexeme
lexeme_of kind.Name text = Name text
lexeme_of kind.Number text = Number (pos (decimal_number text))
lexeme_of kind.Reserved text = reserved_lexeme text
lexeme_of kind.Sign text = sign_lexeme text

unfoldable pub lexeme_at : List ℕ → Token → Lexeme
lexeme_at bytes t = lexeme_of t.kind (text_of bytes t)

-- each lexeme with its number
abbrev pub numbered_from : ℕ → List Lexeme → List Tok
numbered_from n [] = []
numbered_from n (w ∷ ws) = (w, n) ∷ numbered_from (n + 1) ws

-- the tokens of a source, as the grammar sees them
unfoldable pub sentence : List ℕ → List Token → List Tok
sentence bytes tokens = numbered_from 0 (map (lexeme_at bytes) tokens)

-- the tokens of the bytes derive with this tree
abbrev pub IsTree : List ℕ → List Token → Tree → Type 0
IsTree bytes tokens tree = Derives (sentence bytes tokens) tree
