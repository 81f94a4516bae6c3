-- How the code writes a tree: its words, each with a space behind it, and parentheses only where an operand binds less than
-- its place asks. What the text means is in ReadBack.
use Rattle.std.specs.Prelude.{◌≡◌, ◌++◌, ℕ, Bool, true, false, Option, Some, None, List, [], ◌∷◌, map, codes, if◌then◌else◌}
use Rattle.std.specs.List.{flat_map}
use Rattle.std.specs.Fmt.{signed_decimal}
use Rattle.loop_lex.specs.Spaced.{spaced}
use Rattle.loop_grammar.specs.declared.lexeme.Lexeme.{Lexeme}
use Rattle.loop_grammar.specs.declared.lexeme.Lexeme.TheVariants as word
use Rattle.loop_grammar.specs.declared.lexeme.Choice.{Choice}
use Rattle.loop_grammar.specs.declared.lexeme.Choice.TheVariants.{Min, Max}
use Rattle.loop_print.specs.declared.printer.Mark.{Mark}
use Rattle.loop_print.specs.declared.printer.Mark.TheVariants as mark
use Rattle.loop_print.specs.declared.printer.Rank.{Rank}
use Rattle.loop_print.specs.declared.printer.Rank.TheVariants as rank
use Rattle.loop_grammar.specs.declared.tree.BinarySign.{BinarySign}
use Rattle.loop_grammar.specs.declared.tree.BinarySign.TheVariants.{Add, Sub, Mul}
use Rattle.loop_grammar.specs.declared.tree.CompareSign.TheVariants.{Less, LessEq, Greater, GreaterEq, Equal}
use Rattle.loop_grammar.specs.declared.tree.Comparison.{Comparison}
use Rattle.loop_grammar.specs.declared.tree.DeclWord.TheVariants.{Param, Input, Output, Both, Var}
use Rattle.loop_grammar.specs.declared.tree.Declaration.{Declaration}
use Rattle.loop_grammar.specs.declared.tree.Name.{Name}
use Rattle.loop_grammar.specs.declared.tree.Named.{Named}
use Rattle.loop_grammar.specs.declared.tree.Operand.{Operand, fold-Operand}
use Rattle.loop_grammar.specs.declared.tree.Operand.TheOpen as layer
use Rattle.loop_grammar.specs.declared.tree.Other.{Other}
use Rattle.loop_grammar.specs.declared.tree.Part.{Part, fold-Part}
use Rattle.loop_grammar.specs.declared.tree.Part.TheOpen as part_layer
use Rattle.loop_grammar.specs.declared.tree.Step.{Step}
use Rattle.loop_grammar.specs.declared.tree.Step.TheVariants.{One, By}
use Rattle.loop_grammar.specs.declared.tree.Tree.{Tree}
use Rattle.loop_grammar.specs.Grammar.{bound_sign}

-- ---- texts

unfoldable pub lexeme_text : Lexeme → List ℕ
lexeme_text (word.Name text) = text
lexeme_text (word.Number value) = signed_decimal value
lexeme_text (word.Declare Param) = codes "param"
lexeme_text (word.Declare Input) = codes "in"
lexeme_text (word.Declare Output) = codes "out"
lexeme_text (word.Declare Both) = codes "inout"
lexeme_text (word.Declare Var) = codes "var"
lexeme_text word.Int = codes "int"
lexeme_text word.For = codes "for"
lexeme_text word.If = codes "if"
lexeme_text word.Else = codes "else"
lexeme_text (word.Choice Min) = codes "min"
lexeme_text (word.Choice Max) = codes "max"
lexeme_text word.Open = codes "("
lexeme_text word.Close = codes ")"
lexeme_text word.OpenSquare = codes "["
lexeme_text word.CloseSquare = codes "]"
lexeme_text word.OpenCurly = codes "{"
lexeme_text word.CloseCurly = codes "}"
lexeme_text word.Semi = codes ";"
lexeme_text word.Comma = codes ","
lexeme_text word.Assign = codes "="
lexeme_text (word.Compare Less) = codes "<"
lexeme_text (word.Compare LessEq) = codes "<="
lexeme_text (word.Compare Greater) = codes ">"
lexeme_text (word.Compare GreaterEq) = codes ">="
lexeme_text (word.Compare Equal) = codes "=="
lexeme_text word.Plus = codes "+"
lexeme_text word.Minus = codes "-"
lexeme_text word.Times = codes "*"
lexeme_text word.Increment = codes "++"
lexeme_text word.AddAssign = codes "+="
lexeme_text word.And = codes "&&"
lexeme_text word.Other = []

abbrev pub mark_word : Mark → Lexeme
mark_word mark.For = word.For
mark_word mark.If = word.If
mark_word mark.Else = word.Else
mark_word mark.Min = word.Choice Min
mark_word mark.Max = word.Choice Max
mark_word mark.Open = word.Open
mark_word mark.Close = word.Close
mark_word mark.OpenSquare = word.OpenSquare
mark_word mark.CloseSquare = word.CloseSquare
mark_word mark.OpenCurly = word.OpenCurly
mark_word mark.CloseCurly = word.CloseCurly
mark_word mark.Semi = word.Semi
mark_word mark.Comma = word.Comma
mark_word mark.Assign = word.Assign
mark_word mark.Increment = word.Increment
mark_word mark.AddAssign = word.AddAssign
mark_word mark.And = word.And

-- the texts of the words, with a space behind each
unfoldable pub written : List Lexeme → List ℕ
written words = spaced (map lexeme_text words)

-- the words were written at the end
pub record Writes (old new : List ℕ) (words : List Lexeme) : Type 0 where
  pub is : new ≡ old ++ written words

-- ---- expressions

-- an operand's words, and how it binds
pub record Phrase : Type 0 where
  pub rank : Rank
  pub words : List Lexeme

-- whether an operand that binds so needs parentheses at this place
abbrev pub needs_parentheses : Rank → Rank → Bool
needs_parentheses rank.Sum own = false
needs_parentheses rank.Product rank.Sum = true
needs_parentheses rank.Product rank.Product = false
needs_parentheses rank.Product rank.Factor = false
needs_parentheses rank.Factor rank.Sum = true
needs_parentheses rank.Factor rank.Product = true
needs_parentheses rank.Factor rank.Factor = false

abbrev pub in_parentheses : List Lexeme → List Lexeme
in_parentheses words = word.Open ∷ (words ++ word.Close ∷ [])

abbrev pub placed : Rank → Rank → List Lexeme → List Lexeme
placed place own words = if needs_parentheses place own then in_parentheses words else words

-- an operand's words at a place
abbrev pub phrase_at : Rank → Phrase → List Lexeme
phrase_at place p = placed place p.rank p.words

abbrev pub in_squares : List Lexeme → List Lexeme
in_squares words = word.OpenSquare ∷ (words ++ word.CloseSquare ∷ [])

abbrev pub behind_sign : {A : Type 0} → Lexeme → (A → List Lexeme) → A → List Lexeme
behind_sign sign words x = sign ∷ words x

-- x { "," x } or the like
abbrev pub joined : {A : Type 0} → Lexeme → (A → List Lexeme) → List A → List Lexeme
joined sign words [] = []
joined sign words (x ∷ xs) = words x ++ flat_map (behind_sign sign words) xs

abbrev pub binary_word : BinarySign → Lexeme
binary_word Add = word.Plus
binary_word Sub = word.Minus
binary_word Mul = word.Times

abbrev pub binary_rank : BinarySign → Rank
binary_rank Add = rank.Sum
binary_rank Sub = rank.Sum
binary_rank Mul = rank.Product

-- what a sign asks of its right side
abbrev pub right_rank : BinarySign → Rank
right_rank Add = rank.Product
right_rank Sub = rank.Product
right_rank Mul = rank.Factor

abbrev pub phrase_words : Phrase → List Lexeme
phrase_words p = p.words

abbrev pub squared_phrase : Phrase → List Lexeme
squared_phrase p = in_squares p.words

abbrev pub phrase_step : layer.Operand-F Phrase → Phrase
phrase_step (layer.Number value token) =
    record { rank = rank.Factor; words = word.Number value ∷ [] }
phrase_step (layer.Access name subscripts) =
    record { rank = rank.Factor; words = word.Name name.text ∷ flat_map squared_phrase subscripts }
phrase_step (layer.Binary sign token left right) =
    record {
      rank = binary_rank sign;
      words = phrase_at (binary_rank sign) left ++ binary_word sign
          ∷ phrase_at (right_rank sign) right;
    }
phrase_step (layer.Neg token inner) =
    record { rank = rank.Factor; words = word.Minus ∷ phrase_at rank.Factor inner }
phrase_step (layer.Min token list) =
    record {
      rank = rank.Factor;
      words = word.Choice Min
          ∷ in_parentheses (joined word.Comma phrase_words list);
    }
phrase_step (layer.Max token list) =
    record {
      rank = rank.Factor;
      words = word.Choice Max
          ∷ in_parentheses (joined word.Comma phrase_words list);
    }

unfoldable pub phrase_of : Operand → Phrase
phrase_of = fold-Operand Phrase phrase_step

abbrev pub expr_words : Operand → List Lexeme
expr_words o = (phrase_of o).words

abbrev pub choice_words : Choice → List Operand → List Lexeme
choice_words c list = word.Choice c ∷ in_parentheses (joined word.Comma expr_words list)

-- a subscript or an extent
abbrev pub subscript_words : Operand → List Lexeme
subscript_words o = in_squares (expr_words o)

-- a name with its subscripts
abbrev pub access_words : Name → List Operand → List Lexeme
access_words name subscripts = word.Name name.text ∷ flat_map subscript_words subscripts

-- ---- statements

abbrev pub comparison_words : Comparison → List Lexeme
comparison_words c = expr_words c.left ++ word.Compare c.sign ∷ expr_words c.right

abbrev pub step_words : Name → Step → List Lexeme
step_words third One = word.Name third.text ∷ word.Increment ∷ []
step_words third (By token value) = word.Name third.text ∷ word.AddAssign ∷ expr_words value

abbrev pub header_words : Name → Operand → Name → Bool → Operand → Name → Step → List Lexeme
header_words name first second inclusive bound third step =
    word.For ∷ word.Open ∷ word.Name name.text ∷ word.Assign
    ∷ (expr_words first ++ word.Semi ∷ word.Name second.text
    ∷ word.Compare (bound_sign inclusive)
    ∷ (expr_words bound ++ word.Semi ∷ (step_words third step ++ word.Close ∷ [])))

abbrev pub guard_words : List Comparison → List Lexeme
guard_words cond = word.If ∷ in_parentheses (joined word.And comparison_words cond)

abbrev pub in_braces : List Lexeme → List Lexeme
in_braces words = word.OpenCurly ∷ (words ++ word.CloseCurly ∷ [])

abbrev pub assign_words : Name → List Operand → Operand → List Lexeme
assign_words target subscripts value =
    access_words target subscripts ++ word.Assign ∷ (expr_words value ++ word.Semi ∷ [])

abbrev pub all_words : List (List Lexeme) → List Lexeme
all_words list = flat_map (λ words. words) list

abbrev pub part_step : part_layer.Part-F (List Lexeme) (List Lexeme) → List Lexeme
part_step (part_layer.For name first second inclusive bound third step body) =
    header_words name first second inclusive bound third step ++ body
part_step (part_layer.If cond body None) = guard_words cond ++ body
part_step (part_layer.If cond body (Some other)) = guard_words cond ++ (body ++ other)
part_step (part_layer.Assign target subscripts value) = assign_words target subscripts value
part_step (part_layer.Block parts) = in_braces (all_words parts)

abbrev pub other_step : part_layer.Other-F (List Lexeme) (List Lexeme) → List Lexeme
other_step other = word.Else ∷ other.body

unfoldable pub part_words : Part → List Lexeme
part_words = fold-Part (List Lexeme) (List Lexeme) part_step other_step

abbrev pub parts_words : List Part → List Lexeme
parts_words parts = flat_map part_words parts

-- an `else`, where there is one
abbrev pub other_words : Option Other → List Lexeme
other_words None = []
other_words (Some other) = word.Else ∷ part_words other.body

-- ---- declarations and sources

abbrev pub named_words : Named → List Lexeme
named_words n = access_words n.name n.extents

abbrev pub declaration_words : Declaration → List Lexeme
declaration_words d =
    word.Declare d.word ∷ (joined word.Comma named_words d.names ++ word.Semi ∷ [])

abbrev pub tree_words : Tree → List Lexeme
tree_words t = flat_map declaration_words t.declarations ++ parts_words t.parts
