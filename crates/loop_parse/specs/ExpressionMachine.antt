-- A machine that is fed an expression token by token.
use Rattle.std.specs.Prelude.{◌++◌, ℕ, Bool, true, false, Option, Some, None, List, [], ◌∷◌, reverse}
use Rattle.loop_grammar.specs.declared.lexeme.Lexeme.TheVariants as word
use Rattle.loop_grammar.specs.declared.tree.BinarySign.TheVariants.{Add, Sub, Mul}
use Rattle.loop_grammar.specs.declared.tree.Operand.{Operand}
use Rattle.loop_grammar.specs.declared.tree.Operand as operand
use Rattle.loop_grammar.specs.declared.tree.Name.{Name}
use Rattle.loop_grammar.specs.declared.lexeme.Choice.{Choice}
use Rattle.loop_parse.specs.declared.expression.Sum.{Sum}
use Rattle.loop_parse.specs.declared.expression.Product.{Product}
use Rattle.loop_parse.specs.declared.expression.Level.{Level}
use Rattle.loop_parse.specs.declared.expression.Bracket.{Bracket}
use Rattle.loop_parse.specs.declared.expression.Bracket.TheVariants as bracket
use Rattle.loop_parse.specs.declared.expression.Frame.{Frame}
use Rattle.loop_parse.specs.declared.expression.Reading.{Reading}
use Rattle.loop_parse.specs.declared.expression.Reading.TheVariants as reading
use Rattle.loop_parse.specs.declared.expression.Expression.{Expression}
use Rattle.loop_grammar.specs.Grammar.{Tok, chosen}
use Rattle.loop_parse.specs.Feeding.{fed_by}

abbrev pub level_with : Option Sum → Option Product → Level
level_with s p = record { sum = s; product = p; negations = [] }

abbrev pub fresh : Level
fresh = level_with None None

abbrev pub negated : List ℕ → Operand → Operand
negated [] v = v
negated (p ∷ ps) v = operand.Neg p (negated ps v)

abbrev pub multiplied : Option Product → Operand → Operand
multiplied None v = v
multiplied (Some x) v = operand.Binary Mul x.token x.left v

abbrev pub summed : Option Sum → Operand → Operand
summed None v = v
summed (Some x) v = operand.Binary x.sign x.token x.left v

-- the open brackets, the innermost first, and the reading inside them
abbrev pub State : Type 0
State = List Frame × Reading

abbrev pub state_of : Expression → State
state_of e = (reverse e.outer, e.reading)

-- the term that ends with this factor
abbrev pub factor_value : Level → Operand → Operand
factor_value level v = multiplied level.product (negated level.negations v)

abbrev pub factor_read : Level → Operand → Reading
factor_read level v = reading.Term level.sum (factor_value level v)

-- a factor comes next
abbrev pub feed_factor : List Frame → Level → Tok → Option State
feed_factor k level (word.Number n, p) = Some (k, factor_read level (operand.Number n p))
feed_factor k level (word.Minus, p) =
    Some (k, reading.Factor (record level { negations = level.negations ++ p ∷ [] }))
feed_factor k level (word.Open, p) =
    Some (record { level = level; bracket = bracket.Parentheses } ∷ k, reading.Factor fresh)
feed_factor k level (word.Name text, p) =
    Some (k, reading.Access level (record { text = text; token = p }) [])
feed_factor k level (word.Choice c, p) = Some (k, reading.Arguments level c p)
feed_factor k level (_, p) = None

abbrev pub feed_arguments : List Frame → Level → Choice → ℕ → Tok → Option State
feed_arguments k level c p (word.Open, q) =
    Some (record { level = level; bracket = bracket.Arguments c p [] } ∷ k, reading.Factor fresh)
feed_arguments k level c p (_, q) = None

abbrev pub close_bracket : List Frame → Level → Bracket → Operand → Option State
close_bracket k level bracket.Parentheses v = Some (k, factor_read level v)
close_bracket k level (bracket.Arguments c p list) v =
    Some (k, factor_read level (chosen c p (list ++ v ∷ [])))
close_bracket k level (bracket.Subscript n list) v = None

abbrev pub closed : List Frame → Operand → Option State
closed [] v = None
closed (f ∷ k) v = close_bracket k f.level f.bracket v

abbrev pub close_subscript : List Frame → Level → Bracket → Operand → Option State
close_subscript k level (bracket.Subscript n list) v =
    Some (k, reading.Access level n (list ++ v ∷ []))
close_subscript k level _ v = None

abbrev pub subscripted : List Frame → Operand → Option State
subscripted [] v = None
subscripted (f ∷ k) v = close_subscript k f.level f.bracket v

abbrev pub next_argument : List Frame → Level → Bracket → Operand → Option State
next_argument k level (bracket.Arguments c p list) v =
    Some (
      record { level = level; bracket = bracket.Arguments c p (list ++ v ∷ []) }
          ∷ k,
      reading.Factor fresh,
    )
next_argument k level _ v = None

abbrev pub separated : List Frame → Operand → Option State
separated [] v = None
separated (f ∷ k) v = next_argument k f.level f.bracket v

-- a term has come
abbrev pub feed_term : List Frame → Option Sum → Operand → Tok → Option State
feed_term k sum v (word.Times, p) =
    Some (k, reading.Factor (level_with sum (Some (record { left = v; token = p }))))
feed_term k sum v (word.Plus, p) =
    Some (
      k,
      reading.Factor
          (level_with (Some (record { left = summed sum v; sign = Add; token = p })) None),
    )
feed_term k sum v (word.Minus, p) =
    Some (
      k,
      reading.Factor
          (level_with (Some (record { left = summed sum v; sign = Sub; token = p })) None),
    )
feed_term k sum v (word.Close, p) = closed k (summed sum v)
feed_term k sum v (word.CloseSquare, p) = subscripted k (summed sum v)
feed_term k sum v (word.Comma, p) = separated k (summed sum v)
feed_term k sum v (_, p) = None

-- the term after a factor
abbrev pub feed_read : List Frame → Level → Operand → Tok → Option State
feed_read k level v t = feed_term k level.sum (factor_value level v) t

-- a name with subscripts has come: one more, or what may follow a factor
abbrev pub feed_access : List Frame → Level → Name → List Operand → Tok → Option State
feed_access k level n list (word.OpenSquare, p) =
    Some (record { level = level; bracket = bracket.Subscript n list } ∷ k, reading.Factor fresh)
feed_access k level n list t = feed_read k level (operand.Access n list) t

abbrev pub feed : State → Tok → Option State
feed (k, reading.Factor level) t = feed_factor k level t
feed (k, reading.Arguments level c p) t = feed_arguments k level c p t
feed (k, reading.Access level n list) t = feed_access k level n list t
feed (k, reading.Term sum v) t = feed_term k sum v t

-- the tree, where the expression may end here
abbrev pub finish : State → Option Operand
finish ([], reading.Access level n list) =
    Some (summed level.sum (factor_value level (operand.Access n list)))
finish ([], reading.Term sum v) = Some (summed sum v)
finish _ = None

abbrev pub start : State
start = ([], reading.Factor fresh)

abbrev pub has_no_bracket : State → Bool
has_no_bracket ([], r) = true
has_no_bracket (f ∷ k, r) = false

abbrev pub fed : Option State → List Tok → Option State
fed = fed_by feed
