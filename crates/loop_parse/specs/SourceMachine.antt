-- A machine that is fed a source token by token.
use Rattle.std.specs.Prelude.{◌&&◌, if◌then◌else◌, option_map, ◌++◌, ℕ, Bool, true, false, Option, Some, None, List, [], ◌∷◌, reverse}
use Rattle.loop_grammar.specs.declared.lexeme.Lexeme.{Lexeme}
use Rattle.loop_grammar.specs.declared.lexeme.Lexeme.TheVariants as word
use Rattle.loop_grammar.specs.declared.tree.CompareSign.{CompareSign}
use Rattle.loop_grammar.specs.declared.tree.CompareSign.TheVariants.{Less, LessEq}
use Rattle.loop_grammar.specs.declared.tree.Comparison.{Comparison}
use Rattle.loop_grammar.specs.declared.tree.DeclWord.{DeclWord}
use Rattle.loop_grammar.specs.declared.tree.DeclWord.TheVariants.{Param}
use Rattle.loop_grammar.specs.declared.tree.Declaration.{Declaration}
use Rattle.loop_grammar.specs.declared.tree.Name.{Name}
use Rattle.loop_grammar.specs.declared.tree.Named.{Named}
use Rattle.loop_grammar.specs.declared.tree.Operand.{Operand}
use Rattle.loop_grammar.specs.declared.tree.Part.{Part}
use Rattle.loop_grammar.specs.declared.tree.Part as part
use Rattle.loop_grammar.specs.declared.tree.Step.{Step}
use Rattle.loop_grammar.specs.declared.tree.Step.TheVariants.{One, By}
use Rattle.loop_grammar.specs.declared.tree.Tree.{Tree}
use Rattle.loop_parse.specs.declared.place.Bounds.{Bounds}
use Rattle.loop_parse.specs.declared.place.Enclosing.{Enclosing}
use Rattle.loop_parse.specs.declared.place.Enclosing.TheVariants as enclosing
use Rattle.loop_parse.specs.declared.place.ForPlace.{ForPlace}
use Rattle.loop_parse.specs.declared.place.ForPlace.TheVariants as for_place
use Rattle.loop_parse.specs.declared.place.DeclarePlace.{DeclarePlace}
use Rattle.loop_parse.specs.declared.place.DeclarePlace.TheVariants as declare
use Rattle.loop_parse.specs.declared.place.Slot.{Slot}
use Rattle.loop_parse.specs.declared.place.Slot.TheVariants as slot
use Rattle.loop_parse.specs.declared.place.Place.{Place}
use Rattle.loop_parse.specs.declared.place.Place.TheVariants as place
use Rattle.loop_parse.specs.declared.place.Position.{Position}
use Rattle.loop_parse.specs.declared.place.Position.TheVariants as position
use Rattle.loop_parse.specs.declared.place.Nesting.{Nesting}
use Rattle.loop_parse.specs.declared.place.Reader.{Reader}
use Rattle.loop_grammar.specs.Grammar.{Tok}
use Rattle.loop_parse.specs.Feeding.{fed_by}
use Rattle.loop_parse.specs.ExpressionMachine as expression

-- ---- states

-- how far the reading has come: at a place, or within an expression that fills a slot
pub data Where : Type 0 where
  at : Place → Where
  within : Slot → expression.State → Where

abbrev pub where_of : Position → Where
where_of (position.At p) = at p
where_of (position.Within s e) = within s (expression.state_of e)

-- what was read round a place, with the innermost open statement first
abbrev pub inside_out : Nesting → Nesting
inside_out n = record n { enclosing = reverse n.enclosing }

abbrev pub State : Type 0
State = Nesting × Where

abbrev pub state_of : Reader → State
state_of r = (inside_out r.nesting, where_of r.position)

abbrev pub begun : Slot → Where
begun s = within s expression.start

abbrev pub name_of : List ℕ → ℕ → Name
name_of text token = record { text = text; token = token }

-- a statement waits for one inside it
abbrev pub enclosed : Nesting → Enclosing → Nesting
enclosed n e = record n { enclosing = e ∷ n.enclosing }

-- ---- the brackets of a `for`

abbrev pub at_for : ForPlace → Where
at_for p = at (place.For p)

abbrev pub feed_for : ForPlace → Tok → Option Where
feed_for for_place.Open (word.Open, p) = Some (at_for for_place.Int)
feed_for for_place.Int (word.Int, p) = Some (at_for for_place.Name)
feed_for for_place.Int (word.Name text, p) = Some (at_for (for_place.Assign (name_of text p)))
feed_for for_place.Name (word.Name text, p) = Some (at_for (for_place.Assign (name_of text p)))
feed_for (for_place.Assign n) (word.Assign, p) = Some (begun (slot.First n))
feed_for (for_place.Second n first) (word.Name text, p) =
    Some (at_for (for_place.Compare n first (name_of text p)))
feed_for (for_place.Compare n first second) (word.Compare Less, p) =
    Some (begun (slot.Bound n first second false))
feed_for (for_place.Compare n first second) (word.Compare LessEq, p) =
    Some (begun (slot.Bound n first second true))
feed_for (for_place.Step bounds) (word.Name text, p) =
    Some (at_for (for_place.StepSign bounds (name_of text p)))
feed_for (for_place.Step bounds) (word.Increment, p) = Some (at_for (for_place.Third bounds))
feed_for (for_place.StepSign bounds third) (word.Increment, p) =
    Some (at_for (for_place.Close bounds third))
feed_for (for_place.StepSign bounds third) (word.AddAssign, p) =
    Some (begun (slot.Step bounds third p))
feed_for (for_place.Third bounds) (word.Name text, p) =
    Some (at_for (for_place.Close bounds (name_of text p)))
feed_for _ _ = None

-- after the step of a `for`: its body comes next, where its brackets end
abbrev pub feed_step : Nesting → Bounds → Name → Step → Lexeme → Option State
feed_step n bounds third step word.Close =
    Some (enclosed n (enclosing.For bounds third step), at place.Statement)
feed_step n bounds third step _ = None

abbrev pub feed_header : Nesting → ForPlace → Tok → Option State
feed_header n (for_place.Close bounds third) (w, p) = feed_step n bounds third One w
feed_header n place t = option_map (λ w. (n, w)) (feed_for place t)

-- ---- statements

abbrev pub feed_begin : Nesting → Tok → Option State
feed_begin n (word.OpenCurly, p) =
    Some (
      record n {
        enclosing = enclosing.Block n.parts
            ∷ n.enclosing;
        parts = [];
      },
      at place.Statement,
    )
feed_begin n (word.For, p) = Some (n, at_for for_place.Open)
feed_begin n (word.If, p) = Some (n, at place.If)
feed_begin n (word.Name text, p) = Some (n, at (place.Target (name_of text p) []))
feed_begin n _ = None

-- a `}`
abbrev pub end_block : Nesting → List Enclosing → Option State
end_block n (enclosing.Block outer ∷ k) =
    Some (record n { enclosing = k; parts = outer }, at (place.AfterBlock n.parts))
end_block n _ = None

abbrev pub feed_statement : Nesting → Tok → Option State
feed_statement n (word.CloseCurly, p) = end_block n n.enclosing
feed_statement n t = feed_begin n t

-- the part that a `for` makes
abbrev pub for_part : Bounds → Name → Step → Part → Part
for_part b third step body = part.For b.name b.first b.second b.inclusive b.bound third step body

-- a statement is complete, and with it those that waited for it as their last part
abbrev pub landed : List Enclosing → List Part → Part → List Enclosing × List Part
landed [] parts v = ([], parts ++ v ∷ [])
landed (enclosing.Block outer ∷ k) parts v = (enclosing.Block outer ∷ k, parts ++ v ∷ [])
landed (enclosing.For bounds third step ∷ k) parts v = landed k parts (for_part bounds third step v)
landed (enclosing.If cond ∷ k) parts v = landed k parts (part.If cond v None)
landed (enclosing.Else cond block p ∷ k) parts v =
    landed k parts (part.If cond (part.Block block) (Some (record { token = p; body = v })))

abbrev pub settled : Nesting → Part → Nesting
settled n v = let r = landed n.enclosing n.parts v in record n { enclosing = r.0; parts = r.1 }

abbrev pub else_begun : Nesting → List Enclosing → List Part → ℕ → Option State
else_begun n (enclosing.If cond ∷ k) block p =
    Some (record n { enclosing = enclosing.Else cond block p ∷ k }, at place.Statement)
else_begun n _ block p = None

abbrev pub feed_after_block : Nesting → List Part → Tok → Option State
feed_after_block n block (word.Else, p) = else_begun n n.enclosing block p
feed_after_block n block t = feed_statement (settled n (part.Block block)) t

abbrev pub feed_if : Nesting → Tok → Option State
feed_if n (word.Open, p) = Some (n, begun (slot.Left []))
feed_if n _ = None

abbrev pub feed_target : Nesting → Name → List Operand → Tok → Option State
feed_target n name subscripts (word.OpenSquare, p) =
    Some (n, begun (slot.Subscript name subscripts))
feed_target n name subscripts (word.Assign, p) = Some (n, begun (slot.Assigned name subscripts))
feed_target n name subscripts _ = None

-- ---- declarations

abbrev pub at_declare : DeclarePlace → Where
at_declare p = at (place.Declaring p)

abbrev pub declared : Nesting → DeclWord → List Named → State
declared n w names = (
  record n {
    declarations = n.declarations
        ++ record { word = w; names = names } ∷ [];
  },
  at place.Declaration,
)

abbrev pub named_of : Name → List Operand → Named
named_of name extents = record { name = name; extents = extents }

abbrev pub feed_declare : Nesting → DeclarePlace → Tok → Option State
feed_declare n (declare.Parameter names) (word.Name text, p) =
    Some (n, at_declare (declare.AfterParameter (names ++ named_of (name_of text p) [] ∷ [])))
feed_declare n (declare.AfterParameter names) (word.Comma, p) =
    Some (n, at_declare (declare.Parameter names))
feed_declare n (declare.AfterParameter names) (word.Semi, p) = Some (declared n Param names)
feed_declare n (declare.Array w names) (word.Name text, p) =
    Some (n, at_declare (declare.AfterArray w names (name_of text p) []))
feed_declare n (declare.AfterArray w names name extents) (word.OpenSquare, p) =
    Some (n, begun (slot.Extent w names name extents))
feed_declare n (declare.AfterArray w names name extents) (word.Comma, p) =
    Some (n, at_declare (declare.Array w (names ++ named_of name extents ∷ [])))
feed_declare n (declare.AfterArray w names name extents) (word.Semi, p) =
    Some (declared n w (names ++ named_of name extents ∷ []))
feed_declare n _ _ = None

abbrev pub declare_place : DeclWord → DeclarePlace
declare_place Param = declare.Parameter []
declare_place w = declare.Array w []

-- a declaration, a statement or the end comes next
abbrev pub feed_declaration : Nesting → Tok → Option State
feed_declaration n (word.Declare w, p) = Some (n, at_declare (declare_place w))
feed_declaration n t = feed_statement n t

-- ---- expressions

abbrev pub comparison_of : Operand → CompareSign → ℕ → Operand → Comparison
comparison_of left sign token right =
    record { left = left; sign = sign; token = token; right = right }

-- after these comparisons of an `if`
abbrev pub feed_comparison : Nesting → List Comparison → Lexeme → Option State
feed_comparison n cond word.And = Some (n, begun (slot.Left cond))
feed_comparison n cond word.Close = Some (enclosed n (enclosing.If cond), at place.Statement)
feed_comparison n cond _ = None

-- after the value of an assignment
abbrev pub feed_assigned : Nesting → Name → List Operand → Operand → Lexeme → Option State
feed_assigned n name subscripts v word.Semi =
    Some (settled n (part.Assign name subscripts v), at place.Statement)
feed_assigned n name subscripts v _ = None

-- an expression is complete, and this token comes after it
abbrev pub fill : Nesting → Slot → Operand → Tok → Option State
fill n (slot.Extent w names name extents) v (word.CloseSquare, p) =
    Some (n, at_declare (declare.AfterArray w names name (extents ++ v ∷ [])))
fill n (slot.First name) v (word.Semi, p) = Some (n, at_for (for_place.Second name v))
fill n (slot.Bound name first second inclusive) v (word.Semi, p) =
    Some (
      n,
      at_for
          (for_place.Step
          (record {
            name = name;
            first = first;
            second = second;
            inclusive = inclusive;
            bound = v;
          })),
    )
fill n (slot.Step bounds third token) v (w, p) = feed_step n bounds third (By token v) w
fill n (slot.Left cond) v (word.Compare sign, p) = Some (n, begun (slot.Right cond v sign p))
fill n (slot.Right cond left sign token) v (w, p) =
    feed_comparison n (cond ++ comparison_of left sign token v ∷ []) w
fill n (slot.Subscript name subscripts) v (word.CloseSquare, p) =
    Some (n, at (place.Target name (subscripts ++ v ∷ [])))
fill n (slot.Assigned name subscripts) v (w, p) = feed_assigned n name subscripts v w
fill n _ v _ = None

-- the tokens that may stand after a whole expression
abbrev pub ends_expression : Lexeme → Bool
ends_expression word.Semi = true
ends_expression (word.Compare sign) = true
ends_expression word.And = true
ends_expression word.Close = true
ends_expression word.CloseSquare = true
ends_expression _ = false

abbrev pub filled : Nesting → Slot → Option Operand → Tok → Option State
filled n s None t = None
filled n s (Some v) t = fill n s v t

abbrev pub within_again : Nesting → Slot → Option expression.State → Option State
within_again n s None = None
within_again n s (Some e) = Some (n, within s e)

-- outside all brackets of the expression such a token is none of its own
abbrev pub feed_within : Nesting → Slot → expression.State → Tok → Option State
feed_within n s e t =
    if expression.has_no_bracket e && ends_expression t.0 then filled n s (expression.finish e) t
    else within_again n s (expression.feed e t)

-- ---- sources

abbrev pub feed_at : Nesting → Place → Tok → Option State
feed_at n place.Declaration t = feed_declaration n t
feed_at n (place.Declaring p) t = feed_declare n p t
feed_at n place.Statement t = feed_statement n t
feed_at n (place.AfterBlock block) t = feed_after_block n block t
feed_at n (place.For p) t = feed_header n p t
feed_at n place.If t = feed_if n t
feed_at n (place.Target name subscripts) t = feed_target n name subscripts t

abbrev pub feed : State → Tok → Option State
feed (n, at p) t = feed_at n p t
feed (n, within s e) t = feed_within n s e t

abbrev pub end : Nesting → List Enclosing → Option Tree
end n [] = Some (record { declarations = n.declarations; parts = n.parts })
end n _ = None

-- the tree, where the source may end here
abbrev pub finish : State → Option Tree
finish (n, at place.Declaration) = end n n.enclosing
finish (n, at place.Statement) = end n n.enclosing
finish (n, at (place.AfterBlock block)) = let m = settled n (part.Block block) in end m m.enclosing
finish _ = None

abbrev pub start : State
start = (record { declarations = []; enclosing = []; parts = [] }, at place.Declaration)

abbrev pub fed : Option State → List Tok → Option State
fed = fed_by feed
