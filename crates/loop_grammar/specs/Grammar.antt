-- The grammar: derivations, one constructor a production, with the tokens and the tree that each stands for.
use Rattle.std.specs.Prelude.{◌≡◌, ◌++◌, ◌<◌, ◌≤◌, ℕ, suc, ℤ, Bool, true, false, Option, Some, None, List, [], ◌∷◌, length, take}
use Rattle.loop_grammar.specs.declared.lexeme.Lexeme.{Lexeme}
use Rattle.loop_grammar.specs.declared.lexeme.Lexeme.TheVariants as word
use Rattle.loop_grammar.specs.declared.lexeme.Choice.{Choice}
use Rattle.loop_grammar.specs.declared.lexeme.Choice.TheVariants.{Min, Max}
use Rattle.loop_grammar.specs.declared.tree.BinarySign.{BinarySign}
use Rattle.loop_grammar.specs.declared.tree.BinarySign.TheVariants.{Add, Sub, Mul}
use Rattle.loop_grammar.specs.declared.tree.CompareSign.{CompareSign}
use Rattle.loop_grammar.specs.declared.tree.CompareSign.TheVariants.{Less, LessEq}
use Rattle.loop_grammar.specs.declared.tree.Comparison.{Comparison}
use Rattle.loop_grammar.specs.declared.tree.DeclWord.{DeclWord}
use Rattle.loop_grammar.specs.declared.tree.DeclWord.TheVariants.{Param, Input, Output, Both, Var}
use Rattle.loop_grammar.specs.declared.tree.Declaration.{Declaration}
use Rattle.loop_grammar.specs.declared.tree.Name.{Name}
use Rattle.loop_grammar.specs.declared.tree.Named.{Named}
use Rattle.loop_grammar.specs.declared.tree.Operand.{Operand}
use Rattle.loop_grammar.specs.declared.tree.Operand as operand
use Rattle.loop_grammar.specs.declared.tree.Part.{Part}
use Rattle.loop_grammar.specs.declared.tree.Part as part
use Rattle.loop_grammar.specs.declared.tree.Step.{Step}
use Rattle.loop_grammar.specs.declared.tree.Step.TheVariants.{One, By}
use Rattle.loop_grammar.specs.declared.tree.Tree.{Tree}

-- a token with its number
abbrev pub Tok : Type 0
Tok = Lexeme × ℕ

-- ---- expressions

-- the signs of a sum
pub data SumSign : Type 0 where
  plus : SumSign
  minus : SumSign

-- expr = term { ( "+" | "-" ) term }
-- term = factor { "*" factor }
-- factor = "-" factor | number | "(" expr ")" | access | ( "min" | "max" ) "(" expr { "," expr } ")"
-- access = name { "[" expr "]" }
-- Each number is that of the token in its place.
mutual
  pub data Expr : Type 0 where
    term : Term → Expr
    sum : Expr → SumSign → ℕ → Term → Expr

  pub data Term : Type 0 where
    factor : Factor → Term
    product : Term → ℕ → Factor → Term

  pub data Factor : Type 0 where
    negation : ℕ → Factor → Factor
    number : ℤ → ℕ → Factor
    parentheses : ℕ → Expr → ℕ → Factor
    access : Access → Factor
    choice : Choice → ℕ → ℕ → Exprs → ℕ → Factor

  pub data Access : Type 0 where
    name : Name → Access
    subscript : Access → ℕ → Expr → ℕ → Access

  pub data Exprs : Type 0 where
    one : Expr → Exprs
    also : Exprs → ℕ → Expr → Exprs

abbrev pub sum_word : SumSign → Lexeme
sum_word plus = word.Plus
sum_word minus = word.Minus

abbrev pub name_token : Name → Tok
name_token n = (word.Name n.text, n.token)

abbrev mutual
  pub expr_text : Expr → List Tok
  expr_text (term t) = term_text t
  expr_text (sum e s p t) = expr_text e ++ (sum_word s, p) ∷ term_text t

  pub term_text : Term → List Tok
  term_text (factor f) = factor_text f
  term_text (product t p f) = term_text t ++ (word.Times, p) ∷ factor_text f

  pub factor_text : Factor → List Tok
  factor_text (negation p f) = (word.Minus, p) ∷ factor_text f
  factor_text (number n p) = (word.Number n, p) ∷ []
  factor_text (parentheses p e q) = (word.Open, p) ∷ (expr_text e ++ (word.Close, q) ∷ [])
  factor_text (access a) = access_text a
  factor_text (choice c p q es r) =
      (word.Choice c, p) ∷ (word.Open, q) ∷ (exprs_text es ++ (word.Close, r) ∷ [])

  pub access_text : Access → List Tok
  access_text (name n) = name_token n ∷ []
  access_text (subscript a p e q) =
      access_text a ++ (word.OpenSquare, p) ∷ (expr_text e ++ (word.CloseSquare, q) ∷ [])

  pub exprs_text : Exprs → List Tok
  exprs_text (one e) = expr_text e
  exprs_text (also es p e) = exprs_text es ++ (word.Comma, p) ∷ expr_text e

abbrev pub binary_sign : SumSign → BinarySign
binary_sign plus = Add
binary_sign minus = Sub

-- `min` or `max` of one argument is that argument
abbrev pub chosen : Choice → ℕ → List Operand → Operand
chosen c p (v ∷ []) = v
chosen Min p list = operand.Min p list
chosen Max p list = operand.Max p list

-- sums and products associate to the left, and the tree keeps no parentheses
abbrev mutual
  pub expr_tree : Expr → Operand
  expr_tree (term t) = term_tree t
  expr_tree (sum e s p t) = operand.Binary (binary_sign s) p (expr_tree e) (term_tree t)

  pub term_tree : Term → Operand
  term_tree (factor f) = factor_tree f
  term_tree (product t p f) = operand.Binary Mul p (term_tree t) (factor_tree f)

  pub factor_tree : Factor → Operand
  factor_tree (negation p f) = operand.Neg p (factor_tree f)
  factor_tree (number n p) = operand.Number n p
  factor_tree (parentheses p e q) = expr_tree e
  factor_tree (access a) = operand.Access (accessed a) (subscripts a)
  factor_tree (choice c p q es r) = chosen c p (expr_trees es)

  pub accessed : Access → Name
  accessed (name n) = n
  accessed (subscript a p e q) = accessed a

  pub subscripts : Access → List Operand
  subscripts (name n) = []
  subscripts (subscript a p e q) = subscripts a ++ expr_tree e ∷ []

  pub expr_trees : Exprs → List Operand
  expr_trees (one e) = expr_tree e ∷ []
  expr_trees (also es p e) = expr_trees es ++ expr_tree e ∷ []

-- ---- lists with a separator: x { "," x }

pub data Separated (A : Type 0) : Type 0 where
  single : A → Separated A
  more : Separated A → ℕ → A → Separated A

abbrev pub separated_text : {A : Type 0} → Lexeme → (A → List Tok) → Separated A → List Tok
separated_text sign text (single x) = text x
separated_text sign text (more xs p x) = separated_text sign text xs ++ (sign, p) ∷ text x

abbrev pub separated_list : {A B : Type 0} → (A → B) → Separated A → List B
separated_list tree (single x) = tree x ∷ []
separated_list tree (more xs p x) = separated_list tree xs ++ tree x ∷ []

-- ---- statements

-- comparison = expr ( "<" | "<=" | ">" | ">=" | "==" ) expr
pub data Compared : Type 0 where
  compared : Expr → CompareSign → ℕ → Expr → Compared

abbrev pub compared_text : Compared → List Tok
compared_text (compared a s p b) = expr_text a ++ (word.Compare s, p) ∷ expr_text b

abbrev pub compared_tree : Compared → Comparison
compared_tree (compared a s p b) =
    record { left = expr_tree a; sign = s; token = p; right = expr_tree b }

-- "if" "(" comparison { "&&" comparison } ")"
pub data Guard : Type 0 where
  guard : ℕ → ℕ → Separated Compared → ℕ → Guard

abbrev pub guard_text : Guard → List Tok
guard_text (guard p q cond r) =
    (word.If, p) ∷ (word.Open, q)
    ∷ (separated_text word.And compared_text cond ++ (word.Close, r) ∷ [])

abbrev pub guard_tree : Guard → List Comparison
guard_tree (guard p q cond r) = separated_list compared_tree cond

-- step = name "++" | "++" name | name "+=" expr
pub data Stepped : Type 0 where
  postfix : Name → ℕ → Stepped
  prefix : ℕ → Name → Stepped
  compound : Name → ℕ → Expr → Stepped

abbrev pub stepped_text : Stepped → List Tok
stepped_text (postfix n p) = name_token n ∷ (word.Increment, p) ∷ []
stepped_text (prefix p n) = (word.Increment, p) ∷ name_token n ∷ []
stepped_text (compound n p e) = name_token n ∷ (word.AddAssign, p) ∷ expr_text e

abbrev pub stepped_name : Stepped → Name
stepped_name (postfix n p) = n
stepped_name (prefix p n) = n
stepped_name (compound n p e) = n

-- the tree keeps not on which side `++` stands
abbrev pub stepped_tree : Stepped → Step
stepped_tree (postfix n p) = One
stepped_tree (prefix p n) = One
stepped_tree (compound n p e) = By p (expr_tree e)

-- the sign of a bound, which is inclusive or not
abbrev pub bound_sign : Bool → CompareSign
bound_sign true = LessEq
bound_sign false = Less

abbrev pub int_text : Option ℕ → List Tok
int_text None = []
int_text (Some p) = (word.Int, p) ∷ []

-- "for" "(" [ "int" ] name "=" expr ";" name ( "<" | "<=" ) expr ";" step ")"
pub data Header : Type 0 where
  header : ℕ → ℕ → Option ℕ → Name → ℕ → Expr → ℕ → Name → Bool → ℕ → Expr → ℕ → Stepped → ℕ
      → Header

abbrev pub header_text : Header → List Tok
header_text (header p q int n r first s second inclusive t bound u step v) =
    (word.For, p) ∷ (word.Open, q) ∷ (int_text int ++ name_token n ∷ (word.Assign, r) ∷
    (expr_text first ++ (word.Semi, s) ∷ name_token second
    ∷ (word.Compare (bound_sign inclusive), t) ∷
    (expr_text bound ++ (word.Semi, u) ∷ (stepped_text step ++ (word.Close, v) ∷ []))))

-- statement = for | if | assign | block
-- for = header statement
-- if = guard statement | guard block "else" statement
-- assign = access "=" expr ";"
-- block = "{" { statement } "}"
mutual
  pub data Statement : Type 0 where
    loop : Header → Statement → Statement
    guarded : Guard → Statement → Statement
    alternative : Guard → Block → ℕ → Statement → Statement
    assign : Access → ℕ → Expr → ℕ → Statement
    block : Block → Statement

  pub data Block : Type 0 where
    braces : ℕ → Statements → ℕ → Block

  pub data Statements : Type 0 where
    no_statement : Statements
    and_statement : Statements → Statement → Statements

abbrev mutual
  pub statement_text : Statement → List Tok
  statement_text (loop h s) = header_text h ++ statement_text s
  statement_text (guarded g s) = guard_text g ++ statement_text s
  statement_text (alternative g b p s) =
      guard_text g ++ (block_text b ++ (word.Else, p) ∷ statement_text s)
  statement_text (assign a p e q) =
      access_text a ++ (word.Assign, p) ∷ (expr_text e ++ (word.Semi, q) ∷ [])
  statement_text (block b) = block_text b

  pub block_text : Block → List Tok
  block_text (braces p ss q) =
      (word.OpenCurly, p) ∷ (statements_text ss ++ (word.CloseCurly, q) ∷ [])

  pub statements_text : Statements → List Tok
  statements_text no_statement = []
  statements_text (and_statement ss s) = statements_text ss ++ statement_text s

-- the tree keeps no `int`
abbrev pub loop_part : Header → Part → Part
loop_part (header p q int n r first s second inclusive t bound u step v) body =
    part.For n (expr_tree first) second inclusive (expr_tree bound) (stepped_name step)
    (stepped_tree step) body

abbrev mutual
  pub statement_tree : Statement → Part
  statement_tree (loop h s) = loop_part h (statement_tree s)
  statement_tree (guarded g s) = part.If (guard_tree g) (statement_tree s) None
  statement_tree (alternative g b p s) =
      part.If (guard_tree g) (part.Block (block_parts b))
      (Some (record { token = p; body = statement_tree s }))
  statement_tree (assign a p e q) = part.Assign (accessed a) (subscripts a) (expr_tree e)
  statement_tree (block b) = part.Block (block_parts b)

  pub block_parts : Block → List Part
  block_parts (braces p ss q) = statement_trees ss

  pub statement_trees : Statements → List Part
  statement_trees no_statement = []
  statement_trees (and_statement ss s) = statement_trees ss ++ statement_tree s ∷ []

-- ---- declarations

pub data ArrayWord : Type 0 where
  input : ArrayWord
  output : ArrayWord
  both : ArrayWord
  var : ArrayWord

abbrev pub array_word : ArrayWord → DeclWord
array_word input = Input
array_word output = Output
array_word both = Both
array_word var = Var

-- declaration = "param" name { "," name } ";" | ( "in" | "out" | "inout" | "var" ) array { "," array } ";"
-- array = name { "[" expr "]" }, as an access
pub data Declared : Type 0 where
  parameters : ℕ → Separated Name → ℕ → Declared
  arrays : ArrayWord → ℕ → Separated Access → ℕ → Declared

abbrev pub parameter_text : Name → List Tok
parameter_text n = name_token n ∷ []

abbrev pub declared_text : Declared → List Tok
declared_text (parameters p ns q) =
    (word.Declare Param, p) ∷ (separated_text word.Comma parameter_text ns ++ (word.Semi, q) ∷ [])
declared_text (arrays w p declared q) =
    (word.Declare (array_word w), p)
    ∷ (separated_text word.Comma access_text declared ++ (word.Semi, q) ∷ [])

abbrev pub parameter : Name → Named
parameter n = record { name = n; extents = [] }

abbrev pub array : Access → Named
array a = record { name = accessed a; extents = subscripts a }

abbrev pub declared_tree : Declared → Declaration
declared_tree (parameters p ns q) = record { word = Param; names = separated_list parameter ns }
declared_tree (arrays w p declared q) =
    record { word = array_word w; names = separated_list array declared }

-- ---- programs

pub data Declarations : Type 0 where
  none_declared : Declarations
  also_declared : Declarations → Declared → Declarations

abbrev pub declarations_text : Declarations → List Tok
declarations_text none_declared = []
declarations_text (also_declared ds d) = declarations_text ds ++ declared_text d

abbrev pub declaration_trees : Declarations → List Declaration
declaration_trees none_declared = []
declaration_trees (also_declared ds d) = declaration_trees ds ++ declared_tree d ∷ []

-- program = { declaration } { statement }
pub data Program : Type 0 where
  program : Declarations → Statements → Program

abbrev pub program_text : Program → List Tok
program_text (program ds ss) = declarations_text ds ++ statements_text ss

abbrev pub program_tree : Program → Tree
program_tree (program ds ss) =
    record { declarations = declaration_trees ds; parts = statement_trees ss }

-- ---- tokens

-- the tokens derive with this tree
abbrev pub Derives : List Tok → Tree → Type 0
Derives tokens tree = (p : Program) × (program_text p ≡ tokens) × (program_tree p ≡ tree)

-- some sentence goes on from these tokens
abbrev pub IsViable : List Tok → Type 0
IsViable tokens = (rest : List Tok) × (p : Program) × (program_text p ≡ tokens ++ rest)

-- token number k is the first that no sentence has after the tokens before it, or k is the number of tokens
pub record Stops (tokens : List Tok) (k : ℕ) : Type 0 where
  pub within : k ≤ length tokens
  pub before : IsViable (take k tokens)
  pub there : k < length tokens → IsViable (take (suc k) tokens) → ⊥
  pub at_end : k ≡ length tokens → (tree : Tree) → Derives tokens tree → ⊥
