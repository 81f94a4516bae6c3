-- Any source that was begun can be completed.
--
-- From each state some tokens lead to one in which the machine ends with a tree. Where a statement is awaited an empty
-- block completes all that waits for one, and then a `}` ends each open block, by induction on what encloses
-- (`settled_closes`). Every other state is a step or an expression away from one that is known to close: each place in
-- a `for`, an `if`, an assignment or a declaration is taken after those that follow it. An open expression is first
-- completed by itself (`ExpressionSound`), and a token that ends it fills the place that it stands in
-- (`within_closes`). The tokens found needn't be the fewest.
use Rattle.std.proofs.Common.{◌≡◌, ℕ, Bool, true, false, List, [], ◌∷◌, ◌++◌, refl, ap, ◌∙◌, Some, None}
use Rattle.loop_grammar.specs.declared.lexeme.Lexeme.{Lexeme}
use Rattle.loop_grammar.specs.declared.lexeme.Lexeme.TheVariants as word
use Rattle.loop_grammar.specs.declared.tree.CompareSign.{CompareSign}
use Rattle.loop_grammar.specs.declared.tree.CompareSign.TheVariants.{Less}
use Rattle.loop_grammar.specs.declared.tree.Comparison.{Comparison}
use Rattle.loop_grammar.specs.declared.tree.DeclWord.{DeclWord}
use Rattle.loop_grammar.specs.declared.tree.Declaration.{Declaration}
use Rattle.loop_grammar.specs.declared.tree.DeclWord.TheVariants.{Param}
use Rattle.loop_grammar.specs.declared.tree.Name.{Name}
use Rattle.loop_grammar.specs.declared.tree.Named.{Named}
use Rattle.loop_grammar.specs.declared.tree.Operand.{Operand}
use Rattle.loop_grammar.specs.declared.tree.Part.{Part}
use Rattle.loop_grammar.specs.declared.tree.Part as part
use Rattle.loop_grammar.specs.declared.tree.Step.{Step}
use Rattle.loop_grammar.specs.declared.tree.Step.TheVariants.{One, By}
use Rattle.loop_grammar.specs.declared.tree.Tree.{Tree}
use Rattle.loop_parse.specs.declared.place.Bounds.{Bounds}
use Rattle.loop_parse.specs.declared.place.Enclosing.{Enclosing}
use Rattle.loop_parse.specs.declared.place.Enclosing.TheVariants as enclosing
use Rattle.loop_parse.specs.declared.place.ForPlace.{ForPlace}
use Rattle.loop_parse.specs.declared.place.ForPlace.TheVariants as for_place
use Rattle.loop_parse.specs.declared.place.DeclarePlace.{DeclarePlace}
use Rattle.loop_parse.specs.declared.place.DeclarePlace.TheVariants as declare
use Rattle.loop_parse.specs.declared.place.Slot.{Slot}
use Rattle.loop_parse.specs.declared.place.Slot.TheVariants as slot
use Rattle.loop_parse.specs.declared.place.Place.TheVariants as place
use Rattle.loop_parse.specs.declared.place.Nesting.{Nesting}
use Rattle.loop_grammar.specs.Grammar.{Tok}
use Rattle.loop_parse.specs.ExpressionMachine as expression
use Rattle.loop_parse.specs.SourceMachine.{at, within, State, begun, at_for, name_of, enclosed, for_part}
use Rattle.loop_parse.specs.SourceMachine.{settled, at_declare, declared, named_of, comparison_of}
use Rattle.loop_parse.specs.SourceMachine.{ends_expression, fill, feed, finish, start, fed}
use Rattle.loop_parse.proofs.MachineSteps.{fed_append, some_is}
use Rattle.loop_parse.proofs.ExpressionSound as expressions
use Rattle.loop_parse.proofs.SourceComplete.{fed_within, ends_within}

pub record Closes (s : State) : Type 0 where
  pub rest : List Tok
  pub last : State
  pub tree : Tree
  pub read : fed (Some s) rest ≡ Some last
  pub finishes : finish last ≡ Some tree

step_closes : (s : State) (t : Tok) (next : State) → feed s t ≡ Some next → Closes next → Closes s
step_closes s t next step c =
    record { rest = t ∷ c.rest; last = c.last; tree = c.tree; read = rw step c.read; finishes = c.finishes }

-- ---- after a statement

-- a `}` for each block that is open
curlies : List Enclosing → List Tok
curlies [] = []
curlies (enclosing.Block outer ∷ k) = (word.CloseCurly, 0) ∷ curlies k
curlies (enclosing.For b third step ∷ k) = curlies k
curlies (enclosing.If cond ∷ k) = curlies k
curlies (enclosing.Else cond ps p ∷ k) = curlies k

abbrev pub ClosesBy : State → List Tok → Type 0
ClosesBy s rest = (last : State) × (tree : Tree) × (fed (Some s) rest ≡ Some last) × (finish last ≡ Some tree)

-- a block ends as the statement that it is
as_statement : (k : List Enclosing) (m : Nesting) (ps : List Part)
    → ClosesBy (settled m (part.Block ps), at place.Statement) (curlies k)
    → ClosesBy (m, at (place.AfterBlock ps)) (curlies k)
unfolding curlies
as_statement [] m ps h = (
  (m, at (place.AfterBlock ps)),
  h.1,
  refl,
  ap finish (some_is (settled m (part.Block ps), at place.Statement) h.0 h.2) ∙ h.3,
)
as_statement (enclosing.Block outer ∷ k) m ps h = h
as_statement (enclosing.For b third step ∷ k) m ps h = as_statement k m ps h
as_statement (enclosing.If cond ∷ k) m ps h = as_statement k m ps h
as_statement (enclosing.Else cond block p ∷ k) m ps h = as_statement k m ps h

settled_closes : (d : List Declaration) (k : List Enclosing) (parts : List Part) (v : Part)
    → ClosesBy (settled (record { declarations = d; enclosing = k; parts = parts }) v, at place.Statement) (curlies k)
unfolding curlies
settled_closes d [] parts v = (
  (record { declarations = d; enclosing = []; parts = parts ++ v ∷ [] }, at place.Statement),
  record { declarations = d; parts = parts ++ v ∷ [] },
  refl,
  refl,
)
settled_closes d (enclosing.Block outer ∷ k) parts v =
    as_statement k (record { declarations = d; enclosing = k; parts = outer }) (parts ++ v ∷ [])
    (settled_closes d k outer (part.Block (parts ++ v ∷ [])))
settled_closes d (enclosing.For b third step ∷ k) parts v = settled_closes d k parts (for_part b third step v)
settled_closes d (enclosing.If cond ∷ k) parts v = settled_closes d k parts (part.If cond v None)
settled_closes d (enclosing.Else cond ps p ∷ k) parts v =
    settled_closes d k parts (part.If cond (part.Block ps) (Some (record { token = p; body = v })))

block_closes : (m : Nesting) (ps : List Part) → Closes (m, at (place.AfterBlock ps))
block_closes m ps =
    let c = as_statement m.enclosing m ps (settled_closes m.declarations m.enclosing m.parts (part.Block ps)) in
    record { rest = curlies m.enclosing; last = c.0; tree = c.1; read = c.2; finishes = c.3 }

in_block : Nesting → Nesting
in_block m = record m { enclosing = enclosing.Block m.parts ∷ m.enclosing; parts = [] }

-- by an empty block
inner_closes : (m : Nesting) → Closes (in_block m, at place.Statement)
unfolding in_block
inner_closes m =
    step_closes (in_block m, at place.Statement) (word.CloseCurly, 0) (m, at (place.AfterBlock [])) refl
    (block_closes m [])

statement_closes : (m : Nesting) → Closes (m, at place.Statement)
unfolding in_block
statement_closes m =
    step_closes (m, at place.Statement) (word.OpenCurly, 0) (in_block m, at place.Statement) refl (inner_closes m)

declaration_closes : (m : Nesting) → Closes (m, at place.Declaration)
unfolding in_block
declaration_closes m =
    step_closes (m, at place.Declaration) (word.OpenCurly, 0) (in_block m, at place.Statement) refl (inner_closes m)

-- ---- in an expression, by a token after it

abbrev pub Fills : Nesting → Slot → Lexeme → Type 0
Fills m s w = (v : Operand) → (next : State) × (fill m s v (w, 0) ≡ Some next) × Closes next

within_closes : (m : Nesting) (s : Slot) (w : Lexeme) → ends_expression w ≡ true → Fills m s w → (x : expression.State)
    → Closes (m, within s x)
within_closes m s w ending fills x =
    let c : expressions.Closes x = expressions.closes x in
    let n = fills c.value in
    let after : Closes n.0 = n.2 in
    record {
      rest = c.rest ++ (w, 0) ∷ after.rest;
      last = after.last;
      tree = after.tree;
      read = fed_append feed (Some (m, within s x)) c.rest ((w, 0) ∷ after.rest)
          ∙ ap (λ o. fed o ((w, 0) ∷ after.rest)) (fed_within m s x c.rest c.last c.read)
          ∙ ap (λ o. fed o after.rest) (ends_within m s c.last c.value w 0 c.outside c.finishes ending ∙ n.1)
          ∙ after.read;
      finishes = after.finishes;
    }

-- ---- in the brackets of a `for`, from their end backwards

close_closes : (m : Nesting) (b : Bounds) (third : Name) → Closes (m, at_for (for_place.Close b third))
close_closes m b third =
    step_closes (m, at_for (for_place.Close b third)) (word.Close, 0)
    (enclosed m (enclosing.For b third One), at place.Statement) refl
    (statement_closes (enclosed m (enclosing.For b third One)))

sign_closes : (m : Nesting) (b : Bounds) (third : Name) → Closes (m, at_for (for_place.StepSign b third))
sign_closes m b third =
    step_closes (m, at_for (for_place.StepSign b third)) (word.Increment, 0) (m, at_for (for_place.Close b third)) refl
    (close_closes m b third)

third_closes : (m : Nesting) (b : Bounds) → Closes (m, at_for (for_place.Third b))
third_closes m b =
    step_closes (m, at_for (for_place.Third b)) (word.Name [], 0) (m, at_for (for_place.Close b (name_of [] 0))) refl
    (close_closes m b (name_of [] 0))

for_step_closes : (m : Nesting) (b : Bounds) → Closes (m, at_for (for_place.Step b))
for_step_closes m b =
    step_closes (m, at_for (for_place.Step b)) (word.Increment, 0) (m, at_for (for_place.Third b)) refl
    (third_closes m b)

bound_fills : (m : Nesting) (n : Name) (first : Operand) (second : Name) (inclusive : Bool)
    → Fills m (slot.Bound n first second inclusive) word.Semi
bound_fills m n first second inclusive =
    λ v. (
      (
        m,
        at_for (for_place.Step (record {
          name = n;
          first = first;
          second = second;
          inclusive = inclusive;
          bound =
              v;
        })),
      ),
      refl,
      for_step_closes m (record { name = n; first = first; second = second; inclusive = inclusive; bound = v }),
    )

bound_closes : (m : Nesting) (n : Name) (first : Operand) (second : Name) (inclusive : Bool) (x : expression.State)
    → Closes (m, within (slot.Bound n first second inclusive) x)
bound_closes m n first second inclusive x =
    within_closes m (slot.Bound n first second inclusive) word.Semi refl (bound_fills m n first second inclusive) x

compare_closes : (m : Nesting) (n : Name) (first : Operand) (second : Name)
    → Closes (m, at_for (for_place.Compare n first second))
compare_closes m n first second =
    step_closes (m, at_for (for_place.Compare n first second)) (word.Compare Less, 0)
    (m, begun (slot.Bound n first second false)) refl (bound_closes m n first second false expression.start)

second_closes : (m : Nesting) (n : Name) (first : Operand) → Closes (m, at_for (for_place.Second n first))
second_closes m n first =
    step_closes (m, at_for (for_place.Second n first)) (word.Name [], 0)
    (m, at_for (for_place.Compare n first (name_of [] 0))) refl (compare_closes m n first (name_of [] 0))

first_fills : (m : Nesting) (n : Name) → Fills m (slot.First n) word.Semi
first_fills m n = λ v. ((m, at_for (for_place.Second n v)), refl, second_closes m n v)

first_closes : (m : Nesting) (n : Name) (x : expression.State) → Closes (m, within (slot.First n) x)
first_closes m n x = within_closes m (slot.First n) word.Semi refl (first_fills m n) x

assign_closes : (m : Nesting) (n : Name) → Closes (m, at_for (for_place.Assign n))
assign_closes m n =
    step_closes (m, at_for (for_place.Assign n)) (word.Assign, 0) (m, begun (slot.First n)) refl
    (first_closes m n expression.start)

int_closes : (m : Nesting) → Closes (m, at_for for_place.Int)
int_closes m =
    step_closes (m, at_for for_place.Int) (word.Name [], 0) (m, at_for (for_place.Assign (name_of [] 0))) refl
    (assign_closes m (name_of [] 0))

for_closes : (m : Nesting) (p : ForPlace) → Closes (m, at_for p)
for_closes m for_place.Open =
    step_closes (m, at_for for_place.Open) (word.Open, 0) (m, at_for for_place.Int) refl (int_closes m)
for_closes m for_place.Int = int_closes m
for_closes m for_place.Name =
    step_closes (m, at_for for_place.Name) (word.Name [], 0) (m, at_for (for_place.Assign (name_of [] 0))) refl
    (assign_closes m (name_of [] 0))
for_closes m (for_place.Assign n) = assign_closes m n
for_closes m (for_place.Second n first) = second_closes m n first
for_closes m (for_place.Compare n first second) = compare_closes m n first second
for_closes m (for_place.Step b) = for_step_closes m b
for_closes m (for_place.StepSign b third) = sign_closes m b third
for_closes m (for_place.Third b) = third_closes m b
for_closes m (for_place.Close b third) = close_closes m b third

step_fills : (m : Nesting) (b : Bounds) (third : Name) (token : ℕ) → Fills m (slot.Step b third token) word.Close
step_fills m b third token =
    λ v. (
      (enclosed m (enclosing.For b third (By token v)), at place.Statement),
      refl,
      statement_closes (enclosed m (enclosing.For b third (By token v))),
    )

-- ---- in an `if`, an assignment and a declaration

right_fills : (m : Nesting) (cond : List Comparison) (left : Operand) (sign : CompareSign) (token : ℕ)
    → Fills m (slot.Right cond left sign token) word.Close
right_fills m cond left sign token =
    λ v. (
      (enclosed m (enclosing.If (cond ++ comparison_of left sign token v ∷ [])), at place.Statement),
      refl,
      statement_closes (enclosed m (enclosing.If (cond ++ comparison_of left sign token v ∷ []))),
    )

right_closes : (m : Nesting) (cond : List Comparison) (left : Operand) (sign : CompareSign) (token : ℕ)
    (x : expression.State) → Closes (m, within (slot.Right cond left sign token) x)
right_closes m cond left sign token x =
    within_closes m (slot.Right cond left sign token) word.Close refl (right_fills m cond left sign token) x

left_fills : (m : Nesting) (cond : List Comparison) → Fills m (slot.Left cond) (word.Compare Less)
left_fills m cond = λ v. ((m, begun (slot.Right cond v Less 0)), refl, right_closes m cond v Less 0 expression.start)

left_closes : (m : Nesting) (cond : List Comparison) (x : expression.State) → Closes (m, within (slot.Left cond) x)
left_closes m cond x = within_closes m (slot.Left cond) (word.Compare Less) refl (left_fills m cond) x

assigned_fills : (m : Nesting) (n : Name) (list : List Operand) → Fills m (slot.Assigned n list) word.Semi
assigned_fills m n list =
    λ v. (
      (settled m (part.Assign n list v), at place.Statement),
      refl,
      statement_closes (settled m (part.Assign n list v)),
    )

assigned_closes : (m : Nesting) (n : Name) (list : List Operand) (x : expression.State)
    → Closes (m, within (slot.Assigned n list) x)
assigned_closes m n list x = within_closes m (slot.Assigned n list) word.Semi refl (assigned_fills m n list) x

target_closes : (m : Nesting) (n : Name) (list : List Operand) → Closes (m, at (place.Target n list))
target_closes m n list =
    step_closes (m, at (place.Target n list)) (word.Assign, 0) (m, begun (slot.Assigned n list)) refl
    (assigned_closes m n list expression.start)

subscript_fills : (m : Nesting) (n : Name) (list : List Operand) → Fills m (slot.Subscript n list) word.CloseSquare
subscript_fills m n list = λ v. ((m, at (place.Target n (list ++ v ∷ []))), refl, target_closes m n (list ++ v ∷ []))

parameters_close : (m : Nesting) (names : List Named) → Closes (m, at_declare (declare.AfterParameter names))
parameters_close m names =
    step_closes (m, at_declare (declare.AfterParameter names)) (word.Semi, 0) (declared m Param names) refl
    (declaration_closes (declared m Param names).0)

array_closes : (m : Nesting) (w : DeclWord) (names : List Named) (n : Name) (list : List Operand)
    → Closes (m, at_declare (declare.AfterArray w names n list))
array_closes m w names n list =
    step_closes (m, at_declare (declare.AfterArray w names n list)) (word.Semi, 0)
    (declared m w (names ++ named_of n list ∷ [])) refl
    (declaration_closes (declared m w (names ++ named_of n list ∷ [])).0)

declare_closes : (m : Nesting) (p : DeclarePlace) → Closes (m, at_declare p)
declare_closes m (declare.Parameter names) =
    step_closes (m, at_declare (declare.Parameter names)) (word.Name [], 0)
    (m, at_declare (declare.AfterParameter (names ++ named_of (name_of [] 0) [] ∷ []))) refl
    (parameters_close m (names ++ named_of (name_of [] 0) [] ∷ []))
declare_closes m (declare.AfterParameter names) = parameters_close m names
declare_closes m (declare.Array w names) =
    step_closes (m, at_declare (declare.Array w names)) (word.Name [], 0)
    (m, at_declare (declare.AfterArray w names (name_of [] 0) [])) refl (array_closes m w names (name_of [] 0) [])
declare_closes m (declare.AfterArray w names n list) = array_closes m w names n list

extent_fills : (m : Nesting) (w : DeclWord) (names : List Named) (n : Name) (list : List Operand)
    → Fills m (slot.Extent w names n list) word.CloseSquare
extent_fills m w names n list =
    λ v. (
      (m, at_declare (declare.AfterArray w names n (list ++ v ∷ []))),
      refl,
      array_closes m w names n (list ++ v ∷ []),
    )

slot_closes : (m : Nesting) (s : Slot) (x : expression.State) → Closes (m, within s x)
slot_closes m (slot.Extent w names n list) x =
    within_closes m (slot.Extent w names n list) word.CloseSquare refl (extent_fills m w names n list) x
slot_closes m (slot.First n) x = first_closes m n x
slot_closes m (slot.Bound n first second inclusive) x = bound_closes m n first second inclusive x
slot_closes m (slot.Step b third token) x =
    within_closes m (slot.Step b third token) word.Close refl (step_fills m b third token) x
slot_closes m (slot.Left cond) x = left_closes m cond x
slot_closes m (slot.Right cond left sign token) x = right_closes m cond left sign token x
slot_closes m (slot.Subscript n list) x =
    within_closes m (slot.Subscript n list) word.CloseSquare refl (subscript_fills m n list) x
slot_closes m (slot.Assigned n list) x = assigned_closes m n list x

pub closes : (s : State) → Closes s
closes (m, at place.Declaration) = declaration_closes m
closes (m, at (place.Declaring p)) = declare_closes m p
closes (m, at place.Statement) = statement_closes m
closes (m, at (place.AfterBlock ps)) = block_closes m ps
closes (m, at (place.For p)) = for_closes m p
closes (m, at place.If) =
    step_closes (m, at place.If) (word.Open, 0) (m, begun (slot.Left [])) refl (left_closes m [] expression.start)
closes (m, at (place.Target n list)) = target_closes m n list
closes (m, within s x) = slot_closes m s x
