-- Every source is read, with its tree.
--
-- By induction on the derivation: where a statement is awaited, feeding its tokens leads to the state behind it,
-- whatever stands round it and whatever follows. After a block the machine doesn't know yet whether an `else` comes; on
-- any other token that may follow, the state acts as one in which the statement is settled (`statement_settles`), and
-- each statement begins with such a token (`Begins`). So a list of statements is read one after another. Inside an
-- expression the source's machine follows that of expressions until a token that ends it, which no expression takes
-- outside brackets (`refuses_end`). That nothing else is read is shown in `SourceSound`.
use Rattle.std.proofs.Common.{◌≡◌, ℕ, Bool, true, false, List, [], ◌∷◌, ◌++◌, refl, sym, ap, ◌∙◌, append_assoc, Option}
use Rattle.std.proofs.Common.{Some, None}
use Rattle.std.proofs.lemmas.List.{append-nil}
use Rattle.loop_grammar.specs.declared.lexeme.Lexeme.{Lexeme}
use Rattle.loop_grammar.specs.declared.lexeme.Lexeme.TheVariants as word
use Rattle.loop_grammar.specs.declared.tree.DeclWord.{DeclWord}
use Rattle.loop_grammar.specs.declared.tree.Declaration.{Declaration}
use Rattle.loop_grammar.specs.declared.tree.Name.{Name}
use Rattle.loop_grammar.specs.declared.tree.Named.{Named}
use Rattle.loop_grammar.specs.declared.tree.Operand.{Operand}
use Rattle.loop_grammar.specs.declared.tree.Part.{Part}
use Rattle.loop_grammar.specs.declared.tree.Part as part
use Rattle.loop_grammar.specs.declared.tree.Step.{Step}
use Rattle.loop_parse.specs.declared.place.Bounds.{Bounds}
use Rattle.loop_parse.specs.declared.place.Enclosing.{Enclosing}
use Rattle.loop_parse.specs.declared.place.Enclosing.TheVariants as enclosing
use Rattle.loop_parse.specs.declared.place.ForPlace.TheVariants as for_place
use Rattle.loop_parse.specs.declared.place.DeclarePlace.{DeclarePlace}
use Rattle.loop_parse.specs.declared.place.DeclarePlace.TheVariants as declare
use Rattle.loop_parse.specs.declared.place.Slot.{Slot}
use Rattle.loop_parse.specs.declared.place.Slot.TheVariants as slot
use Rattle.loop_parse.specs.declared.place.Place.TheVariants as place
use Rattle.loop_parse.specs.declared.place.Nesting.{Nesting}
use Rattle.loop_parse.specs.declared.expression.Reading.TheVariants as reading
use Rattle.loop_grammar.specs.Grammar.{Tok, Expr, Access, name, subscript, access_text, accessed, subscripts, expr_text}
use Rattle.loop_grammar.specs.Grammar.{expr_tree, name_token, Separated, single, more, separated_text, separated_list}
use Rattle.loop_grammar.specs.Grammar.{Compared, compared, compared_text, compared_tree, Guard, guard, guard_text}
use Rattle.loop_grammar.specs.Grammar.{guard_tree, Stepped, postfix, prefix, compound, stepped_text, stepped_name}
use Rattle.loop_grammar.specs.Grammar.{stepped_tree, bound_sign, int_text, Header, header, header_text, Statement, loop}
use Rattle.loop_grammar.specs.Grammar.{guarded, alternative, assign, block, Block, braces, Statements, no_statement}
use Rattle.loop_grammar.specs.Grammar.{and_statement, statement_text, block_text, statements_text, loop_part}
use Rattle.loop_grammar.specs.Grammar.{statement_tree, block_parts, statement_trees, ArrayWord, input, output, both}
use Rattle.loop_grammar.specs.Grammar.{var, array_word, Declared, parameters, arrays, parameter_text, declared_text}
use Rattle.loop_grammar.specs.Grammar.{parameter, array, declared_tree, Declarations, none_declared, also_declared}
use Rattle.loop_grammar.specs.Grammar.{declarations_text, declaration_trees, Program, program, program_text}
use Rattle.loop_grammar.specs.Grammar.{program_tree}
use Rattle.loop_parse.specs.ExpressionMachine as expression
use Rattle.loop_parse.specs.Feeding.{fed_by}
use Rattle.loop_parse.specs.SourceMachine.{at, within, State, begun, at_for, enclosed}
use Rattle.loop_parse.specs.SourceMachine.{feed_statement, settled, feed_after_block}
use Rattle.loop_parse.specs.SourceMachine.{at_declare, declared, declare_place}
use Rattle.loop_parse.specs.SourceMachine.{feed_comparison, fill, ends_expression, feed_within}
use Rattle.loop_parse.specs.SourceMachine.{feed, finish, start, fed}
use Rattle.loop_parse.proofs.MachineSteps.{fed_append, fed_none, some_is, none_is}
use Rattle.loop_parse.proofs.ExpressionComplete.{behind, expr_finishes, expr_outside, whole_expr}

-- ---- expressions in a source

-- outside its brackets no expression takes a token that may end it
refuses_end : (s : expression.State) (w : Lexeme) (p : ℕ) → expression.has_no_bracket s ≡ true
    → ends_expression w ≡ true → expression.feed s (w, p) ≡ None
refuses_end (f ∷ k, r) w p outside ends = absurd cc
refuses_end ([], reading.Factor level) w p outside ends = by_factor w ends
  where
    by_factor : (w : Lexeme) → ends_expression w ≡ true → expression.feed_factor [] level (w, p) ≡ None
    by_factor word.Semi ends = refl
    by_factor (word.Compare s) ends = refl
    by_factor word.And ends = refl
    by_factor word.Close ends = refl
    by_factor word.CloseSquare ends = refl
    by_factor _ ends = absurd cc
refuses_end ([], reading.Arguments level c q) w p outside ends = by_arguments w ends
  where
    by_arguments : (w : Lexeme) → ends_expression w ≡ true → expression.feed_arguments [] level c q (w, p) ≡ None
    by_arguments word.Semi ends = refl
    by_arguments (word.Compare s) ends = refl
    by_arguments word.And ends = refl
    by_arguments word.Close ends = refl
    by_arguments word.CloseSquare ends = refl
    by_arguments _ ends = absurd cc
refuses_end ([], reading.Access level n list) w p outside ends = by_access w ends
  where
    by_access : (w : Lexeme) → ends_expression w ≡ true → expression.feed_access [] level n list (w, p) ≡ None
    by_access word.Semi ends = refl
    by_access (word.Compare s) ends = refl
    by_access word.And ends = refl
    by_access word.Close ends = refl
    by_access word.CloseSquare ends = refl
    by_access _ ends = absurd cc
refuses_end ([], reading.Term s v) w p outside ends = by_term w ends
  where
    by_term : (w : Lexeme) → ends_expression w ≡ true → expression.feed_term [] s v (w, p) ≡ None
    by_term word.Semi ends = refl
    by_term (word.Compare c) ends = refl
    by_term word.And ends = refl
    by_term word.Close ends = refl
    by_term word.CloseSquare ends = refl
    by_term _ ends = absurd cc

-- a token that the expression takes is none that ends it
stays_within : (n : Nesting) (s : Slot) (e : expression.State) (t : Tok) (next : expression.State)
    → expression.feed e t ≡ Some next → feed (n, within s e) t ≡ Some (n, within s next)
stays_within n s e t next step = go (expression.has_no_bracket e) refl (ends_expression t.0) refl
  where
    go : (a : Bool) → expression.has_no_bracket e ≡ a → (b : Bool) → ends_expression t.0 ≡ b
        → feed_within n s e t ≡ Some (n, within s next)
    go true ea true eb = absurd (none_is next (sym (refuses_end e t.0 t.1 ea eb) ∙ step))
    go true ea false eb = rw (ea, eb, step) refl
    go false ea b eb = rw (ea, step) refl

pub fed_within : (n : Nesting) (s : Slot) (e : expression.State) (ts : List Tok) (last : expression.State)
    → expression.fed (Some e) ts ≡ Some last → fed (Some (n, within s e)) ts ≡ Some (n, within s last)
fed_within n s e [] last run = ap (λ (x : expression.State). Some (n, within s x)) (some_is e last run)
fed_within n s e (t ∷ ts) last run =
    go (expression.feed e t) refl run (λ mid more_run. fed_within n s mid ts last more_run)
  where
    go : (o : Option expression.State) → expression.feed e t ≡ o → fed_by expression.feed o ts ≡ Some last
        → ((mid : expression.State) → expression.fed (Some mid) ts ≡ Some last
        → fed (Some (n, within s mid)) ts ≡ Some (n, within s last))
        → fed (feed (n, within s e) t) ts ≡ Some (n, within s last)
    go None eo run ih = absurd (none_is last (sym (fed_none expression.feed ts) ∙ run))
    go (Some mid) eo run ih = ap (λ o. fed o ts) (stays_within n s e t mid eo) ∙ ih mid run

-- a token that ends an expression goes on with what the expression fills
pub ends_within : (n : Nesting) (s : Slot) (e : expression.State) (v : Operand) (w : Lexeme) (p : ℕ)
    → expression.has_no_bracket e ≡ true → expression.finish e ≡ Some v → ends_expression w ≡ true
    → feed (n, within s e) (w, p) ≡ fill n s v (w, p)
ends_within n s e v w p outside ends ending = rw (outside, ending, ends) refl

value_read : (n : Nesting) (s : Slot) (e : Expr) (w : Lexeme) (p : ℕ) (rest : List Tok) → ends_expression w ≡ true
    → fed (Some (n, begun s)) (expr_text e ++ (w, p) ∷ rest) ≡ fed (fill n s (expr_tree e) (w, p)) rest
value_read n s e w p rest ending =
    fed_append feed (Some (n, begun s)) (expr_text e) ((w, p) ∷ rest)
    ∙ ap (λ x. fed x ((w, p) ∷ rest)) (fed_within n s expression.start (expr_text e) (behind [] e) (whole_expr e))
    ∙ ap (λ x. fed x rest) (ends_within n s (behind [] e) (expr_tree e) w p (expr_outside e) (expr_finishes e) ending)

-- ---- the brackets of a `for` and of an `if`

abbrev pub bounds_of : Header → Bounds
bounds_of (header p q int n r first s second inclusive t bound u step v) =
    record { name = n; first = expr_tree first; second = second; inclusive = inclusive; bound = expr_tree bound }

abbrev pub third_of : Header → Name
third_of (header p q int n r first s second inclusive t bound u step v) = stepped_name step

abbrev pub step_of : Header → Step
step_of (header p q int n r first s second inclusive t bound u step v) = stepped_tree step

-- a `for` that waits for its body
abbrev pub for_of : Header → Enclosing
for_of h = enclosing.For (bounds_of h) (third_of h) (step_of h)

int_read : (m : Nesting) (int : Option ℕ) (n : Name) (rest : List Tok)
    → fed (Some (m, at_for for_place.Int)) (int_text int ++ name_token n ∷ rest)
    ≡ fed (Some (m, at_for (for_place.Assign n))) rest
int_read m None n rest = refl
int_read m (Some p) n rest = refl

bound_read : (m : Nesting) (n : Name) (first : Operand) (second : Name) (inclusive : Bool) (t : ℕ)
    → feed (m, at_for (for_place.Compare n first second)) (word.Compare (bound_sign inclusive), t)
    ≡ Some (m, begun (slot.Bound n first second inclusive))
bound_read m n first second true t = refl
bound_read m n first second false t = refl

step_read : (m : Nesting) (b : Bounds) (step : Stepped) (v : ℕ) (rest : List Tok)
    → fed (Some (m, at_for (for_place.Step b))) (stepped_text step ++ (word.Close, v) ∷ rest)
    ≡ fed (Some (enclosed m (enclosing.For b (stepped_name step) (stepped_tree step)), at place.Statement)) rest
step_read m b (postfix n p) v rest = refl
step_read m b (prefix p n) v rest = refl
step_read m b (compound n p e) v rest = value_read m (slot.Step b n p) e word.Close v rest refl

header_read : (h : Header) (m : Nesting) (rest : List Tok)
    → fed (Some (m, at place.Statement)) (header_text h ++ rest)
    ≡ fed (Some (enclosed m (for_of h), at place.Statement)) rest
header_read (header p q int n r first s second inclusive t bound u step v) m rest =
    let b : Bounds =
    record { name = n; first = expr_tree first; second = second; inclusive = inclusive; bound = expr_tree bound } in
    let tail : List Tok = stepped_text step ++ (word.Close, v) ∷ rest in
    let text : header_text (header p q int n r first s second inclusive t bound u step v) ++ rest
    ≡ (word.For, p) ∷ (word.Open, q) ∷
    (int_text int
    ++ name_token n ∷ (word.Assign, r) ∷
    (expr_text first
    ++ (word.Semi, s) ∷ name_token second ∷ (word.Compare (bound_sign inclusive), t) ∷
    (expr_text bound ++ (word.Semi, u) ∷ tail))) = simp append_assoc in
    ap (fed (Some (m, at place.Statement))) text
    ∙ int_read m int n
    ((word.Assign, r) ∷
    (expr_text first
    ++ (word.Semi, s) ∷ name_token second ∷ (word.Compare (bound_sign inclusive), t) ∷
    (expr_text bound ++ (word.Semi, u) ∷ tail)))
    ∙ value_read m (slot.First n) first word.Semi s
    (name_token second ∷ (word.Compare (bound_sign inclusive), t) ∷ (expr_text bound ++ (word.Semi, u) ∷ tail)) refl
    ∙ ap (λ x. fed x (expr_text bound ++ (word.Semi, u) ∷ tail)) (bound_read m n (expr_tree first) second inclusive t)
    ∙ value_read m (slot.Bound n (expr_tree first) second inclusive) bound word.Semi u tail refl
    ∙ step_read m b step v rest

-- comparisons end with a right side that waits for a token
cond_read : (xs : Separated Compared) (m : Nesting) (w : Lexeme) (p : ℕ) (rest : List Tok) → ends_expression w ≡ true
    → fed (Some (m, begun (slot.Left []))) (separated_text word.And compared_text xs ++ (w, p) ∷ rest)
    ≡ fed (feed_comparison m (separated_list compared_tree xs) w) rest
cond_read (single (compared a s q b)) m w p rest ends =
    ap (fed (Some (m, begun (slot.Left []))))
    (append_assoc (expr_text a) ((word.Compare s, q) ∷ expr_text b) ((w, p) ∷ rest))
    ∙ value_read m (slot.Left []) a (word.Compare s) q (expr_text b ++ (w, p) ∷ rest) refl
    ∙ value_read m (slot.Right [] (expr_tree a) s q) b w p rest ends
cond_read (more xs r (compared a s q b)) m w p rest ends =
    ap (fed (Some (m, begun (slot.Left []))))
    (append_assoc (separated_text word.And compared_text xs)
    ((word.And, r) ∷ (expr_text a ++ (word.Compare s, q) ∷ expr_text b)) ((w, p) ∷ rest)
    ∙ ap (λ (x : List Tok). separated_text word.And compared_text xs ++ (word.And, r) ∷ x)
    (append_assoc (expr_text a) ((word.Compare s, q) ∷ expr_text b) ((w, p) ∷ rest)))
    ∙ cond_read xs m word.And r (expr_text a ++ (word.Compare s, q) ∷ (expr_text b ++ (w, p) ∷ rest)) refl
    ∙ value_read m (slot.Left (separated_list compared_tree xs)) a (word.Compare s) q
    (expr_text b ++ (w, p) ∷ rest) refl
    ∙ value_read m (slot.Right (separated_list compared_tree xs) (expr_tree a) s q) b w p rest ends

guard_read : (g : Guard) (m : Nesting) (rest : List Tok)
    → fed (Some (m, at place.Statement)) (guard_text g ++ rest)
    ≡ fed (Some (enclosed m (enclosing.If (guard_tree g)), at place.Statement)) rest
guard_read (guard p q cond r) m rest =
    ap (fed (Some (m, begun (slot.Left []))))
    (append_assoc (separated_text word.And compared_text cond) ((word.Close, r) ∷ []) rest)
    ∙ cond_read cond m word.Close r rest refl

-- ---- statements

target_read : (a : Access) (m : Nesting) (rest : List Tok)
    → fed (Some (m, at place.Statement)) (access_text a ++ rest)
    ≡ fed (Some (m, at (place.Target (accessed a) (subscripts a)))) rest
target_read (name n) m rest = refl
target_read (subscript a p e q) m rest =
    ap (fed (Some (m, at place.Statement)))
    (append_assoc (access_text a) ((word.OpenSquare, p) ∷ (expr_text e ++ (word.CloseSquare, q) ∷ [])) rest
    ∙ ap (λ (x : List Tok). access_text a ++ (word.OpenSquare, p) ∷ x)
    (append_assoc (expr_text e) ((word.CloseSquare, q) ∷ []) rest))
    ∙ target_read a m ((word.OpenSquare, p) ∷ (expr_text e ++ (word.CloseSquare, q) ∷ rest))
    ∙ value_read m (slot.Subscript (accessed a) (subscripts a)) e word.CloseSquare q rest refl

-- the state after a statement
abbrev pub behind_statement : Nesting → Statement → State
behind_statement m (loop h s) = behind_statement (enclosed m (for_of h)) s
behind_statement m (guarded g s) = behind_statement (enclosed m (enclosing.If (guard_tree g))) s
behind_statement m (alternative g b p s) =
    behind_statement (enclosed m (enclosing.Else (guard_tree g) (block_parts b) p)) s
behind_statement m (assign a p e q) =
    (settled m (part.Assign (accessed a) (subscripts a) (expr_tree e)), at place.Statement)
behind_statement m (block b) = (m, at (place.AfterBlock (block_parts b)))

-- a token other than `else` and the words of declarations
abbrev pub Separates : Lexeme → Type 0
Separates word.Else = ⊥
Separates (word.Declare w) = ⊥
Separates _ = Unit {0}

block_settles : (m : Nesting) (ps : List Part) (w : Lexeme) (p : ℕ) → Separates w
    → feed_after_block m ps (w, p) ≡ feed_statement (settled m (part.Block ps)) (w, p)
block_settles m ps word.Else p ok = absurd ok
block_settles m ps _ p ok = refl

loop_settles : (h : Header) (m : Nesting) (v : Part) → settled (enclosed m (for_of h)) v ≡ settled m (loop_part h v)
loop_settles (header p q int n r first s second inclusive t bound u step v) m body = refl

statement_settles : (s : Statement) (m : Nesting) (w : Lexeme) (p : ℕ) → Separates w
    → feed (behind_statement m s) (w, p) ≡ feed_statement (settled m (statement_tree s)) (w, p)
statement_settles (loop h s) m w p ok =
    statement_settles s (enclosed m (for_of h)) w p ok
    ∙ ap (λ (x : Nesting). feed_statement x (w, p)) (loop_settles h m (statement_tree s))
statement_settles (guarded g s) m w p ok = statement_settles s (enclosed m (enclosing.If (guard_tree g))) w p ok
statement_settles (alternative g b q s) m w p ok =
    statement_settles s (enclosed m (enclosing.Else (guard_tree g) (block_parts b) q)) w p ok
statement_settles (assign a q e r) m w p ok = refl
statement_settles (block b) m w p ok = block_settles m (block_parts b) w p ok

statement_finishes : (s : Statement) (m : Nesting)
    → finish (behind_statement m s) ≡ finish (settled m (statement_tree s), at place.Statement)
statement_finishes (loop h s) m =
    statement_finishes s (enclosed m (for_of h))
    ∙ ap (λ (x : Nesting). finish (x, at place.Statement)) (loop_settles h m (statement_tree s))
statement_finishes (guarded g s) m = statement_finishes s (enclosed m (enclosing.If (guard_tree g)))
statement_finishes (alternative g b q s) m =
    statement_finishes s (enclosed m (enclosing.Else (guard_tree g) (block_parts b) q))
statement_finishes (assign a q e r) m = refl
statement_finishes (block b) m = refl

-- the first token of a statement
pub record Begins (text : List Tok) : Type 0 where
  pub lexeme : Lexeme
  pub token : ℕ
  pub tail : List Tok
  pub whole : text ≡ (lexeme, token) ∷ tail
  pub separates : Separates lexeme

begins_more : (text rest : List Tok) → Begins text → Begins (text ++ rest)
begins_more text rest b =
    record {
      lexeme = b.lexeme;
      token = b.token;
      tail = b.tail ++ rest;
      whole =
          ap (λ (x : List Tok). x ++ rest) b.whole;
      separates = b.separates;
    }

header_begins : (h : Header) → Begins (header_text h)
header_begins (header p q int n r first s second inclusive t bound u step v) =
    record {
      lexeme = word.For;
      token = p;
      tail = (word.Open, q)
          ∷ (int_text int ++ name_token n ∷ (word.Assign, r)
          ∷ (expr_text first ++ (word.Semi, s) ∷ name_token second ∷ (word.Compare (bound_sign inclusive), t)
          ∷ (expr_text bound ++ (word.Semi, u) ∷ (stepped_text step ++ (word.Close, v) ∷ []))));
      whole =
          refl;
      separates = tt;
    }

guard_begins : (g : Guard) → Begins (guard_text g)
guard_begins (guard p q cond r) =
    record {
      lexeme = word.If;
      token = p;
      tail = (word.Open, q)
          ∷ (separated_text word.And compared_text cond ++ (word.Close, r) ∷ []);
      whole = refl;
      separates = tt;
    }

access_begins : (a : Access) → Begins (access_text a)
access_begins (name n) = record { lexeme = word.Name n.text; token = n.token; tail = []; whole = refl; separates = tt }
access_begins (subscript a p e q) =
    begins_more (access_text a) ((word.OpenSquare, p) ∷ (expr_text e ++ (word.CloseSquare, q) ∷ [])) (access_begins a)

block_begins : (b : Block) → Begins (block_text b)
block_begins (braces p ss q) =
    record {
      lexeme = word.OpenCurly;
      token = p;
      tail = statements_text ss ++ (word.CloseCurly, q) ∷ [];
      whole =
          refl;
      separates = tt;
    }

statement_begins : (s : Statement) → Begins (statement_text s)
statement_begins (loop h s) = begins_more (header_text h) (statement_text s) (header_begins h)
statement_begins (guarded g s) = begins_more (guard_text g) (statement_text s) (guard_begins g)
statement_begins (alternative g b p s) =
    begins_more (guard_text g) (block_text b ++ (word.Else, p) ∷ statement_text s) (guard_begins g)
statement_begins (assign a p e q) =
    begins_more (access_text a) ((word.Assign, p) ∷ (expr_text e ++ (word.Semi, q) ∷ [])) (access_begins a)
statement_begins (block b) = block_begins b

-- two states that take the same first token go on alike
same_first : (x y : State) (text rest : List Tok) (b : Begins text)
    → feed x (b.lexeme, b.token) ≡ feed y (b.lexeme, b.token)
    → fed (Some x) (text ++ rest) ≡ fed (Some y) (text ++ rest)
same_first x y text rest b same = rw b.whole (ap (λ o. fed o (b.tail ++ rest)) same)

-- what stands open is a block, or the source itself
abbrev pub InList : List Enclosing → Type 0
InList [] = Unit {0}
InList (enclosing.Block outer ∷ k) = Unit {0}
InList (enclosing.For b n s ∷ k) = ⊥
InList (enclosing.If c ∷ k) = ⊥
InList (enclosing.Else c b p ∷ k) = ⊥

abbrev pub with_parts : Nesting → List Part → Nesting
with_parts m ps = record m { parts = ps }

list_settles : (d : List Declaration) (k : List Enclosing) (ps : List Part) (v : Part) → InList k
    → settled (record { declarations = d; enclosing = k; parts = ps }) v
    ≡ record { declarations = d; enclosing = k; parts = ps ++ v ∷ [] }
list_settles d [] ps v ok = refl
list_settles d (enclosing.Block outer ∷ k) ps v ok = refl
list_settles d (enclosing.For b n s ∷ k) ps v ok = absurd ok
list_settles d (enclosing.If c ∷ k) ps v ok = absurd ok
list_settles d (enclosing.Else c b p ∷ k) ps v ok = absurd ok

-- the state after statements of which the list is new
abbrev pub behind_statements : Nesting → Statements → State
behind_statements m no_statement = (with_parts m [], at place.Statement)
behind_statements m (and_statement ss s) = behind_statement (with_parts m (statement_trees ss)) s

statements_settle : (ss : Statements) (m : Nesting) (w : Lexeme) (p : ℕ) → InList m.enclosing → Separates w
    → feed (behind_statements m ss) (w, p) ≡ feed_statement (with_parts m (statement_trees ss)) (w, p)
statements_settle no_statement m w p ok separates = refl
statements_settle (and_statement ss s) m w p ok separates =
    statement_settles s (with_parts m (statement_trees ss)) w p separates
    ∙ ap (λ (x : Nesting). feed_statement x (w, p))
    (list_settles m.declarations m.enclosing (statement_trees ss) (statement_tree s) ok)

statements_finish : (ss : Statements) (m : Nesting) → InList m.enclosing
    → finish (behind_statements m ss) ≡ finish (with_parts m (statement_trees ss), at place.Statement)
statements_finish no_statement m ok = refl
statements_finish (and_statement ss s) m ok =
    statement_finishes s (with_parts m (statement_trees ss))
    ∙ ap (λ (x : Nesting). finish (x, at place.Statement))
    (list_settles m.declarations m.enclosing (statement_trees ss) (statement_tree s) ok)

abbrev pub in_block : Nesting → Nesting
in_block m = record m { enclosing = enclosing.Block m.parts ∷ m.enclosing; parts = [] }

mutual
  pub reads_statement : (s : Statement) (m : Nesting) (rest : List Tok)
      → fed (Some (m, at place.Statement)) (statement_text s ++ rest) ≡ fed (Some (behind_statement m s)) rest
  reads_statement (loop h s) m rest =
      ap (fed (Some (m, at place.Statement))) (append_assoc (header_text h) (statement_text s) rest)
      ∙ header_read h m (statement_text s ++ rest)
      ∙ reads_statement s (enclosed m (for_of h)) rest
  reads_statement (guarded g s) m rest =
      ap (fed (Some (m, at place.Statement))) (append_assoc (guard_text g) (statement_text s) rest)
      ∙ guard_read g m (statement_text s ++ rest)
      ∙ reads_statement s (enclosed m (enclosing.If (guard_tree g))) rest
  reads_statement (alternative g b p s) m rest =
      ap (fed (Some (m, at place.Statement)))
      (append_assoc (guard_text g) (block_text b ++ (word.Else, p) ∷ statement_text s) rest
      ∙ ap (λ (x : List Tok). guard_text g ++ x)
      (append_assoc (block_text b) ((word.Else, p) ∷ statement_text s) rest))
      ∙ guard_read g m (block_text b ++ (word.Else, p) ∷ (statement_text s ++ rest))
      ∙ reads_block b (enclosed m (enclosing.If (guard_tree g))) ((word.Else, p) ∷ (statement_text s ++ rest))
      ∙ reads_statement s (enclosed m (enclosing.Else (guard_tree g) (block_parts b) p)) rest
  reads_statement (assign a p e q) m rest =
      ap (fed (Some (m, at place.Statement)))
      (append_assoc (access_text a) ((word.Assign, p) ∷ (expr_text e ++ (word.Semi, q) ∷ [])) rest
      ∙ ap (λ (x : List Tok). access_text a ++ (word.Assign, p) ∷ x)
      (append_assoc (expr_text e) ((word.Semi, q) ∷ []) rest))
      ∙ target_read a m ((word.Assign, p) ∷ (expr_text e ++ (word.Semi, q) ∷ rest))
      ∙ value_read m (slot.Assigned (accessed a) (subscripts a)) e word.Semi q rest refl
  reads_statement (block b) m rest = reads_block b m rest

  pub reads_block : (b : Block) (m : Nesting) (rest : List Tok)
      → fed (Some (m, at place.Statement)) (block_text b ++ rest)
      ≡ fed (Some (m, at (place.AfterBlock (block_parts b)))) rest
  reads_block (braces p ss q) m rest =
      ap (fed (Some (in_block m, at place.Statement)))
      (append_assoc (statements_text ss) ((word.CloseCurly, q) ∷ []) rest)
      ∙ reads_statements ss (in_block m) ((word.CloseCurly, q) ∷ rest) tt
      ∙ ap (λ x. fed x rest) (statements_settle ss (in_block m) word.CloseCurly q tt tt)

  pub reads_statements : (ss : Statements) (m : Nesting) (rest : List Tok) → InList m.enclosing
      → fed (Some (with_parts m [], at place.Statement)) (statements_text ss ++ rest)
      ≡ fed (Some (behind_statements m ss)) rest
  reads_statements no_statement m rest ok = refl
  reads_statements (and_statement ss s) m rest ok =
      ap (fed (Some (with_parts m [], at place.Statement))) (append_assoc (statements_text ss) (statement_text s) rest)
      ∙ reads_statements ss m (statement_text s ++ rest) ok
      ∙ same_first (behind_statements m ss) (with_parts m (statement_trees ss), at place.Statement)
      (statement_text s) rest (statement_begins s)
      (statements_settle ss m (statement_begins s).lexeme (statement_begins s).token ok
      (statement_begins s).separates)
      ∙ reads_statement s (with_parts m (statement_trees ss)) rest

-- ---- declarations

array_place : (w : ArrayWord) → declare_place (array_word w) ≡ declare.Array (array_word w) []
array_place input = refl
array_place output = refl
array_place both = refl
array_place var = refl

array_read : (a : Access) (m : Nesting) (w : DeclWord) (names : List Named) (rest : List Tok)
    → fed (Some (m, at_declare (declare.Array w names))) (access_text a ++ rest)
    ≡ fed (Some (m, at_declare (declare.AfterArray w names (accessed a) (subscripts a)))) rest
array_read (name n) m w names rest = refl
array_read (subscript a p e q) m w names rest =
    ap (fed (Some (m, at_declare (declare.Array w names))))
    (append_assoc (access_text a) ((word.OpenSquare, p) ∷ (expr_text e ++ (word.CloseSquare, q) ∷ [])) rest
    ∙ ap (λ (x : List Tok). access_text a ++ (word.OpenSquare, p) ∷ x)
    (append_assoc (expr_text e) ((word.CloseSquare, q) ∷ []) rest))
    ∙ array_read a m w names ((word.OpenSquare, p) ∷ (expr_text e ++ (word.CloseSquare, q) ∷ rest))
    ∙ value_read m (slot.Extent w names (accessed a) (subscripts a)) e word.CloseSquare q rest refl

-- the last of the arrays, and those before it
abbrev pub last_array : Separated Access → Access
last_array (single a) = a
last_array (more xs p a) = a

abbrev pub first_arrays : Separated Access → List Named
first_arrays (single a) = []
first_arrays (more xs p a) = separated_list array xs

all_arrays : (xs : Separated Access) → first_arrays xs ++ array (last_array xs) ∷ [] ≡ separated_list array xs
all_arrays (single a) = refl
all_arrays (more xs p a) = refl

arrays_read : (xs : Separated Access) (m : Nesting) (w : DeclWord) (rest : List Tok)
    → fed (Some (m, at_declare (declare.Array w []))) (separated_text word.Comma access_text xs ++ rest)
    ≡ fed (Some (
      m,
      at_declare
          (declare.AfterArray w (first_arrays xs) (accessed (last_array xs)) (subscripts (last_array xs))),
    )) rest
arrays_read (single a) m w rest = array_read a m w [] rest
arrays_read (more xs p a) m w rest =
    ap (fed (Some (m, at_declare (declare.Array w []))))
    (append_assoc (separated_text word.Comma access_text xs) ((word.Comma, p) ∷ access_text a) rest)
    ∙ arrays_read xs m w ((word.Comma, p) ∷ (access_text a ++ rest))
    ∙ ap (λ (names : List Named). fed (Some (m, at_declare (declare.Array w names))) (access_text a ++ rest))
    (all_arrays xs)
    ∙ array_read a m w (separated_list array xs) rest

parameters_read : (ns : Separated Name) (m : Nesting) (rest : List Tok)
    → fed (Some (m, at_declare (declare.Parameter []))) (separated_text word.Comma parameter_text ns ++ rest)
    ≡ fed (Some (m, at_declare (declare.AfterParameter (separated_list parameter ns)))) rest
parameters_read (single n) m rest = refl
parameters_read (more ns p n) m rest =
    ap (fed (Some (m, at_declare (declare.Parameter []))))
    (append_assoc (separated_text word.Comma parameter_text ns) ((word.Comma, p) ∷ parameter_text n) rest)
    ∙ parameters_read ns m ((word.Comma, p) ∷ name_token n ∷ rest)

abbrev pub with_declarations : Nesting → List Declaration → Nesting
with_declarations m ds = record m { declarations = ds }

declared_read : (d : Declared) (m : Nesting) (rest : List Tok)
    → fed (Some (m, at place.Declaration)) (declared_text d ++ rest)
    ≡ fed (Some (with_declarations m (m.declarations ++ declared_tree d ∷ []), at place.Declaration)) rest
declared_read (parameters p ns q) m rest =
    ap (fed (Some (m, at_declare (declare.Parameter []))))
    (append_assoc (separated_text word.Comma parameter_text ns) ((word.Semi, q) ∷ []) rest)
    ∙ parameters_read ns m ((word.Semi, q) ∷ rest)
declared_read (arrays w p xs q) m rest =
    ap (λ (x : DeclarePlace).
    fed (Some (m, at_declare x)) ((separated_text word.Comma access_text xs ++ (word.Semi, q) ∷ []) ++ rest))
    (array_place w)
    ∙ ap (fed (Some (m, at_declare (declare.Array (array_word w) []))))
    (append_assoc (separated_text word.Comma access_text xs) ((word.Semi, q) ∷ []) rest)
    ∙ arrays_read xs m (array_word w) ((word.Semi, q) ∷ rest)
    ∙ ap (λ (names : List Named). fed (Some (declared m (array_word w) names)) rest) (all_arrays xs)

declarations_read : (ds : Declarations) (rest : List Tok)
    → fed (Some start) (declarations_text ds ++ rest)
    ≡ fed (Some (with_declarations start.0 (declaration_trees ds), at place.Declaration)) rest
declarations_read none_declared rest = refl
declarations_read (also_declared ds d) rest =
    ap (fed (Some start)) (append_assoc (declarations_text ds) (declared_text d) rest)
    ∙ declarations_read ds (declared_text d ++ rest)
    ∙ declared_read d (with_declarations start.0 (declaration_trees ds)) rest

-- ---- sources

declaration_settles : (m : Nesting) (w : Lexeme) (p : ℕ) → Separates w
    → feed (m, at place.Declaration) (w, p) ≡ feed (m, at place.Statement) (w, p)
declaration_settles m (word.Declare d) p ok = absurd ok
declaration_settles m _ p ok = refl

statements_begin : (ss : Statements) (s : Statement) → Begins (statements_text (and_statement ss s))
statements_begin no_statement s = statement_begins s
statements_begin (and_statement ss r) s =
    begins_more (statements_text (and_statement ss r)) (statement_text s) (statements_begin ss r)

-- the state after the declarations and the statements of a source
abbrev pub behind_program : Nesting → Statements → State
behind_program m no_statement = (m, at place.Declaration)
behind_program m (and_statement ss s) = behind_statements m (and_statement ss s)

program_statements : (ss : Statements) (d : List Declaration) (rest : List Tok)
    → fed (Some (with_declarations start.0 d, at place.Declaration)) (statements_text ss ++ rest)
    ≡ fed (Some (behind_program (with_declarations start.0 d) ss)) rest
program_statements no_statement d rest = refl
program_statements (and_statement ss s) d rest =
    let m : Nesting = with_declarations start.0 d in
    let b : Begins (statements_text (and_statement ss s)) = statements_begin ss s in
    same_first (m, at place.Declaration) (m, at place.Statement) (statements_text (and_statement ss s)) rest b
    (declaration_settles m b.lexeme b.token b.separates)
    ∙ reads_statements (and_statement ss s) m rest tt

-- the state after a whole source
abbrev pub behind_all : Program → State
behind_all (program ds ss) = behind_program (with_declarations start.0 (declaration_trees ds)) ss

pub whole_program : (p : Program) → fed (Some start) (program_text p) ≡ Some (behind_all p)
whole_program (program ds ss) =
    declarations_read ds (statements_text ss)
    ∙ ap (fed (Some (with_declarations start.0 (declaration_trees ds), at place.Declaration)))
    (sym (append-nil (statements_text ss)))
    ∙ program_statements ss (declaration_trees ds) []

pub program_finishes : (p : Program) → finish (behind_all p) ≡ Some (program_tree p)
program_finishes (program ds no_statement) = refl
program_finishes (program ds (and_statement ss s)) =
    statements_finish (and_statement ss s) (with_declarations start.0 (declaration_trees ds)) tt
