-- What the machine has read of a source.
--
-- `Stands s read`: the tokens that were read are those before the statement or declaration that is open, and its own.
-- Those before are declarations and, for each block, `for` and `if` that encloses, its head and the statements read in
-- it (`StackText`); its own are the text of what the state holds, place by place. One token keeps this (`feed_stands`),
-- by cases on place and token. A complete statement also ends each `for`, `if` and `else` that waits for one, by
-- induction on what encloses (`landed_holds`). At the end nothing encloses, so what was read derives the tree
-- (`finish_stands`). That it may be completed is shown in `SourceCloses`.
use Rattle.std.proofs.Common.{◌≡◌, ◌⊎◌, inl, inr, ℕ, Bool, true, false, List, [], ◌∷◌, ◌++◌, refl, sym, ap, subst, ◌∙◌}
use Rattle.std.proofs.Common.{append_assoc, Option, Some, None, option_map, ◌&&◌, if◌then◌else◌}
use Rattle.std.proofs.lemmas.List.{append-nil}
use Rattle.loop_grammar.specs.declared.lexeme.Lexeme.{Lexeme}
use Rattle.loop_grammar.specs.declared.lexeme.Lexeme.TheVariants as word
use Rattle.loop_grammar.specs.declared.tree.CompareSign.{CompareSign}
use Rattle.loop_grammar.specs.declared.tree.CompareSign.TheVariants.{Less, LessEq}
use Rattle.loop_grammar.specs.declared.tree.Comparison.{Comparison}
use Rattle.loop_grammar.specs.declared.tree.DeclWord.{DeclWord}
use Rattle.loop_grammar.specs.declared.tree.DeclWord.TheVariants.{Param, Input, Output, Both, Var}
use Rattle.loop_grammar.specs.declared.tree.Declaration.{Declaration}
use Rattle.loop_grammar.specs.declared.tree.Name.{Name}
use Rattle.loop_grammar.specs.declared.tree.Named.{Named}
use Rattle.loop_grammar.specs.declared.tree.Operand.{Operand}
use Rattle.loop_grammar.specs.declared.tree.Part.{Part}
use Rattle.loop_grammar.specs.declared.tree.Part as part
use Rattle.loop_grammar.specs.declared.tree.Step.{Step}
use Rattle.loop_grammar.specs.declared.tree.Step.TheVariants.{One, By}
use Rattle.loop_grammar.specs.declared.tree.Tree.{Tree}
use Rattle.loop_parse.specs.declared.place.Bounds.{Bounds}
use Rattle.loop_parse.specs.declared.place.Enclosing.{Enclosing}
use Rattle.loop_parse.specs.declared.place.Enclosing.TheVariants as enclosing
use Rattle.loop_parse.specs.declared.place.ForPlace.{ForPlace}
use Rattle.loop_parse.specs.declared.place.ForPlace.TheVariants as for_place
use Rattle.loop_parse.specs.declared.place.DeclarePlace.{DeclarePlace}
use Rattle.loop_parse.specs.declared.place.DeclarePlace.TheVariants as declare
use Rattle.loop_parse.specs.declared.place.Slot.{Slot}
use Rattle.loop_parse.specs.declared.place.Slot.TheVariants as slot
use Rattle.loop_parse.specs.declared.place.Place.{Place}
use Rattle.loop_parse.specs.declared.place.Place.TheVariants as place
use Rattle.loop_parse.specs.declared.place.Nesting.{Nesting}
use Rattle.loop_grammar.specs.Grammar.{Tok, Expr, Access, name, subscript, access_text, accessed, subscripts, expr_text}
use Rattle.loop_grammar.specs.Grammar.{expr_tree, name_token, Separated, single, more, separated_text, separated_list}
use Rattle.loop_grammar.specs.Grammar.{Compared, compared, compared_text, compared_tree, Guard, guard, guard_text}
use Rattle.loop_grammar.specs.Grammar.{guard_tree, Stepped, postfix, prefix, compound, stepped_text, stepped_name}
use Rattle.loop_grammar.specs.Grammar.{stepped_tree, bound_sign, int_text, Header, header, header_text, Statement, loop}
use Rattle.loop_grammar.specs.Grammar.{guarded, alternative, assign, block, Block, braces, Statements, no_statement}
use Rattle.loop_grammar.specs.Grammar.{and_statement, statement_text, block_text, statements_text, loop_part}
use Rattle.loop_grammar.specs.Grammar.{statement_tree, block_parts, statement_trees, ArrayWord, input, output, both}
use Rattle.loop_grammar.specs.Grammar.{var, array_word, Declared, parameters, arrays, parameter_text, declared_text}
use Rattle.loop_grammar.specs.Grammar.{parameter, array, declared_tree, Declarations, none_declared, also_declared}
use Rattle.loop_grammar.specs.Grammar.{declarations_text, declaration_trees, program}
use Rattle.loop_grammar.specs.Grammar.{Derives}
use Rattle.loop_parse.specs.ExpressionMachine as expression
use Rattle.loop_parse.specs.Feeding.{fed_by}
use Rattle.loop_parse.specs.SourceMachine.{Where, at, within, State, begun, at_for, name_of, enclosed, feed_for}
use Rattle.loop_parse.specs.SourceMachine.{feed_step, feed_header, feed_begin, feed_statement, end_block, for_part}
use Rattle.loop_parse.specs.SourceMachine.{landed, settled, else_begun, feed_after_block, feed_if, feed_target}
use Rattle.loop_parse.specs.SourceMachine.{at_declare, declared, named_of, feed_declare, declare_place}
use Rattle.loop_parse.specs.SourceMachine.{feed_declaration, comparison_of, feed_comparison, feed_assigned, fill}
use Rattle.loop_parse.specs.SourceMachine.{ends_expression, filled, within_again, feed_within, feed, end}
use Rattle.loop_parse.specs.SourceMachine.{finish, start, fed}
use Rattle.loop_parse.proofs.MachineSteps.{fed_append, fed_none, some_is, none_is}
use Rattle.loop_parse.proofs.SourceComplete.{bounds_of, third_of, step_of}
use Rattle.loop_parse.proofs.ExpressionSound as expressions

-- ---- lists with a separator, of which one more comes

abbrev pub ListText : {A B : Type 0} → Lexeme → (A → List Tok) → (A → B) → List B → List Tok → Type 0
ListText {A} sign text tree list before =
    ((list ≡ []) × (before ≡ [])) ⊎
    ((xs : Separated A) × (p : ℕ) × (separated_list tree xs ≡ list)
    × (before ≡ separated_text sign text xs ++ (sign, p) ∷ []))

end_list : {A B : Type 0} (sign : Lexeme) (text : A → List Tok) (tree : A → B) (list : List B) (before : List Tok)
    → ListText sign text tree list before → (x : A)
    → (xs : Separated A) × (separated_list tree xs ≡ list ++ tree x ∷ [])
    × (separated_text sign text xs ≡ before ++ text x)
end_list sign text tree list before (inl h) x = (single x, rw h.0 refl, rw h.1 refl)
end_list sign text tree list before (inr h) x = (
  more h.0 h.1 x,
  rw h.2 refl,
  rw h.3 (sym (append_assoc (separated_text sign text h.0) ((sign, h.1) ∷ []) (text x))),
)

-- ---- the brackets of a `for`

abbrev pub FirstName : Name → List Tok → Type 0
FirstName n own =
    (p q : ℕ) × (int : Option ℕ) × (own ≡ (word.For, p) ∷ (word.Open, q) ∷ (int_text int ++ name_token n ∷ []))

abbrev pub FirstText : Name → List Tok → Type 0
FirstText n own = (before : List Tok) × (r : ℕ) × FirstName n before × (own ≡ before ++ (word.Assign, r) ∷ [])

abbrev pub SecondText : Name → Operand → List Tok → Type 0
SecondText n first own =
    (before : List Tok) × (e : Expr) × (s : ℕ) × FirstText n before × (expr_tree e ≡ first)
    × (own ≡ before ++ (expr_text e ++ (word.Semi, s) ∷ []))

abbrev pub CompareText : Name → Operand → Name → List Tok → Type 0
CompareText n first second own =
    (before : List Tok) × SecondText n first before × (own ≡ before ++ name_token second ∷ [])

abbrev pub BoundText : Name → Operand → Name → Bool → List Tok → Type 0
BoundText n first second inclusive own =
    (before : List Tok) × (t : ℕ) × CompareText n first second before
    × (own ≡ before ++ (word.Compare (bound_sign inclusive), t) ∷ [])

abbrev pub BoundsText : Bounds → List Tok → Type 0
BoundsText b own =
    (before : List Tok) × (e : Expr) × (u : ℕ) × BoundText b.name b.first b.second b.inclusive before
    × (expr_tree e ≡ b.bound) × (own ≡ before ++ (expr_text e ++ (word.Semi, u) ∷ []))

abbrev pub StepText : Bounds → Name → Step → List Tok → Type 0
StepText b third step own =
    (before : List Tok) × (x : Stepped) × BoundsText b before × (stepped_name x ≡ third) × (stepped_tree x ≡ step)
    × (own ≡ before ++ stepped_text x)

abbrev pub ForText : ForPlace → List Tok → Type 0
ForText for_place.Open own = (p : ℕ) × (own ≡ (word.For, p) ∷ [])
ForText for_place.Int own = (p q : ℕ) × (own ≡ (word.For, p) ∷ (word.Open, q) ∷ [])
ForText for_place.Name own = (p q i : ℕ) × (own ≡ (word.For, p) ∷ (word.Open, q) ∷ (word.Int, i) ∷ [])
ForText (for_place.Assign n) own = FirstName n own
ForText (for_place.Second n first) own = SecondText n first own
ForText (for_place.Compare n first second) own = CompareText n first second own
ForText (for_place.Step b) own = BoundsText b own
ForText (for_place.StepSign b third) own =
    (before : List Tok) × BoundsText b before × (own ≡ before ++ name_token third ∷ [])
ForText (for_place.Third b) own =
    (before : List Tok) × (p : ℕ) × BoundsText b before × (own ≡ before ++ (word.Increment, p) ∷ [])
ForText (for_place.Close b third) own = StepText b third One own

-- ---- an `if` up to a comparison

abbrev pub CondText : List Comparison → List Tok → Type 0
CondText cond own =
    (p q : ℕ) × (before : List Tok) × ListText word.And compared_text compared_tree cond before
    × (own ≡ (word.If, p) ∷ (word.Open, q) ∷ before)

abbrev pub LeftText : List Comparison → Operand → CompareSign → ℕ → List Tok → Type 0
LeftText cond left sign token own =
    (before : List Tok) × (e : Expr) × CondText cond before × (expr_tree e ≡ left)
    × (own ≡ before ++ (expr_text e ++ (word.Compare sign, token) ∷ []))

-- ---- a name with subscripts

abbrev pub AccessText : Name → List Operand → List Tok → Type 0
AccessText n list own = (a : Access) × (accessed a ≡ n) × (subscripts a ≡ list) × (own ≡ access_text a)

-- ---- a declaration

abbrev pub ArraysText : DeclWord → List Named → List Tok → Type 0
ArraysText w names own =
    (aw : ArrayWord) × (p : ℕ) × (before : List Tok) × (array_word aw ≡ w)
    × ListText word.Comma access_text array names before × (own ≡ (word.Declare (array_word aw), p) ∷ before)

abbrev pub ArrayText : DeclWord → List Named → Name → List Operand → List Tok → Type 0
ArrayText w names n list own =
    (before own_text : List Tok) × ArraysText w names before × AccessText n list own_text × (own ≡ before ++ own_text)

abbrev pub DeclareText : DeclarePlace → List Tok → Type 0
DeclareText (declare.Parameter names) own =
    (p : ℕ) × (before : List Tok) × ListText word.Comma parameter_text parameter names before
    × (own ≡ (word.Declare Param, p) ∷ before)
DeclareText (declare.AfterParameter names) own =
    (p : ℕ) × (ns : Separated Name) × (separated_list parameter ns ≡ names)
    × (own ≡ (word.Declare Param, p) ∷ separated_text word.Comma parameter_text ns)
DeclareText (declare.Array w names) own = ArraysText w names own
DeclareText (declare.AfterArray w names n list) own = ArrayText w names n list own

-- ---- what was read round a place

abbrev pub StackText : List Declaration → List Enclosing → List Part → List Tok → Type 0
StackText d [] parts read =
    (ds : Declarations) × (ss : Statements) × (declaration_trees ds ≡ d) × (statement_trees ss ≡ parts)
    × (read ≡ declarations_text ds ++ statements_text ss)
StackText d (enclosing.Block outer ∷ k) parts read =
    (before : List Tok) × (p : ℕ) × (ss : Statements) × StackText d k outer before × (statement_trees ss ≡ parts)
    × (read ≡ before ++ (word.OpenCurly, p) ∷ statements_text ss)
StackText d (enclosing.For b third step ∷ k) parts read =
    (before : List Tok) × (h : Header) × StackText d k parts before × (bounds_of h ≡ b) × (third_of h ≡ third)
    × (step_of h ≡ step) × (read ≡ before ++ header_text h)
StackText d (enclosing.If cond ∷ k) parts read =
    (before : List Tok) × (g : Guard) × StackText d k parts before × (guard_tree g ≡ cond)
    × (read ≡ before ++ guard_text g)
StackText d (enclosing.Else cond ps p ∷ k) parts read =
    (before : List Tok) × (g : Guard) × (b : Block) × StackText d k parts before × (guard_tree g ≡ cond)
    × (block_parts b ≡ ps) × (read ≡ before ++ (guard_text g ++ (block_text b ++ (word.Else, p) ∷ [])))

abbrev pub Holds : Nesting → List Tok → Type 0
Holds m read = StackText m.declarations m.enclosing m.parts read

-- only declarations were read
abbrev pub Declares : Nesting → List Tok → Type 0
Declares m read =
    (ds : Declarations) × (m.enclosing ≡ []) × (m.parts ≡ []) × (declaration_trees ds ≡ m.declarations)
    × (read ≡ declarations_text ds)

declares_holds : (m : Nesting) (read : List Tok) → Declares m read → Holds m read
declares_holds m read h =
    rw (h.1, h.2) (h.0, no_statement, h.3, refl, rw h.4 (sym (append-nil (declarations_text h.0))))

abbrev pub SlotText : Nesting → Slot → List Tok → List Tok → Type 0
SlotText m (slot.Extent w names n list) before own =
    Declares m before
    × ((text : List Tok) × (q : ℕ) × ArrayText w names n list text × (own ≡ text ++ (word.OpenSquare, q) ∷ []))
SlotText m (slot.First n) before own = Holds m before × FirstText n own
SlotText m (slot.Bound n first second inclusive) before own = Holds m before × BoundText n first second inclusive own
SlotText m (slot.Step b third token) before own =
    Holds m before
    × ((text : List Tok) × BoundsText b text × (own ≡ text ++ name_token third ∷ (word.AddAssign, token) ∷ []))
SlotText m (slot.Left cond) before own = Holds m before × CondText cond own
SlotText m (slot.Right cond left sign token) before own = Holds m before × LeftText cond left sign token own
SlotText m (slot.Subscript n list) before own =
    Holds m before × ((text : List Tok) × (q : ℕ) × AccessText n list text × (own ≡ text ++ (word.OpenSquare, q) ∷ []))
SlotText m (slot.Assigned n list) before own =
    Holds m before × ((text : List Tok) × (q : ℕ) × AccessText n list text × (own ≡ text ++ (word.Assign, q) ∷ []))

abbrev pub PlaceText : Nesting → Place → List Tok → List Tok → Type 0
PlaceText m place.Declaration before own = Declares m before × (own ≡ [])
PlaceText m (place.Declaring p) before own = Declares m before × DeclareText p own
PlaceText m place.Statement before own = Holds m before × (own ≡ [])
PlaceText m (place.AfterBlock ps) before own =
    Holds m before × ((b : Block) × (block_parts b ≡ ps) × (own ≡ block_text b))
PlaceText m (place.For p) before own = Holds m before × ForText p own
PlaceText m place.If before own = Holds m before × ((p : ℕ) × (own ≡ (word.If, p) ∷ []))
PlaceText m (place.Target n list) before own = Holds m before × AccessText n list own

abbrev pub Stands : State → List Tok → Type 0
Stands (m, at p) read = (before own : List Tok) × PlaceText m p before own × (read ≡ before ++ own)
Stands (m, within s e) read =
    (before own tokens : List Tok) × SlotText m s before own × (expression.fed (Some expression.start) tokens ≡ Some e)
    × (read ≡ before ++ (own ++ tokens))

-- ---- a statement is complete

landed_holds : (d : List Declaration) (k : List Enclosing) (parts : List Part) (read : List Tok)
    → StackText d k parts read → (s : Statement)
    → StackText d (landed k parts (statement_tree s)).0 (landed k parts (statement_tree s)).1 (read ++ statement_text s)
landed_holds d [] parts read h s = (
  h.0,
  and_statement h.1 s,
  h.2,
  rw h.3 refl,
  rw h.4 (append_assoc (declarations_text h.0) (statements_text h.1) (statement_text s)),
)
landed_holds d (enclosing.Block outer ∷ k) parts read h s = (
  h.0,
  h.1,
  and_statement h.2 s,
  h.3,
  rw h.4 refl,
  rw h.5 (append_assoc h.0 ((word.OpenCurly, h.1) ∷ statements_text h.2) (statement_text s)),
)
landed_holds d (enclosing.For b third step ∷ k) parts read h s =
    subst (λ (x : Part). StackText d (landed k parts x).0 (landed k parts x).1 (read ++ statement_text s))
    (loop_lands h.1 b third step (statement_tree s) h.3 h.4 h.5)
    (rw (h.6, append_assoc h.0 (header_text h.1) (statement_text s)) (landed_holds d k parts h.0 h.2 (loop h.1 s)))
  where
    loop_lands : (x : Header) (b : Bounds) (third : Name) (step : Step) (v : Part) → bounds_of x ≡ b
        → third_of x ≡ third → step_of x ≡ step → loop_part x v ≡ for_part b third step v
    loop_lands (header p q int n r first s second inclusive t bound u x v) b third step body eb et es =
        ap (λ (y : Bounds). for_part y (stepped_name x) (stepped_tree x) body) eb
        ∙ ap (λ (y : Name). for_part b y (stepped_tree x) body) et ∙ ap (λ (y : Step). for_part b third y body) es
landed_holds d (enclosing.If cond ∷ k) parts read h s =
    subst (λ (c : List Comparison).
    StackText d (landed k parts (part.If c (statement_tree s) None)).0
    (landed k parts (part.If c (statement_tree s) None)).1 (read ++ statement_text s))
    h.3
    (rw (h.4, append_assoc h.0 (guard_text h.1) (statement_text s)) (landed_holds d k parts h.0 h.2 (guarded h.1 s)))
landed_holds d (enclosing.Else cond ps p ∷ k) parts read h s =
    let text : read ++ statement_text s ≡ h.0 ++ statement_text (alternative h.1 h.2 p s) =
    rw h.6 (simp append_assoc) in
    let tree : List Comparison → List Part → Part =
    λ (c : List Comparison) (inner : List Part). part.If c (part.Block inner)
    (Some (record { token = p; body = statement_tree s })) in
    subst (λ (c : List Comparison).
    StackText d (landed k parts (tree c ps)).0 (landed k parts (tree c ps)).1 (read ++ statement_text s))
    h.4
    (subst (λ (inner : List Part).
    StackText d (landed k parts (tree (guard_tree h.1) inner)).0 (landed k parts (tree (guard_tree h.1) inner)).1
    (read ++ statement_text s))
    h.5
    (rw text (landed_holds d k parts h.0 h.3 (alternative h.1 h.2 p s))))

settled_holds : (m : Nesting) (read : List Tok) → Holds m read → (s : Statement)
    → Holds (settled m (statement_tree s)) (read ++ statement_text s)
settled_holds m read h s = landed_holds m.declarations m.enclosing m.parts read h s

-- at a statement's place
at_statement : (m : Nesting) (read : List Tok) → Holds m read → Stands (m, at place.Statement) read
at_statement m read h = (read, [], (h, refl), sym (append-nil read))

-- ---- one token more

header_of : (b : Bounds) (third : Name) (step : Step) (own : List Tok) (v : ℕ) → StepText b third step own
    → (x : Header) × (bounds_of x ≡ b) × (third_of x ≡ third) × (step_of x ≡ step)
    × (header_text x ≡ own ++ (word.Close, v) ∷ [])
header_of b third step own v h =
    let bounds =
    h.2 in let bound =
    bounds.3 in let compare = bound.2 in let second = compare.1 in let first = second.3 in let n = first.2 in (
      header n.0 n.1 n.2 b.name first.1 second.1 second.2 b.second b.inclusive bound.1 bounds.1 bounds.2 h.1 v,
      rw (second.4, bounds.4) refl,
      h.3,
      h.4,
      rw (h.5, bounds.5, bound.3, compare.2, second.5, first.3, n.3) (simp append_assoc),
    )

for_fed : (p : ForPlace) (t : Tok) (next : Where) (m : Nesting) (before own read : List Tok) → Holds m before
    → ForText p own → read ≡ before ++ own → feed_for p t ≡ Some next → Stands (m, next) (read ++ t ∷ [])
for_fed for_place.Open (word.Open, q) next m before own read h is e step =
    rw (← some_is (at_for for_place.Int) next step) (
      before,
      own ++ (word.Open, q)
          ∷ [],
      (h, (is.0, q, rw is.1 refl)),
      rw e (append_assoc before own ((word.Open, q) ∷ [])),
    )
for_fed for_place.Open (_, q) next m before own read h is e step = absurd (none_is next step)
for_fed for_place.Int (word.Int, i) next m before own read h is e step =
    rw (← some_is (at_for for_place.Name) next step) (
      before,
      own ++ (word.Int, i)
          ∷ [],
      (h, (is.0, is.1, i, rw is.2 refl)),
      rw e (append_assoc before own ((word.Int, i) ∷ [])),
    )
for_fed for_place.Int (word.Name text, q) next m before own read h is e step =
    rw (← some_is (at_for (for_place.Assign (name_of text q))) next step) (
      before,
      own ++ (word.Name text, q)
          ∷ [],
      (h, (is.0, is.1, None, rw is.2 refl)),
      rw e (append_assoc before own ((word.Name text, q) ∷ [])),
    )
for_fed for_place.Int (_, q) next m before own read h is e step = absurd (none_is next step)
for_fed for_place.Name (word.Name text, q) next m before own read h is e step =
    rw (← some_is (at_for (for_place.Assign (name_of text q))) next step) (
      before,
      own ++ (word.Name text, q)
          ∷ [],
      (h, (is.0, is.1, Some is.2, rw is.3 refl)),
      rw e (append_assoc before own ((word.Name text, q) ∷ [])),
    )
for_fed for_place.Name (_, q) next m before own read h is e step = absurd (none_is next step)
for_fed (for_place.Assign n) (word.Assign, q) next m before own read h is e step =
    rw (← some_is (begun (slot.First n)) next step)
    (before, own ++ (word.Assign, q) ∷ [], [], (h, (own, q, is, refl)), refl, rw e (simp (append-nil, append_assoc)))
for_fed (for_place.Assign n) (_, q) next m before own read h is e step = absurd (none_is next step)
for_fed (for_place.Second n first) (word.Name text, q) next m before own read h is e step =
    rw (← some_is (at_for (for_place.Compare n first (name_of text q))) next step) (
      before,
      own ++ (word.Name text, q)
          ∷ [],
      (h, (own, is, refl)),
      rw e (append_assoc before own ((word.Name text, q) ∷ [])),
    )
for_fed (for_place.Second n first) (_, q) next m before own read h is e step = absurd (none_is next step)
for_fed (for_place.Compare n first second) (word.Compare Less, q) next m before own read h is e step =
    rw (← some_is (begun (slot.Bound n first second false)) next step) (
      before,
      own ++ (word.Compare Less, q)
          ∷ [],
      [],
      (h, (own, q, is, refl)),
      refl,
      rw e (simp (append-nil, append_assoc)),
    )
for_fed (for_place.Compare n first second) (word.Compare LessEq, q) next m before own read h is e step =
    rw (← some_is (begun (slot.Bound n first second true)) next step) (
      before,
      own ++ (word.Compare LessEq, q)
          ∷ [],
      [],
      (h, (own, q, is, refl)),
      refl,
      rw e (simp (append-nil, append_assoc)),
    )
for_fed (for_place.Compare n first second) (_, q) next m before own read h is e step = absurd (none_is next step)
for_fed (for_place.Step b) (word.Name text, q) next m before own read h is e step =
    rw (← some_is (at_for (for_place.StepSign b (name_of text q))) next step) (
      before,
      own ++ (word.Name text, q)
          ∷ [],
      (h, (own, is, refl)),
      rw e (append_assoc before own ((word.Name text, q) ∷ [])),
    )
for_fed (for_place.Step b) (word.Increment, q) next m before own read h is e step =
    rw (← some_is (at_for (for_place.Third b)) next step) (
      before,
      own ++ (word.Increment, q)
          ∷ [],
      (h, (own, q, is, refl)),
      rw e (append_assoc before own ((word.Increment, q) ∷ [])),
    )
for_fed (for_place.Step b) (_, q) next m before own read h is e step = absurd (none_is next step)
for_fed (for_place.StepSign b third) (word.Increment, q) next m before own read h is e step =
    rw (← some_is (at_for (for_place.Close b third)) next step) (
      before,
      own ++ (word.Increment, q) ∷ [],
      (
        h,
        (
          is.0,
          postfix third q,
          is.1,
          refl,
          refl,
          rw is.2 (append_assoc is.0 (name_token third ∷ []) ((word.Increment, q) ∷ [])),
        ),
      ),
      rw e (append_assoc before own ((word.Increment, q) ∷ [])),
    )
for_fed (for_place.StepSign b third) (word.AddAssign, q) next m before own read h is e step =
    rw (← some_is (begun (slot.Step b third q)) next step) (
      before,
      own ++ (word.AddAssign, q) ∷ [],
      [],
      (
        h,
        (
          is.0,
          is.1,
          rw is.2 (append_assoc is.0 (name_token third ∷ []) ((word.AddAssign, q) ∷ [])),
        ),
      ),
      refl,
      rw e (simp (append-nil, append_assoc)),
    )
for_fed (for_place.StepSign b third) (_, q) next m before own read h is e step = absurd (none_is next step)
for_fed (for_place.Third b) (word.Name text, q) next m before own read h is e step =
    rw (← some_is (at_for (for_place.Close b (name_of text q))) next step) (
      before,
      own ++ (word.Name text, q) ∷ [],
      (
        h,
        (
          is.0,
          prefix is.1 (name_of text q),
          is.2,
          refl,
          refl,
          rw is.3 (append_assoc is.0 ((word.Increment, is.1) ∷ []) ((word.Name text, q) ∷ [])),
        ),
      ),
      rw e (append_assoc before own ((word.Name text, q) ∷ [])),
    )
for_fed (for_place.Third b) (_, q) next m before own read h is e step = absurd (none_is next step)
for_fed (for_place.Close b third) t next m before own read h is e step = absurd (none_is next step)

step_fed : (b : Bounds) (third : Name) (step : Step) (w : Lexeme) (v : ℕ) (next : State) (m : Nesting)
    (before own read : List Tok) → Holds m before → StepText b third step own → read ≡ before ++ own
    → feed_step m b third step w ≡ Some next → Stands next (read ++ (w, v) ∷ [])
step_fed b third step word.Close v next m before own read h is e fed =
    let x = header_of b third step own v is in
    rw (← some_is (enclosed m (enclosing.For b third step), at place.Statement) next fed)
    (at_statement (enclosed m (enclosing.For b third step)) (read ++ (word.Close, v) ∷ [])
    (before, x.0, h, x.1, x.2, x.3, rw (e, x.4) (append_assoc before own ((word.Close, v) ∷ []))))
step_fed b third step _ v next m before own read h is e fed = absurd (none_is next fed)

header_fed : (p : ForPlace) (t : Tok) (next : State) (m : Nesting) (before own read : List Tok) → Holds m before
    → ForText p own → read ≡ before ++ own → feed_header m p t ≡ Some next → Stands next (read ++ t ∷ [])
header_fed (for_place.Close b third) (w, v) next m before own read h is e step =
    step_fed b third One w v next m before own read h is e step
header_fed p t next m before own read h is e step = go (feed_for p t) refl step
  where
    go : (o : Option Where) → feed_for p t ≡ o → option_map (λ (w : Where). (m, w)) o ≡ Some next
        → Stands next (read ++ t ∷ [])
    go None eo step = absurd (none_is next step)
    go (Some w) eo step = rw (← some_is (m, w) next step) (for_fed p t w m before own read h is e eo)

begin_fed : (t : Tok) (next : State) (m : Nesting) (read : List Tok) → Holds m read → feed_begin m t ≡ Some next
    → Stands next (read ++ t ∷ [])
begin_fed (word.OpenCurly, q) next m read h step =
    rw (← some_is
    (record m { enclosing = enclosing.Block m.parts ∷ m.enclosing; parts = [] }, at place.Statement) next step)
    (at_statement (record m { enclosing = enclosing.Block m.parts ∷ m.enclosing; parts = [] })
    (read ++ (word.OpenCurly, q) ∷ []) (read, q, no_statement, h, refl, refl))
begin_fed (word.For, q) next m read h step =
    rw (← some_is (m, at_for for_place.Open) next step) (read, (word.For, q) ∷ [], (h, (q, refl)), refl)
begin_fed (word.If, q) next m read h step =
    rw (← some_is (m, at place.If) next step) (read, (word.If, q) ∷ [], (h, (q, refl)), refl)
begin_fed (word.Name text, q) next m read h step =
    rw (← some_is (m, at (place.Target (name_of text q) [])) next step)
    (read, (word.Name text, q) ∷ [], (h, (name (name_of text q), refl, refl, refl)), refl)
begin_fed (_, q) next m read h step = absurd (none_is next step)

end_block_fed : (d : List Declaration) (k : List Enclosing) (parts : List Part) (q : ℕ) (next : State) (read : List Tok)
    → StackText d k parts read → end_block (record { declarations = d; enclosing = k; parts = parts }) k ≡ Some next
    → Stands next (read ++ (word.CloseCurly, q) ∷ [])
end_block_fed d (enclosing.Block outer ∷ k) parts q next read h step =
    let m : Nesting = record { declarations = d; enclosing = k; parts = outer } in
    rw (← some_is (m, at (place.AfterBlock parts)) next step) (
      h.0,
      block_text (braces h.1 h.2 q),
      (h.3, (braces h.1 h.2 q, h.4, refl)),
      rw h.5 (append_assoc h.0 ((word.OpenCurly, h.1) ∷ statements_text h.2) ((word.CloseCurly, q) ∷ [])),
    )
end_block_fed d [] parts q next read h step = absurd (none_is next step)
end_block_fed d (enclosing.For b third s ∷ k) parts q next read h step = absurd (none_is next step)
end_block_fed d (enclosing.If cond ∷ k) parts q next read h step = absurd (none_is next step)
end_block_fed d (enclosing.Else cond ps p ∷ k) parts q next read h step = absurd (none_is next step)

statement_fed : (t : Tok) (next : State) (m : Nesting) (read : List Tok) → Holds m read → feed_statement m t ≡ Some next
    → Stands next (read ++ t ∷ [])
statement_fed (word.CloseCurly, q) next m read h step =
    end_block_fed m.declarations m.enclosing m.parts q next read h step
statement_fed (w, q) next m read h step = begin_fed (w, q) next m read h step

else_fed : (d : List Declaration) (k : List Enclosing) (parts ps : List Part) (q : ℕ) (next : State)
    (before own read : List Tok) (b : Block) → StackText d k parts before → block_parts b ≡ ps → own ≡ block_text b
    → read ≡ before ++ own
    → else_begun (record { declarations = d; enclosing = k; parts = parts }) k ps q ≡ Some next
    → Stands next (read ++ (word.Else, q) ∷ [])
else_fed d (enclosing.If cond ∷ k) parts ps q next before own read b h is text e step =
    let m : Nesting = record { declarations = d; enclosing = enclosing.Else cond ps q ∷ k; parts = parts } in
    rw (← some_is (m, at place.Statement) next step)
    (at_statement m (read ++ (word.Else, q) ∷ []) (h.0, h.1, b, h.2, h.3, is, rw (e, h.4, text) (simp append_assoc)))
else_fed d [] parts ps q next before own read b h is text e step = absurd (none_is next step)
else_fed d (enclosing.Block outer ∷ k) parts ps q next before own read b h is text e step = absurd (none_is next step)
else_fed d (enclosing.For bounds third s ∷ k) parts ps q next before own read b h is text e step =
    absurd (none_is next step)
else_fed d (enclosing.Else cond inner p ∷ k) parts ps q next before own read b h is text e step =
    absurd (none_is next step)

after_block_fed : (ps : List Part) (t : Tok) (next : State) (m : Nesting) (before own read : List Tok) (b : Block)
    → Holds m before → block_parts b ≡ ps → own ≡ block_text b → read ≡ before ++ own
    → feed_after_block m ps t ≡ Some next → Stands next (read ++ t ∷ [])
after_block_fed ps (word.Else, q) next m before own read b h is text e step =
    else_fed m.declarations m.enclosing m.parts ps q next before own read b h is text e step
after_block_fed ps (w, q) next m before own read b h is text e step =
    let settles : Holds (settled m (part.Block ps)) read = rw (e, text, ← is) (settled_holds m before h (block b)) in
    statement_fed (w, q) next (settled m (part.Block ps)) read settles step

target_fed : (n : Name) (list : List Operand) (t : Tok) (next : State) (m : Nesting) (before own read : List Tok)
    → Holds m before → AccessText n list own → read ≡ before ++ own → feed_target m n list t ≡ Some next
    → Stands next (read ++ t ∷ [])
target_fed n list (word.OpenSquare, q) next m before own read h is e step =
    rw (← some_is (m, begun (slot.Subscript n list)) next step) (
      before,
      own ++ (word.OpenSquare, q)
          ∷ [],
      [],
      (h, (own, q, is, refl)),
      refl,
      rw e (simp (append-nil, append_assoc)),
    )
target_fed n list (word.Assign, q) next m before own read h is e step =
    rw (← some_is (m, begun (slot.Assigned n list)) next step)
    (before, own ++ (word.Assign, q) ∷ [], [], (h, (own, q, is, refl)), refl, rw e (simp (append-nil, append_assoc)))
target_fed n list (_, q) next m before own read h is e step = absurd (none_is next step)

if_fed : (t : Tok) (next : State) (m : Nesting) (before own read : List Tok) (p : ℕ) → Holds m before
    → own ≡ (word.If, p) ∷ [] → read ≡ before ++ own → feed_if m t ≡ Some next → Stands next (read ++ t ∷ [])
if_fed (word.Open, q) next m before own read p h is e step =
    rw (← some_is (m, begun (slot.Left [])) next step) (
      before,
      (word.If, p) ∷ (word.Open, q) ∷ [],
      [],
      (h, (p, q, [], inl (refl, refl), refl)),
      refl,
      rw (e, is) (append_assoc before ((word.If, p) ∷ []) ((word.Open, q) ∷ [])),
    )
if_fed (_, q) next m before own read p h is e step = absurd (none_is next step)

-- ---- declarations

-- after a declaration
declared_stands : (m : Nesting) (w : DeclWord) (names : List Named) (d : Declared) (before own read : List Tok) (q : ℕ)
    → Declares m before → declared_tree d ≡ record { word = w; names = names }
    → declared_text d ≡ own ++ (word.Semi, q) ∷ [] → read ≡ before ++ own
    → Stands (declared m w names) (read ++ (word.Semi, q) ∷ [])
declared_stands m w names d before own read q h tree text e = (
  read ++ (word.Semi, q) ∷ [],
  [],
  (
    (
      also_declared h.0 d,
      h.1,
      h.2,
      rw (h.3, tree) refl,
      rw (e, h.4, text) (append_assoc (declarations_text h.0) own ((word.Semi, q) ∷ [])),
    ),
    refl,
  ),
  sym (append-nil (read ++ (word.Semi, q) ∷ [])),
)

-- an array is complete
arrays_end : (w : DeclWord) (names : List Named) (n : Name) (list : List Operand) (own : List Tok)
    → ArrayText w names n list own
    → (aw : ArrayWord) × (p : ℕ) × (xs : Separated Access) × (array_word aw ≡ w)
    × (separated_list array xs ≡ names ++ named_of n list ∷ [])
    × (own ≡ (word.Declare (array_word aw), p) ∷ separated_text word.Comma access_text xs)
arrays_end w names n list own h =
    let a = h.3 in let s = h.2 in
    let xs = end_list word.Comma access_text array names s.2 s.4 a.0 in
    (s.0, s.1, xs.0, s.3, rw (← a.1, ← a.2) xs.1, rw (h.4, s.5, a.3, xs.2) refl)

declare_fed : (p : DeclarePlace) (t : Tok) (next : State) (m : Nesting) (before own read : List Tok) → Declares m before
    → DeclareText p own → read ≡ before ++ own → feed_declare m p t ≡ Some next → Stands next (read ++ t ∷ [])
declare_fed (declare.Parameter names) (word.Name text, q) next m before own read h is e step =
    let ns = end_list word.Comma parameter_text parameter names is.1 is.2 (name_of text q) in
    rw (← some_is (m, at_declare (declare.AfterParameter (names ++ named_of (name_of text q) [] ∷ []))) next step) (
      before,
      own ++ (word.Name text, q)
          ∷ [],
      (h, (is.0, ns.0, ns.1, rw (is.3, ns.2) refl)),
      rw e (append_assoc before own ((word.Name text, q) ∷ [])),
    )
declare_fed (declare.Parameter names) (_, q) next m before own read h is e step = absurd (none_is next step)
declare_fed (declare.AfterParameter names) (word.Comma, q) next m before own read h is e step =
    rw (← some_is (m, at_declare (declare.Parameter names)) next step) (
      before,
      own ++ (word.Comma, q) ∷ [],
      (
        h,
        (
          is.0,
          separated_text word.Comma parameter_text is.1 ++ (word.Comma, q)
              ∷ [],
          inr (is.1, q, is.2, refl),
          rw is.3 refl,
        ),
      ),
      rw e (append_assoc before own ((word.Comma, q) ∷ [])),
    )
declare_fed (declare.AfterParameter names) (word.Semi, q) next m before own read h is e step =
    rw (← some_is (declared m Param names) next step)
    (declared_stands m Param names (parameters is.0 is.1 q) before own read q h (rw is.2 refl)
    (sym (ap (λ (x : List Tok). x ++ (word.Semi, q) ∷ []) is.3)) e)
declare_fed (declare.AfterParameter names) (_, q) next m before own read h is e step = absurd (none_is next step)
declare_fed (declare.Array w names) (word.Name text, q) next m before own read h is e step =
    rw (← some_is (m, at_declare (declare.AfterArray w names (name_of text q) [])) next step) (
      before,
      own ++ (word.Name text, q) ∷ [],
      (
        h,
        (
          own,
          (word.Name text, q) ∷ [],
          is,
          (name (name_of text q), refl, refl, refl),
          refl,
        ),
      ),
      rw e (append_assoc before own ((word.Name text, q) ∷ [])),
    )
declare_fed (declare.Array w names) (_, q) next m before own read h is e step = absurd (none_is next step)
declare_fed (declare.AfterArray w names n list) (word.OpenSquare, q) next m before own read h is e step =
    rw (← some_is (m, begun (slot.Extent w names n list)) next step) (
      before,
      own ++ (word.OpenSquare, q)
          ∷ [],
      [],
      (h, (own, q, is, refl)),
      refl,
      rw e (simp (append-nil, append_assoc)),
    )
declare_fed (declare.AfterArray w names n list) (word.Comma, q) next m before own read h is e step =
    let xs = arrays_end w names n list own is in
    rw (← some_is (m, at_declare (declare.Array w (names ++ named_of n list ∷ []))) next step) (
      before,
      own ++ (word.Comma, q) ∷ [],
      (
        h,
        (
          xs.0,
          xs.1,
          separated_text word.Comma access_text xs.2 ++ (word.Comma, q)
              ∷ [],
          xs.3,
          inr (xs.2, q, xs.4, refl),
          ap (λ (x : List Tok). x ++ (word.Comma, q) ∷ []) xs.5,
        ),
      ),
      rw e (append_assoc before own ((word.Comma, q) ∷ [])),
    )
declare_fed (declare.AfterArray w names n list) (word.Semi, q) next m before own read h is e step =
    let xs = arrays_end w names n list own is in
    rw (← some_is (declared m w (names ++ named_of n list ∷ [])) next step)
    (declared_stands m w (names ++ named_of n list ∷ []) (arrays xs.0 xs.1 xs.2 q) before own read q h
    (rw (xs.3, xs.4) refl) (sym (ap (λ (x : List Tok). x ++ (word.Semi, q) ∷ []) xs.5)) e)
declare_fed (declare.AfterArray w names n list) (_, q) next m before own read h is e step = absurd (none_is next step)

declare_begun : (w : DeclWord) (q : ℕ) (m : Nesting) (read : List Tok) → Declares m read
    → Stands (m, at_declare (declare_place w)) (read ++ (word.Declare w, q) ∷ [])
declare_begun Param q m read h = (read, (word.Declare Param, q) ∷ [], (h, (q, [], inl (refl, refl), refl)), refl)
declare_begun Input q m read h =
    (read, (word.Declare Input, q) ∷ [], (h, (input, q, [], refl, inl (refl, refl), refl)), refl)
declare_begun Output q m read h =
    (read, (word.Declare Output, q) ∷ [], (h, (output, q, [], refl, inl (refl, refl), refl)), refl)
declare_begun Both q m read h =
    (read, (word.Declare Both, q) ∷ [], (h, (both, q, [], refl, inl (refl, refl), refl)), refl)
declare_begun Var q m read h = (read, (word.Declare Var, q) ∷ [], (h, (var, q, [], refl, inl (refl, refl), refl)), refl)

declaration_fed : (t : Tok) (next : State) (m : Nesting) (read : List Tok) → Declares m read
    → feed_declaration m t ≡ Some next → Stands next (read ++ t ∷ [])
declaration_fed (word.Declare w, q) next m read h step =
    rw (← some_is (m, at_declare (declare_place w)) next step) (declare_begun w q m read h)
declaration_fed (w, q) next m read h step = statement_fed (w, q) next m read (declares_holds m read h) step

-- ---- expressions

comparison_fed : (m : Nesting) (before own read : List Tok) (p q : ℕ) (xs : Separated Compared) (cond : List Comparison)
    (w : Lexeme) (r : ℕ) (next : State) → Holds m before → separated_list compared_tree xs ≡ cond
    → own ≡ (word.If, p) ∷ (word.Open, q) ∷ separated_text word.And compared_text xs → read ≡ before ++ own
    → feed_comparison m cond w ≡ Some next → Stands next (read ++ (w, r) ∷ [])
comparison_fed m before own read p q xs cond word.And r next h is text e step =
    rw (← some_is (m, begun (slot.Left cond)) next step) (
      before,
      own ++ (word.And, r) ∷ [],
      [],
      (
        h,
        (
          p,
          q,
          separated_text word.And compared_text xs ++ (word.And, r)
              ∷ [],
          inr (xs, r, is, refl),
          rw text refl,
        ),
      ),
      refl,
      rw e (simp (append-nil, append_assoc)),
    )
comparison_fed m before own read p q xs cond word.Close r next h is text e step =
    rw (← some_is (enclosed m (enclosing.If cond), at place.Statement) next step)
    (at_statement (enclosed m (enclosing.If cond)) (read ++ (word.Close, r) ∷ []) (
      before,
      guard p q xs r,
      h,
      is,
      rw (e, text) (append_assoc before
          ((word.If, p) ∷ (word.Open, q) ∷ separated_text word.And compared_text xs) ((word.Close, r) ∷ [])),
    ))
comparison_fed m before own read p q xs cond _ r next h is text e step = absurd (none_is next step)

assigned_fed : (m : Nesting) (before own read : List Tok) (a : Access) (p : ℕ) (x : Expr) (w : Lexeme) (r : ℕ)
    (next : State) → Holds m before → own ≡ access_text a ++ (word.Assign, p) ∷ expr_text x → read ≡ before ++ own
    → feed_assigned m (accessed a) (subscripts a) (expr_tree x) w ≡ Some next → Stands next (read ++ (w, r) ∷ [])
assigned_fed m before own read a p x word.Semi r next h text e step =
    let whole : read ++ (word.Semi, r) ∷ [] ≡ before ++ statement_text (assign a p x r) =
    rw (e, text) (simp append_assoc) in
    rw (
      ← some_is (settled m (part.Assign (accessed a) (subscripts a) (expr_tree x)), at place.Statement) next step,
      whole,
    )
    (at_statement (settled m (part.Assign (accessed a) (subscripts a) (expr_tree x)))
    (before ++ statement_text (assign a p x r)) (settled_holds m before h (assign a p x r)))
assigned_fed m before own read a p x _ r next h text e step = absurd (none_is next step)

more_access : (n : Name) (list : List Operand) (text own : List Tok) (q : ℕ) (x : Expr) (r : ℕ) → AccessText n list text
    → own ≡ text ++ (word.OpenSquare, q) ∷ []
    → AccessText n (list ++ expr_tree x ∷ []) (own ++ (expr_text x ++ (word.CloseSquare, r) ∷ []))
more_access n list text own q x r is e = (
  subscript is.0 q x r,
  is.1,
  rw is.2 refl,
  rw (e, is.3)
      (append_assoc (access_text is.0) ((word.OpenSquare, q) ∷ []) (expr_text x ++ (word.CloseSquare, r) ∷ [])),
)

-- `own` stands before the expression, whose text is `expr_text x`
fill_fed : (s : Slot) (t : Tok) (next : State) (m : Nesting) (before own read : List Tok) (x : Expr)
    → SlotText m s before own → read ≡ before ++ (own ++ expr_text x) → fill m s (expr_tree x) t ≡ Some next
    → Stands next (read ++ t ∷ [])
fill_fed (slot.Extent w names n list) (word.CloseSquare, q) next m before own read x h e step =
    let is = h.1 in let a = is.2 in
    rw (← some_is (m, at_declare (declare.AfterArray w names n (list ++ expr_tree x ∷ []))) next step) (
      before,
      own ++ (expr_text x ++ (word.CloseSquare, q) ∷ []),
      (
        h.0,
        (
          a.0,
          (a.1 ++ (word.OpenSquare, is.1) ∷ []) ++ (expr_text x ++ (word.CloseSquare, q) ∷ []),
          a.2,
          more_access
              n list a.1 (a.1 ++ (word.OpenSquare, is.1) ∷ []) is.1 x q a.3 refl,
          rw (is.3, a.4) (simp append_assoc),
        ),
      ),
      rw e (simp append_assoc),
    )
fill_fed (slot.Extent w names n list) (_, q) next m before own read x h e step = absurd (none_is next step)
fill_fed (slot.First n) (word.Semi, q) next m before own read x h e step =
    rw (← some_is (m, at_for (for_place.Second n (expr_tree x))) next step)
    (before, own ++ (expr_text x ++ (word.Semi, q) ∷ []), (h.0, (own, x, q, h.1, refl, refl)), rw e (simp append_assoc))
fill_fed (slot.First n) (_, q) next m before own read x h e step = absurd (none_is next step)
fill_fed (slot.Bound n first second inclusive) (word.Semi, q) next m before own read x h e step =
    let b : Bounds = record { name = n; first = first; second = second; inclusive = inclusive; bound = expr_tree x } in
    rw (← some_is (m, at_for (for_place.Step b)) next step)
    (before, own ++ (expr_text x ++ (word.Semi, q) ∷ []), (h.0, (own, x, q, h.1, refl, refl)), rw e (simp append_assoc))
fill_fed (slot.Bound n first second inclusive) (_, q) next m before own read x h e step = absurd (none_is next step)
fill_fed (slot.Step b third token) (w, q) next m before own read x h e step =
    let is = h.1 in
    step_fed b third (By token (expr_tree x)) w q next m before (own ++ expr_text x) read h.0 (
      is.0,
      compound third token x,
      is.1,
      refl,
      refl,
      rw is.2 (append_assoc is.0 (name_token third ∷ (word.AddAssign, token) ∷ []) (expr_text x)),
    ) e step
fill_fed (slot.Left cond) (word.Compare sign, q) next m before own read x h e step =
    rw (← some_is (m, begun (slot.Right cond (expr_tree x) sign q)) next step) (
      before,
      own ++ (expr_text x ++ (word.Compare sign, q) ∷ []),
      [],
      (h.0, (own, x, h.1, refl, refl)),
      refl,
      rw e (simp (append-nil, append_assoc)),
    )
fill_fed (slot.Left cond) (_, q) next m before own read x h e step = absurd (none_is next step)
fill_fed (slot.Right cond left sign token) (w, q) next m before own read x h e step =
    let l = h.1 in let c = l.2 in
    let xs = end_list word.And compared_text compared_tree cond c.2 c.3 (compared l.1 sign token x) in
    comparison_fed m before (own ++ expr_text x) read c.0 c.1 xs.0
    (cond ++ comparison_of left sign token (expr_tree x) ∷ []) w q next h.0 (rw (xs.1, l.3) refl)
    (rw (l.4, c.4, xs.2) (simp append_assoc)) e step
fill_fed (slot.Subscript n list) (word.CloseSquare, q) next m before own read x h e step =
    let is = h.1 in
    rw (← some_is (m, at (place.Target n (list ++ expr_tree x ∷ []))) next step) (
      before,
      own ++ (expr_text x ++ (word.CloseSquare, q) ∷ []),
      (h.0, more_access n list is.0 own is.1 x q is.2 is.3),
      rw e (simp append_assoc),
    )
fill_fed (slot.Subscript n list) (_, q) next m before own read x h e step = absurd (none_is next step)
fill_fed (slot.Assigned n list) (w, q) next m before own read x h e step =
    let is = h.1 in let a = is.2 in
    assigned_fed m before (own ++ expr_text x) read a.0 is.1 x w q next h.0 (rw (is.3, a.3) (simp append_assoc)) e
    (rw (a.1, a.2) step)

expression_stands : (e : expression.State) (tokens : List Tok) → expression.fed (Some expression.start) tokens ≡ Some e
    → expressions.Stands e tokens
expression_stands e tokens run = go expression.start [] tokens expressions.start_stands run
  where
    go : (s : expression.State) (read tokens : List Tok) → expressions.Stands s read
        → expression.fed (Some s) tokens ≡ Some e → expressions.Stands e (read ++ tokens)
    go s read [] h run = rw (append-nil read, ← some_is s e run) h
    go s read (t ∷ tokens) h run =
        next (expression.feed s t) refl run
        (λ mid m. go mid (read ++ t ∷ []) tokens (expressions.feed_stands s t mid read h m))
      where
        next : (o : Option expression.State) → expression.feed s t ≡ o → fed_by expression.feed o tokens ≡ Some e
            → ((mid : expression.State) → expression.feed s t ≡ Some mid → expression.fed (Some mid) tokens ≡ Some e
            → expressions.Stands e ((read ++ t ∷ []) ++ tokens)) → expressions.Stands e (read ++ t ∷ tokens)
        next (Some mid) eo run ih = rw (← append_assoc read (t ∷ []) tokens) (ih mid eo run)
        next None eo run ih = absurd (none_is e (sym (fed_none expression.feed tokens) ∙ run))

within_fed : (s : Slot) (x : expression.State) (t : Tok) (next : State) (m : Nesting)
    (before own tokens read : List Tok) → SlotText m s before own
    → expression.fed (Some expression.start) tokens ≡ Some x → read ≡ before ++ (own ++ tokens)
    → feed_within m s x t ≡ Some next → Stands next (read ++ t ∷ [])
within_fed s x t next m before own tokens read h run e step =
    choose (expression.has_no_bracket x && ends_expression t.0) refl step
  where
    fills : (o : Option Operand) → expression.finish x ≡ o → filled m s o t ≡ Some next → Stands next (read ++ t ∷ [])
    fills None eo step = absurd (none_is next step)
    fills (Some v) eo step =
        let is = expressions.finish_stands x v tokens (expression_stands x tokens run) eo in
        fill_fed s t next m before own read is.0 h (rw (e, is.1) refl) (rw is.2 step)

    goes_on : (o : Option expression.State) → expression.feed x t ≡ o → within_again m s o ≡ Some next
        → Stands next (read ++ t ∷ [])
    goes_on None eo step = absurd (none_is next step)
    goes_on (Some y) eo step =
        let more_run : expression.fed (Some expression.start) (tokens ++ t ∷ []) ≡ Some y =
        fed_append expression.feed (Some expression.start) tokens (t ∷ [])
        ∙ ap (λ o. fed_by expression.feed o (t ∷ [])) run ∙ eo in
        rw (← some_is (m, within s y) next step) (before, own, tokens ++ t ∷ [], h, more_run, rw e (simp append_assoc))

    choose : (b : Bool) → (expression.has_no_bracket x && ends_expression t.0) ≡ b
        → (if b then filled m s (expression.finish x) t else within_again m s (expression.feed x t)) ≡ Some next
        → Stands next (read ++ t ∷ [])
    choose true eb step = fills (expression.finish x) refl step
    choose false eb step = goes_on (expression.feed x t) refl step

pub feed_stands : (s : State) (t : Tok) (next : State) (read : List Tok) → Stands s read → feed s t ≡ Some next
    → Stands next (read ++ t ∷ [])
feed_stands (m, at place.Declaration) t next read h step =
    let is = h.2 in declaration_fed t next m read (rw (h.3, is.1, append-nil h.0) is.0) step
feed_stands (m, at (place.Declaring p)) t next read h step =
    let is = h.2 in declare_fed p t next m h.0 h.1 read is.0 is.1 h.3 step
feed_stands (m, at place.Statement) t next read h step =
    let is = h.2 in statement_fed t next m read (rw (h.3, is.1, append-nil h.0) is.0) step
feed_stands (m, at (place.AfterBlock ps)) t next read h step =
    let is = h.2 in let b = is.1 in after_block_fed ps t next m h.0 h.1 read b.0 is.0 b.1 b.2 h.3 step
feed_stands (m, at (place.For p)) t next read h step =
    let is = h.2 in header_fed p t next m h.0 h.1 read is.0 is.1 h.3 step
feed_stands (m, at place.If) t next read h step =
    let is = h.2 in let p = is.1 in if_fed t next m h.0 h.1 read p.0 is.0 p.1 h.3 step
feed_stands (m, at (place.Target n list)) t next read h step =
    let is = h.2 in target_fed n list t next m h.0 h.1 read is.0 is.1 h.3 step
feed_stands (m, within s x) t next read h step = within_fed s x t next m h.0 h.1 h.2 read h.3 h.4 h.5 step

pub start_stands : Stands start []
start_stands = ([], [], ((none_declared, refl, refl, refl, refl), refl), refl)

-- ---- the end

end_stands : (d : List Declaration) (k : List Enclosing) (parts : List Part) (tree : Tree) (read : List Tok)
    → StackText d k parts read → end (record { declarations = d; enclosing = k; parts = parts }) k ≡ Some tree
    → Derives read tree
end_stands d [] parts tree read h step =
    (program h.0 h.1, sym h.4, rw (h.2, h.3) (some_is (record { declarations = d; parts = parts }) tree step))
end_stands d (e ∷ k) parts tree read h step = absurd (none_is tree step)

-- what the machine ends with is the tree
pub finish_stands : (s : State) (tree : Tree) (read : List Tok) → Stands s read → finish s ≡ Some tree
    → Derives read tree
finish_stands (m, at place.Declaration) tree read h step =
    let is =
    h.2 in end_stands m.declarations m.enclosing m.parts tree read
    (rw (h.3, is.1, append-nil h.0) (declares_holds m h.0 is.0)) step
finish_stands (m, at place.Statement) tree read h step =
    let is = h.2 in end_stands m.declarations m.enclosing m.parts tree read (rw (h.3, is.1, append-nil h.0) is.0) step
finish_stands (m, at (place.AfterBlock ps)) tree read h step =
    let is = h.2 in let b = is.1 in let after : Nesting = settled m (part.Block ps) in
    end_stands after.declarations after.enclosing after.parts tree read
    (rw (h.3, b.2, ← b.1) (settled_holds m h.0 is.0 (block b.0))) step
finish_stands (m, at (place.Declaring p)) tree read h step = absurd (none_is tree step)
finish_stands (m, at (place.For p)) tree read h step = absurd (none_is tree step)
finish_stands (m, at place.If) tree read h step = absurd (none_is tree step)
finish_stands (m, at (place.Target n list)) tree read h step = absurd (none_is tree step)
finish_stands (m, within s x) tree read h step = absurd (none_is tree step)
