-- What the machine has read of an expression, and that it may be completed.
--
-- `Stands s read`: the tokens that were read are those of the open brackets, outermost first, each behind what waits
-- outside it, and then what waits innermost: a sum's left side, a product's, signs, and perhaps a factor or a name.
-- What stands before a sign or a comma is the text of an operand or of arguments, with its tree. One token keeps this
-- (`feed_stands`), by cases on state and token. At the end no bracket is open, so what was read is an expression with
-- the tree (`finish_stands`). `closes` goes by induction on the open brackets: a number where a factor is awaited, then
-- the end of each bracket.
use Rattle.std.proofs.Common.{◌≡◌, ◌⊎◌, inl, inr, ℕ, true, List, [], ◌∷◌, ◌++◌, refl, sym, ap, ◌∙◌}
use Rattle.std.proofs.Common.{append_assoc, Option, Some, None, pos}
use Rattle.std.proofs.lemmas.List.{append-nil}
use Rattle.loop_grammar.specs.declared.lexeme.Lexeme.TheVariants as word
use Rattle.loop_grammar.specs.declared.lexeme.Choice.{Choice}
use Rattle.loop_grammar.specs.declared.tree.Name.{Name}
use Rattle.loop_grammar.specs.declared.tree.Operand.{Operand}
use Rattle.loop_grammar.specs.declared.tree.Operand as operand
use Rattle.loop_parse.specs.declared.expression.Sum.{Sum}
use Rattle.loop_parse.specs.declared.expression.Product.{Product}
use Rattle.loop_parse.specs.declared.expression.Level.{Level}
use Rattle.loop_parse.specs.declared.expression.Bracket.{Bracket}
use Rattle.loop_parse.specs.declared.expression.Bracket.TheVariants as bracket
use Rattle.loop_parse.specs.declared.expression.Frame.{Frame}
use Rattle.loop_parse.specs.declared.expression.Reading.TheVariants as reading
use Rattle.loop_grammar.specs.Grammar.{Tok, SumSign, plus, minus, Expr, Term, Factor, Access, Exprs, term, sum, factor}
use Rattle.loop_grammar.specs.Grammar.{product, negation, number, parentheses, access, choice, name, subscript, one}
use Rattle.loop_grammar.specs.Grammar.{also, sum_word, binary_sign, chosen, expr_text, term_text, factor_text}
use Rattle.loop_grammar.specs.Grammar.{access_text, exprs_text, expr_tree, term_tree, factor_tree, accessed, subscripts}
use Rattle.loop_grammar.specs.Grammar.{expr_trees}
use Rattle.loop_parse.specs.ExpressionMachine.{State, level_with, fresh, negated, multiplied, summed, factor_value}
use Rattle.loop_parse.specs.ExpressionMachine.{factor_read, feed_factor, feed_arguments, feed_term}
use Rattle.loop_parse.specs.ExpressionMachine.{feed_access, feed, closed, close_bracket, subscripted, close_subscript}
use Rattle.loop_parse.specs.ExpressionMachine.{separated, next_argument, finish, start, has_no_bracket, fed}
use Rattle.loop_parse.proofs.MachineSteps.{some_is, none_is}

-- ---- the tokens that stand for what waits

abbrev pub SumText : Option Sum → List Tok → Type 0
SumText None text = text ≡ []
SumText (Some x) text =
    (e : Expr) × (s : SumSign) × (expr_tree e ≡ x.left) × (binary_sign s ≡ x.sign)
    × (text ≡ expr_text e ++ (sum_word s, x.token) ∷ [])

abbrev pub ProductText : Option Product → List Tok → Type 0
ProductText None text = text ≡ []
ProductText (Some x) text = (t : Term) × (term_tree t ≡ x.left) × (text ≡ term_text t ++ (word.Times, x.token) ∷ [])

abbrev pub signs_text : List ℕ → List Tok
signs_text [] = []
signs_text (p ∷ ps) = (word.Minus, p) ∷ signs_text ps

abbrev pub LevelText : Level → List Tok → Type 0
LevelText level text =
    (s p : List Tok) × SumText level.sum s × ProductText level.product p
    × (text ≡ s ++ (p ++ signs_text level.negations))

abbrev pub ArgumentsText : List Operand → List Tok → Type 0
ArgumentsText list text =
    ((list ≡ []) × (text ≡ [])) ⊎
    ((es : Exprs) × (r : ℕ) × (expr_trees es ≡ list) × (text ≡ exprs_text es ++ (word.Comma, r) ∷ []))

abbrev pub BracketText : Bracket → List Tok → Type 0
BracketText bracket.Parentheses text = (p : ℕ) × (text ≡ (word.Open, p) ∷ [])
BracketText (bracket.Subscript n list) text =
    (a : Access) × (p : ℕ) × (accessed a ≡ n) × (subscripts a ≡ list)
    × (text ≡ access_text a ++ (word.OpenSquare, p) ∷ [])
BracketText (bracket.Arguments c p list) text =
    (q : ℕ) × (before : List Tok) × ArgumentsText list before × (text ≡ (word.Choice c, p) ∷ (word.Open, q) ∷ before)

abbrev pub StackText : List Frame → List Tok → Type 0
StackText [] text = text ≡ []
StackText (f ∷ k) text =
    (outer level opened : List Tok) × StackText k outer × LevelText f.level level × BracketText f.bracket opened
    × (text ≡ outer ++ (level ++ opened))

abbrev pub Stands : State → List Tok → Type 0
Stands (k, reading.Factor level) read =
    (outer own : List Tok) × StackText k outer × LevelText level own × (read ≡ outer ++ own)
Stands (k, reading.Arguments level c p) read =
    (outer own : List Tok) × StackText k outer × LevelText level own
    × (read ≡ outer ++ (own ++ (word.Choice c, p) ∷ []))
Stands (k, reading.Access level n list) read =
    (outer own : List Tok) × (a : Access) × StackText k outer × LevelText level own × (accessed a ≡ n)
    × (subscripts a ≡ list) × (read ≡ outer ++ (own ++ access_text a))
Stands (k, reading.Term s v) read =
    (outer own : List Tok) × (t : Term) × StackText k outer × SumText s own × (term_tree t ≡ v)
    × (read ≡ outer ++ (own ++ term_text t))

-- ---- a factor, a term and an expression are complete

under_signs : (ps : List ℕ) (f : Factor)
    → (g : Factor) × (factor_tree g ≡ negated ps (factor_tree f)) × (factor_text g ≡ signs_text ps ++ factor_text f)
under_signs [] f = (f, refl, refl)
under_signs (p ∷ ps) f =
    let g = under_signs ps f in
    (negation p g.0, ap (λ (x : Operand). operand.Neg p x) g.1, ap (λ (x : List Tok). (word.Minus, p) ∷ x) g.2)

in_product : (x : Option Product) (text : List Tok) → ProductText x text → (f : Factor)
    → (t : Term) × (term_tree t ≡ multiplied x (factor_tree f)) × (term_text t ≡ text ++ factor_text f)
in_product None text h f = (factor f, refl, rw h refl)
in_product (Some x) text h f = (
  product h.0 x.token f,
  rw h.1 refl,
  rw h.2 (sym (append_assoc (term_text h.0) ((word.Times, x.token) ∷ []) (factor_text f))),
)

in_sum : (x : Option Sum) (text : List Tok) → SumText x text → (t : Term)
    → (e : Expr) × (expr_tree e ≡ summed x (term_tree t)) × (expr_text e ≡ text ++ term_text t)
in_sum None text h t = (term t, refl, rw h refl)
in_sum (Some x) text h t = (
  sum h.0 h.1 x.token t,
  rw (h.2, h.3) refl,
  rw h.4 (sym (append_assoc (expr_text h.0) ((sum_word h.1, x.token) ∷ []) (term_text t))),
)

factor_stands : (k : List Frame) (outer : List Tok) (level : Level) (own : List Tok) → StackText k outer
    → LevelText level own → (f : Factor)
    → Stands (k, factor_read level (factor_tree f)) (outer ++ (own ++ factor_text f))
factor_stands k outer level own stack h f =
    let g = under_signs level.negations f in
    let t = in_product level.product h.1 h.3 g.0 in (
      outer,
      h.0,
      t.0,
      stack,
      h.2,
      t.1
          ∙ ap (λ (x : Operand). multiplied level.product x) g.1,
      rw (h.4, t.2, g.2) (simp append_assoc),
    )

-- the expression that a term ends
abbrev pub Ended : List Frame → Operand → List Tok → Type 0
Ended k v read = (outer : List Tok) × (e : Expr) × StackText k outer × (expr_tree e ≡ v) × (read ≡ outer ++ expr_text e)

term_ends : (k : List Frame) (s : Option Sum) (v : Operand) (read : List Tok) → Stands (k, reading.Term s v) read
    → Ended k (summed s v) read
term_ends k s v read h =
    let e = in_sum s h.1 h.4 h.2 in
    (h.0, e.0, h.3, e.1 ∙ ap (λ (x : Operand). summed s x) h.5, h.6 ∙ ap (λ (x : List Tok). h.0 ++ x) (sym e.2))

fresh_text : LevelText fresh []
fresh_text = ([], [], refl, refl, refl)

-- in brackets that were just opened
opens : (k : List Frame) (level : Level) (b : Bracket) (outer own opened : List Tok) → StackText k outer
    → LevelText level own → BracketText b opened
    → Stands (record { level = level; bracket = b } ∷ k, reading.Factor fresh) (outer ++ (own ++ opened))
opens k level b outer own opened stack h is = (
  outer ++ (own ++ opened),
  [],
  (outer, own, opened, stack, h, is, refl),
  fresh_text,
  sym (append-nil (outer ++ (own ++ opened))),
)

end_arguments : (list : List Operand) (before : List Tok) → ArgumentsText list before → (e : Expr)
    → (es : Exprs) × (expr_trees es ≡ list ++ expr_tree e ∷ []) × (exprs_text es ≡ before ++ expr_text e)
end_arguments list before (inl h) e = (one e, rw h.0 refl, rw h.1 refl)
end_arguments list before (inr h) e =
    (also h.0 h.1 e, rw h.2 refl, rw h.3 (sym (append_assoc (exprs_text h.0) ((word.Comma, h.1) ∷ []) (expr_text e))))

-- ---- one token more

close_stands : (k : List Frame) (level : Level) (b : Bracket) (e : Expr) (q : ℕ) (next : State)
    (outer own opened : List Tok) → StackText k outer → LevelText level own → BracketText b opened
    → close_bracket k level b (expr_tree e) ≡ Some next
    → Stands next (outer ++ (own ++ (opened ++ (expr_text e ++ (word.Close, q) ∷ []))))
close_stands k level bracket.Parentheses e q next outer own opened stack h is step =
    rw (← some_is (k, factor_read level (expr_tree e)) next step, is.1)
    (factor_stands k outer level own stack h (parentheses is.0 e q))
close_stands k level (bracket.Arguments c p list) e q next outer own opened stack h is step =
    let es = end_arguments list is.1 is.2 e in
    let text : opened ++ (expr_text e ++ (word.Close, q) ∷ []) ≡ factor_text (choice c p is.0 es.0 q) =
    rw (is.3, es.2) (simp append_assoc) in
    rw (← some_is (k, factor_read level (chosen c p (list ++ expr_tree e ∷ []))) next step, ← es.1, text)
    (factor_stands k outer level own stack h (choice c p is.0 es.0 q))
close_stands k level (bracket.Subscript n list) e q next outer own opened stack h is step = absurd cc

subscript_stands : (k : List Frame) (level : Level) (b : Bracket) (e : Expr) (q : ℕ) (next : State)
    (outer own opened : List Tok) → StackText k outer → LevelText level own → BracketText b opened
    → close_subscript k level b (expr_tree e) ≡ Some next
    → Stands next (outer ++ (own ++ (opened ++ (expr_text e ++ (word.CloseSquare, q) ∷ []))))
subscript_stands k level (bracket.Subscript n list) e q next outer own opened stack h is step =
    rw (← some_is (k, reading.Access level n (list ++ expr_tree e ∷ [])) next step)
    (outer, own, subscript is.0 is.1 e q, stack, h, is.2, rw is.3 refl, rw is.4 (simp append_assoc))
subscript_stands k level bracket.Parentheses e q next outer own opened stack h is step = absurd cc
subscript_stands k level (bracket.Arguments c p list) e q next outer own opened stack h is step = absurd cc

argument_stands : (k : List Frame) (level : Level) (b : Bracket) (e : Expr) (q : ℕ) (next : State)
    (outer own opened : List Tok) → StackText k outer → LevelText level own → BracketText b opened
    → next_argument k level b (expr_tree e) ≡ Some next
    → Stands next (outer ++ (own ++ (opened ++ (expr_text e ++ (word.Comma, q) ∷ []))))
argument_stands k level (bracket.Arguments c p list) e q next outer own opened stack h is step =
    let es = end_arguments list is.1 is.2 e in
    let text : opened ++ (expr_text e ++ (word.Comma, q) ∷ [])
    ≡ (word.Choice c, p) ∷ (word.Open, is.0) ∷ (exprs_text es.0 ++ (word.Comma, q) ∷ []) =
    rw (is.3, es.2) (simp append_assoc) in
    rw (
      ← some_is (
        record { level = level; bracket = bracket.Arguments c p (list ++ expr_tree e ∷ []) }
            ∷ k,
        reading.Factor fresh,
      ) next step,
      text,
    )
    (opens k level (bracket.Arguments c p (list ++ expr_tree e ∷ [])) outer own
    ((word.Choice c, p) ∷ (word.Open, is.0) ∷ (exprs_text es.0 ++ (word.Comma, q) ∷ [])) stack h
    (is.0, exprs_text es.0 ++ (word.Comma, q) ∷ [], inr (es.0, q, es.1, refl), refl))
argument_stands k level bracket.Parentheses e q next outer own opened stack h is step = absurd cc
argument_stands k level (bracket.Subscript n list) e q next outer own opened stack h is step = absurd cc

regroup : (outer own opened e last : List Tok)
    → (outer ++ (own ++ opened) ++ e) ++ last ≡ outer ++ (own ++ (opened ++ (e ++ last)))
regroup outer own opened e last = simp append_assoc

closed_stands : (k : List Frame) (v : Operand) (q : ℕ) (next : State) (read : List Tok) → Ended k v read
    → closed k v ≡ Some next → Stands next (read ++ (word.Close, q) ∷ [])
closed_stands [] v q next read h step = absurd cc
closed_stands (f ∷ k) v q next read h step = let s = h.2 in
    rw (h.4, s.6, regroup s.0 s.1 s.2 (expr_text h.1) ((word.Close, q) ∷ []))
    (close_stands k f.level f.bracket h.1 q next s.0 s.1 s.2 s.3 s.4 s.5 (rw h.3 step))

subscripted_stands : (k : List Frame) (v : Operand) (q : ℕ) (next : State) (read : List Tok) → Ended k v read
    → subscripted k v ≡ Some next → Stands next (read ++ (word.CloseSquare, q) ∷ [])
subscripted_stands [] v q next read h step = absurd cc
subscripted_stands (f ∷ k) v q next read h step = let s = h.2 in
    rw (h.4, s.6, regroup s.0 s.1 s.2 (expr_text h.1) ((word.CloseSquare, q) ∷ []))
    (subscript_stands k f.level f.bracket h.1 q next s.0 s.1 s.2 s.3 s.4 s.5 (rw h.3 step))

separated_stands : (k : List Frame) (v : Operand) (q : ℕ) (next : State) (read : List Tok) → Ended k v read
    → separated k v ≡ Some next → Stands next (read ++ (word.Comma, q) ∷ [])
separated_stands [] v q next read h step = absurd cc
separated_stands (f ∷ k) v q next read h step = let s = h.2 in
    rw (h.4, s.6, regroup s.0 s.1 s.2 (expr_text h.1) ((word.Comma, q) ∷ []))
    (argument_stands k f.level f.bracket h.1 q next s.0 s.1 s.2 s.3 s.4 s.5 (rw h.3 step))

-- after a sign of a sum
sum_stands : (k : List Frame) (v : Operand) (s : SumSign) (q : ℕ) (read : List Tok) → Ended k v read
    → Stands (k, reading.Factor (level_with (Some (record { left = v; sign = binary_sign s; token = q })) None))
    (read ++ (sum_word s, q) ∷ [])
sum_stands k v s q read h = (
  h.0,
  expr_text h.1 ++ (sum_word s, q) ∷ [],
  h.2,
  (
    expr_text h.1 ++ (sum_word s, q)
        ∷ [],
    [],
    (h.1, s, h.3, refl, refl),
    refl,
    sym (append-nil (expr_text h.1 ++ (sum_word s, q) ∷ [])),
  ),
  rw h.4 (append_assoc h.0 (expr_text h.1) ((sum_word s, q) ∷ [])),
)

product_stands : (k : List Frame) (s : Option Sum) (v : Operand) (q : ℕ) (read : List Tok)
    → Stands (k, reading.Term s v) read
    → Stands (k, reading.Factor (level_with s (Some (record { left = v; token = q })))) (read ++ (word.Times, q) ∷ [])
product_stands k s v q read h = (
  h.0,
  h.1 ++ (term_text h.2 ++ (word.Times, q) ∷ []),
  h.3,
  (
    h.1,
    term_text h.2 ++ (word.Times, q) ∷ [],
    h.4,
    (h.2, h.5, refl),
    ap (λ (x : List Tok). h.1 ++ x)
        (sym (append-nil (term_text h.2 ++ (word.Times, q) ∷ []))),
  ),
  rw h.6 (simp append_assoc),
)

term_fed_stands : (k : List Frame) (s : Option Sum) (v : Operand) (t : Tok) (next : State) (read : List Tok)
    → Stands (k, reading.Term s v) read → feed_term k s v t ≡ Some next → Stands next (read ++ t ∷ [])
term_fed_stands k s v (word.Times, q) next read h step =
    rw (← some_is (k, reading.Factor (level_with s (Some (record { left = v; token = q })))) next step)
    (product_stands k s v q read h)
term_fed_stands k s v (word.Plus, q) next read h step =
    rw (← some_is
    (k, reading.Factor (level_with (Some (record { left = summed s v; sign = binary_sign plus; token = q })) None)) next
    step) (sum_stands k (summed s v) plus q read (term_ends k s v read h))
term_fed_stands k s v (word.Minus, q) next read h step =
    rw (← some_is
    (k, reading.Factor (level_with (Some (record { left = summed s v; sign = binary_sign minus; token = q })) None))
    next step) (sum_stands k (summed s v) minus q read (term_ends k s v read h))
term_fed_stands k s v (word.Close, q) next read h step =
    closed_stands k (summed s v) q next read (term_ends k s v read h) step
term_fed_stands k s v (word.CloseSquare, q) next read h step =
    subscripted_stands k (summed s v) q next read (term_ends k s v read h) step
term_fed_stands k s v (word.Comma, q) next read h step =
    separated_stands k (summed s v) q next read (term_ends k s v read h) step
term_fed_stands k s v (_, q) next read h step = absurd (none_is next step)

signed_level : (level : Level) (own : List Tok) (q : ℕ) → LevelText level own
    → LevelText (record level { negations = level.negations ++ q ∷ [] }) (own ++ (word.Minus, q) ∷ [])
signed_level level own q h = (h.0, h.1, h.2, h.3, rw (h.4, more level.negations) (simp append_assoc))
  where
    more : (ps : List ℕ) → signs_text (ps ++ q ∷ []) ≡ signs_text ps ++ (word.Minus, q) ∷ []
    more [] = refl
    more (p ∷ ps) = ap (λ (x : List Tok). (word.Minus, p) ∷ x) (more ps)

factor_fed_stands : (k : List Frame) (level : Level) (t : Tok) (next : State) (read : List Tok)
    → Stands (k, reading.Factor level) read → feed_factor k level t ≡ Some next → Stands next (read ++ t ∷ [])
factor_fed_stands k level (word.Number n, q) next read h step =
    rw (
      ← some_is (k, factor_read level (operand.Number n q)) next step,
      h.4,
      append_assoc h.0 h.1 ((word.Number n, q) ∷ []),
    ) (factor_stands k h.0 level h.1 h.2 h.3 (number n q))
factor_fed_stands k level (word.Minus, q) next read h step =
    rw (← some_is (k, reading.Factor (record level { negations = level.negations ++ q ∷ [] })) next step) (
      h.0,
      h.1 ++ (word.Minus, q)
          ∷ [],
      h.2,
      signed_level level h.1 q h.3,
      rw h.4 (append_assoc h.0 h.1 ((word.Minus, q) ∷ [])),
    )
factor_fed_stands k level (word.Open, q) next read h step =
    rw (
      ← some_is (record { level = level; bracket = bracket.Parentheses } ∷ k, reading.Factor fresh) next step,
      h.4,
      append_assoc h.0 h.1 ((word.Open, q) ∷ []),
    )
    (opens k level bracket.Parentheses h.0 h.1 ((word.Open, q) ∷ []) h.2 h.3 (q, refl))
factor_fed_stands k level (word.Name text, q) next read h step =
    rw (← some_is (k, reading.Access level (record { text = text; token = q }) []) next step) (
      h.0,
      h.1,
      name (record { text = text; token = q }),
      h.2,
      h.3,
      refl,
      refl,
      rw h.4 (append_assoc h.0 h.1 ((word.Name text, q) ∷ [])),
    )
factor_fed_stands k level (word.Choice c, q) next read h step =
    rw (← some_is (k, reading.Arguments level c q) next step)
    (h.0, h.1, h.2, h.3, rw h.4 (append_assoc h.0 h.1 ((word.Choice c, q) ∷ [])))
factor_fed_stands k level (_, q) next read h step = absurd (none_is next step)

arguments_fed_stands : (k : List Frame) (level : Level) (c : Choice) (p : ℕ) (t : Tok) (next : State) (read : List Tok)
    → Stands (k, reading.Arguments level c p) read → feed_arguments k level c p t ≡ Some next
    → Stands next (read ++ t ∷ [])
arguments_fed_stands k level c p (word.Open, q) next read h step =
    let text : read ++ (word.Open, q) ∷ [] ≡ h.0 ++ (h.1 ++ (word.Choice c, p) ∷ (word.Open, q) ∷ []) =
    rw h.4 (simp append_assoc) in
    rw (
      ← some_is (record { level = level; bracket = bracket.Arguments c p [] } ∷ k, reading.Factor fresh) next step,
      text,
    ) (opens k level (bracket.Arguments c p []) h.0 h.1 ((word.Choice c, p) ∷ (word.Open, q) ∷ []) h.2 h.3
    (q, [], inl (refl, refl), refl))
arguments_fed_stands k level c p (_, q) next read h step = absurd (none_is next step)

-- a name that takes no more subscripts is a factor
access_stands : (k : List Frame) (level : Level) (n : Name) (list : List Operand) (read : List Tok)
    → Stands (k, reading.Access level n list) read → Stands (k, factor_read level (operand.Access n list)) read
access_stands k level n list read h = rw (h.7, ← h.5, ← h.6) (factor_stands k h.0 level h.1 h.3 h.4 (access h.2))

access_fed_stands : (k : List Frame) (level : Level) (n : Name) (list : List Operand) (t : Tok) (next : State)
    (read : List Tok) → Stands (k, reading.Access level n list) read → feed_access k level n list t ≡ Some next
    → Stands next (read ++ t ∷ [])
access_fed_stands k level n list (word.OpenSquare, q) next read h step =
    let text : read ++ (word.OpenSquare, q) ∷ [] ≡ h.0 ++ (h.1 ++ (access_text h.2 ++ (word.OpenSquare, q) ∷ [])) =
    rw h.7 (simp append_assoc) in
    rw (
      ← some_is (record { level = level; bracket = bracket.Subscript n list } ∷ k, reading.Factor fresh) next step,
      text,
    ) (opens k level (bracket.Subscript n list) h.0 h.1 (access_text h.2 ++ (word.OpenSquare, q) ∷ []) h.3 h.4
    (h.2, q, h.5, h.6, refl))
access_fed_stands k level n list (w, q) next read h step =
    term_fed_stands k level.sum (factor_value level (operand.Access n list)) (w, q) next read
    (access_stands k level n list read h) step

pub feed_stands : (s : State) (t : Tok) (next : State) (read : List Tok) → Stands s read → feed s t ≡ Some next
    → Stands next (read ++ t ∷ [])
feed_stands (k, reading.Factor level) t next read h step = factor_fed_stands k level t next read h step
feed_stands (k, reading.Arguments level c p) t next read h step = arguments_fed_stands k level c p t next read h step
feed_stands (k, reading.Access level n list) t next read h step = access_fed_stands k level n list t next read h step
feed_stands (k, reading.Term s v) t next read h step = term_fed_stands k s v t next read h step

pub start_stands : Stands start []
start_stands = ([], [], refl, fresh_text, refl)

-- the tokens are an expression of this tree
abbrev pub IsExpr : List Tok → Operand → Type 0
IsExpr read v = (e : Expr) × (expr_text e ≡ read) × (expr_tree e ≡ v)

ended_expr : (v : Operand) (read : List Tok) → Ended [] v read → IsExpr read v
ended_expr v read h = (h.1, sym (h.4 ∙ rw h.2 refl), h.3)

-- what the machine ends with is the tree
pub finish_stands : (s : State) (v : Operand) (read : List Tok) → Stands s read → finish s ≡ Some v → IsExpr read v
finish_stands ([], reading.Factor level) v read h step = absurd cc
finish_stands ([], reading.Arguments level c p) v read h step = absurd cc
finish_stands ([], reading.Access level n list) v read h step =
    rw (← some_is (summed level.sum (factor_value level (operand.Access n list))) v step)
    (ended_expr (summed level.sum (factor_value level (operand.Access n list))) read
    (term_ends [] level.sum (factor_value level (operand.Access n list)) read
    (access_stands [] level n list read h)))
finish_stands ([], reading.Term s w) v read h step =
    rw (← some_is (summed s w) v step) (ended_expr (summed s w) read (term_ends [] s w read h))
finish_stands (f ∷ k, r) v read h step = absurd cc

-- ---- any expression can be completed

pub record Closes (s : State) : Type 0 where
  pub rest : List Tok
  pub last : State
  pub value : Operand
  pub read : fed (Some s) rest ≡ Some last
  pub outside : has_no_bracket last ≡ true
  pub finishes : finish last ≡ Some value

step_closes : (s : State) (t : Tok) (next : State) → feed s t ≡ Some next → Closes next → Closes s
step_closes s t next step c =
    record {
      rest = t ∷ c.rest;
      last = c.last;
      value = c.value;
      read = rw step c.read;
      outside = c.outside;
      finishes =
          c.finishes;
    }

-- outside a bracket that ends here
abbrev pub TermCloses : List Frame → Type 0
TermCloses k = (s : Option Sum) (v : Operand) → Closes (k, reading.Term s v)

abbrev pub AccessCloses : List Frame → Type 0
AccessCloses k = (level : Level) (n : Name) (list : List Operand) → Closes (k, reading.Access level n list)

abbrev pub frame_of : Level → Bracket → Frame
frame_of level b = record { level = level; bracket = b }

bracket_closes : (k : List Frame) (level : Level) (b : Bracket) → TermCloses k → AccessCloses k
    → TermCloses (frame_of level b ∷ k)
bracket_closes k level bracket.Parentheses outer accesses s v =
    step_closes (frame_of level bracket.Parentheses ∷ k, reading.Term s v) (word.Close, 0)
    (k, factor_read level (summed s v)) refl (outer level.sum (factor_value level (summed s v)))
bracket_closes k level (bracket.Arguments c p list) outer accesses s v =
    step_closes (frame_of level (bracket.Arguments c p list) ∷ k, reading.Term s v) (word.Close, 0)
    (k, factor_read level (chosen c p (list ++ summed s v ∷ []))) refl
    (outer level.sum (factor_value level (chosen c p (list ++ summed s v ∷ []))))
bracket_closes k level (bracket.Subscript n list) outer accesses s v =
    step_closes (frame_of level (bracket.Subscript n list) ∷ k, reading.Term s v) (word.CloseSquare, 0)
    (k, reading.Access level n (list ++ summed s v ∷ [])) refl (accesses level n (list ++ summed s v ∷ []))

inner_closes : (k : List Frame) (level : Level) (b : Bracket) → TermCloses k → AccessCloses k
    → AccessCloses (frame_of level b ∷ k)
inner_closes k level bracket.Parentheses outer accesses inner n list =
    let v : Operand =
    summed inner.sum (factor_value inner (operand.Access n list)) in step_closes
    (frame_of level bracket.Parentheses ∷ k, reading.Access inner n list) (word.Close, 0)
    (k, factor_read level v) refl (outer level.sum (factor_value level v))
inner_closes k level (bracket.Arguments c p args) outer accesses inner n list =
    let v : Operand =
    summed inner.sum (factor_value inner (operand.Access n list)) in step_closes
    (frame_of level (bracket.Arguments c p args) ∷ k, reading.Access inner n list) (word.Close, 0)
    (k, factor_read level (chosen c p (args ++ v ∷ []))) refl
    (outer level.sum (factor_value level (chosen c p (args ++ v ∷ []))))
inner_closes k level (bracket.Subscript m subs) outer accesses inner n list =
    let v : Operand =
    summed inner.sum (factor_value inner (operand.Access n list)) in step_closes
    (frame_of level (bracket.Subscript m subs) ∷ k, reading.Access inner n list) (word.CloseSquare, 0)
    (k, reading.Access level m (subs ++ v ∷ [])) refl (accesses level m (subs ++ v ∷ []))

mutual
  term_closes : (k : List Frame) (s : Option Sum) (v : Operand) → Closes (k, reading.Term s v)
  term_closes [] s v =
      record {
        rest = [];
        last = ([], reading.Term s v);
        value = summed s v;
        read = refl;
        outside = refl;
        finishes =
            refl;
      }
  term_closes (f ∷ k) s v = bracket_closes k f.level f.bracket (term_closes k) (access_closes k) s v

  access_closes : (k : List Frame) (level : Level) (n : Name) (list : List Operand)
      → Closes (k, reading.Access level n list)
  access_closes [] level n list =
      record {
        rest = [];
        last = ([], reading.Access level n list);
        value =
            summed level.sum (factor_value level (operand.Access n list));
        read = refl;
        outside = refl;
        finishes = refl;
      }
  access_closes (f ∷ k) level n list = inner_closes k f.level f.bracket (term_closes k) (access_closes k) level n list

factor_closes : (k : List Frame) (level : Level) → Closes (k, reading.Factor level)
factor_closes k level =
    step_closes (k, reading.Factor level) (word.Number (pos 0), 0)
    (k, factor_read level (operand.Number (pos 0) 0)) refl
    (term_closes k level.sum (factor_value level (operand.Number (pos 0) 0)))

pub closes : (s : State) → Closes s
closes (k, reading.Factor level) = factor_closes k level
closes (k, reading.Arguments level c p) =
    step_closes (k, reading.Arguments level c p) (word.Open, 0)
    (record { level = level; bracket = bracket.Arguments c p [] } ∷ k, reading.Factor fresh) refl
    (factor_closes (record { level = level; bracket = bracket.Arguments c p [] } ∷ k) fresh)
closes (k, reading.Access level n list) = access_closes k level n list
closes (k, reading.Term s v) = term_closes k s v
