-- Every expression is read, with its tree.
--
-- By induction on the derivation: where a factor, a term or an expression is awaited, feeding its tokens leads to the
-- state behind it (`behind`), whatever frames are open round it and whatever tokens follow. These states aren't yet
-- settled: an expression that was read waits for a token that tells whether it goes on, and on each token that doesn't
-- extend a name with a subscript it acts as its tree does (`factor_settles`, `term_settles`). Outside all brackets the
-- machine ends with that tree (`expr_finishes`). That the machine reads nothing else is shown in `ExpressionSound`.
use Rattle.std.proofs.Common.{◌≡◌, ℕ, true, List, [], ◌∷◌, ◌++◌, refl, sym, ap, ◌∙◌, append_assoc, Option}
use Rattle.std.proofs.Common.{Some, None}
use Rattle.std.proofs.lemmas.List.{append-nil}
use Rattle.loop_grammar.specs.declared.lexeme.Lexeme.{Lexeme}
use Rattle.loop_grammar.specs.declared.lexeme.Lexeme.TheVariants as word
use Rattle.loop_grammar.specs.declared.lexeme.Choice.{Choice}
use Rattle.loop_grammar.specs.declared.tree.Name.{Name}
use Rattle.loop_grammar.specs.declared.tree.Operand.{Operand}
use Rattle.loop_grammar.specs.declared.tree.Operand as operand
use Rattle.loop_parse.specs.declared.expression.Sum.{Sum}
use Rattle.loop_parse.specs.declared.expression.Level.{Level}
use Rattle.loop_parse.specs.declared.expression.Bracket.TheVariants as bracket
use Rattle.loop_parse.specs.declared.expression.Frame.{Frame}
use Rattle.loop_parse.specs.declared.expression.Reading.TheVariants as reading
use Rattle.loop_grammar.specs.Grammar.{Tok, SumSign, plus, minus, Expr, Term, Factor, Access, Exprs, term, sum, factor}
use Rattle.loop_grammar.specs.Grammar.{product, negation, number, parentheses, access, choice, name, subscript, one}
use Rattle.loop_grammar.specs.Grammar.{also, sum_word, binary_sign, chosen, expr_text, term_text, factor_text}
use Rattle.loop_grammar.specs.Grammar.{access_text, exprs_text, expr_tree, term_tree, factor_tree, accessed, subscripts}
use Rattle.loop_grammar.specs.Grammar.{expr_trees}
use Rattle.loop_parse.specs.ExpressionMachine.{State, level_with, fresh, multiplied, summed, factor_value}
use Rattle.loop_parse.specs.ExpressionMachine.{factor_read, feed_read, feed_term, feed_access, feed}
use Rattle.loop_parse.specs.ExpressionMachine.{closed, subscripted, separated, finish, start, has_no_bracket, fed}
use Rattle.loop_parse.proofs.Negations.{negated_append}

-- the state after a factor, a term, an expression
abbrev pub behind_factor : List Frame → Level → Factor → State
behind_factor k level (negation p f) = behind_factor k (record level { negations = level.negations ++ p ∷ [] }) f
behind_factor k level (number n p) = (k, factor_read level (operand.Number n p))
behind_factor k level (parentheses p e q) = (k, factor_read level (expr_tree e))
behind_factor k level (access a) = (k, reading.Access level (accessed a) (subscripts a))
behind_factor k level (choice c p q es r) = (k, factor_read level (chosen c p (expr_trees es)))

abbrev pub behind_term : List Frame → Option Sum → Term → State
behind_term k s (factor f) = behind_factor k (level_with s None) f
behind_term k s (product t p f) = behind_factor k (level_with s (Some (record { left = term_tree t; token = p }))) f

abbrev pub sum_of : Expr → SumSign → ℕ → Sum
sum_of e s p = record { left = expr_tree e; sign = binary_sign s; token = p }

abbrev pub behind : List Frame → Expr → State
behind k (term t) = behind_term k None t
behind k (sum e s p t) = behind_term k (Some (sum_of e s p)) t

-- a token that ends a name with its subscripts
abbrev pub Ends : Lexeme → Type 0
Ends word.OpenSquare = ⊥
Ends _ = Unit {0}

access_settles : (k : List Frame) (level : Level) (n : Name) (list : List Operand) (w : Lexeme) (p : ℕ) → Ends w
    → feed_access k level n list (w, p) ≡ feed_read k level (operand.Access n list) (w, p)
access_settles k level n list word.OpenSquare p ok = absurd ok
access_settles k level n list _ p ok = refl

factor_settles : (f : Factor) (k : List Frame) (level : Level) (w : Lexeme) (p : ℕ) → Ends w
    → feed (behind_factor k level f) (w, p) ≡ feed_read k level (factor_tree f) (w, p)
factor_settles (negation q f) k level w p ok =
    factor_settles f k (record level { negations = level.negations ++ q ∷ [] }) w p ok
    ∙ ap (λ (x : Operand). feed_term k level.sum (multiplied level.product x) (w, p))
    (negated_append level.negations q (factor_tree f))
factor_settles (number n q) k level w p ok = refl
factor_settles (parentheses q e r) k level w p ok = refl
factor_settles (access a) k level w p ok = access_settles k level (accessed a) (subscripts a) w p ok
factor_settles (choice c q r es s) k level w p ok = refl

term_settles : (t : Term) (k : List Frame) (s : Option Sum) (w : Lexeme) (p : ℕ) → Ends w
    → feed (behind_term k s t) (w, p) ≡ feed_term k s (term_tree t) (w, p)
term_settles (factor f) k s w p ok = factor_settles f k (level_with s None) w p ok
term_settles (product t q f) k s w p ok =
    factor_settles f k (level_with s (Some (record { left = term_tree t; token = q }))) w p ok

sum_ends : (s : SumSign) → Ends (sum_word s)
sum_ends plus = tt
sum_ends minus = tt

sum_fed : (k : List Frame) (s : Option Sum) (v : Operand) (sign : SumSign) (p : ℕ)
    → feed_term k s v (sum_word sign, p)
    ≡ Some (
      k,
      reading.Factor
          (level_with (Some (record { left = summed s v; sign = binary_sign sign; token = p })) None),
    )
sum_fed k s v plus p = refl
sum_fed k s v minus p = refl

sum_after : (k : List Frame) (e : Expr) (s : SumSign) (p : ℕ)
    → feed (behind k e) (sum_word s, p) ≡ Some (k, reading.Factor (level_with (Some (sum_of e s p)) None))
sum_after k (term t) s p = term_settles t k None (sum_word s) p (sum_ends s) ∙ sum_fed k None (term_tree t) s p
sum_after k (sum e s' p' t) s p =
    term_settles t k (Some (sum_of e s' p')) (sum_word s) p (sum_ends s)
    ∙ sum_fed k (Some (sum_of e s' p')) (term_tree t) s p

close_after : (k : List Frame) (e : Expr) (p : ℕ) → feed (behind k e) (word.Close, p) ≡ closed k (expr_tree e)
close_after k (term t) p = term_settles t k None word.Close p tt
close_after k (sum e s q t) p = term_settles t k (Some (sum_of e s q)) word.Close p tt

subscript_after : (k : List Frame) (e : Expr) (p : ℕ)
    → feed (behind k e) (word.CloseSquare, p) ≡ subscripted k (expr_tree e)
subscript_after k (term t) p = term_settles t k None word.CloseSquare p tt
subscript_after k (sum e s q t) p = term_settles t k (Some (sum_of e s q)) word.CloseSquare p tt

comma_after : (k : List Frame) (e : Expr) (p : ℕ) → feed (behind k e) (word.Comma, p) ≡ separated k (expr_tree e)
comma_after k (term t) p = term_settles t k None word.Comma p tt
comma_after k (sum e s q t) p = term_settles t k (Some (sum_of e s q)) word.Comma p tt

-- the last of the arguments, and those before it
abbrev pub last_argument : Exprs → Expr
last_argument (one e) = e
last_argument (also es p e) = e

abbrev pub first_arguments : Exprs → List Operand
first_arguments (one e) = []
first_arguments (also es p e) = expr_trees es

all_arguments : (es : Exprs) → first_arguments es ++ expr_tree (last_argument es) ∷ [] ≡ expr_trees es
all_arguments (one e) = refl
all_arguments (also es p e) = refl

abbrev pub arguments : Level → Choice → ℕ → List Operand → Frame
arguments level c p list = record { level = level; bracket = bracket.Arguments c p list }

mutual
  pub reads_expr : (e : Expr) (k : List Frame) (rest : List Tok)
      → fed (Some (k, reading.Factor fresh)) (expr_text e ++ rest) ≡ fed (Some (behind k e)) rest
  reads_expr (term t) k rest = reads_term t k None rest
  reads_expr (sum e s p t) k rest =
      ap (fed (Some (k, reading.Factor fresh))) (append_assoc (expr_text e) ((sum_word s, p) ∷ term_text t) rest)
      ∙ reads_expr e k ((sum_word s, p) ∷ (term_text t ++ rest))
      ∙ ap (λ x. fed x (term_text t ++ rest)) (sum_after k e s p)
      ∙ reads_term t k (Some (sum_of e s p)) rest

  pub reads_term : (t : Term) (k : List Frame) (s : Option Sum) (rest : List Tok)
      → fed (Some (k, reading.Factor (level_with s None))) (term_text t ++ rest) ≡ fed (Some (behind_term k s t)) rest
  reads_term (factor f) k s rest = reads_factor f k (level_with s None) rest
  reads_term (product t p f) k s rest =
      ap (fed (Some (k, reading.Factor (level_with s None))))
      (append_assoc (term_text t) ((word.Times, p) ∷ factor_text f) rest)
      ∙ reads_term t k s ((word.Times, p) ∷ (factor_text f ++ rest))
      ∙ ap (λ x. fed x (factor_text f ++ rest)) (term_settles t k s word.Times p tt)
      ∙ reads_factor f k (level_with s (Some (record { left = term_tree t; token = p }))) rest

  pub reads_factor : (f : Factor) (k : List Frame) (level : Level) (rest : List Tok)
      → fed (Some (k, reading.Factor level)) (factor_text f ++ rest) ≡ fed (Some (behind_factor k level f)) rest
  reads_factor (negation p f) k level rest =
      reads_factor f k (record level { negations = level.negations ++ p ∷ [] }) rest
  reads_factor (number n p) k level rest = refl
  reads_factor (parentheses p e q) k level rest =
      let inside : List Frame = record { level = level; bracket = bracket.Parentheses } ∷ k in
      ap (fed (Some (inside, reading.Factor fresh))) (append_assoc (expr_text e) ((word.Close, q) ∷ []) rest)
      ∙ reads_expr e inside ((word.Close, q) ∷ rest)
      ∙ ap (λ x. fed x rest) (close_after inside e q)
  reads_factor (access a) k level rest = reads_access a k level rest
  reads_factor (choice c p q es r) k level rest =
      ap (fed (Some (arguments level c p [] ∷ k, reading.Factor fresh)))
      (append_assoc (exprs_text es) ((word.Close, r) ∷ []) rest)
      ∙ reads_exprs es k level c p ((word.Close, r) ∷ rest)
      ∙ ap (λ x. fed x rest) (close_after (arguments level c p (first_arguments es) ∷ k) (last_argument es) r)
      ∙ ap (λ (list : List Operand). fed (Some (k, factor_read level (chosen c p list))) rest) (all_arguments es)

  pub reads_access : (a : Access) (k : List Frame) (level : Level) (rest : List Tok)
      → fed (Some (k, reading.Factor level)) (access_text a ++ rest)
      ≡ fed (Some (k, reading.Access level (accessed a) (subscripts a))) rest
  reads_access (name n) k level rest = refl
  reads_access (subscript a p e q) k level rest =
      let inside : List Frame = record { level = level; bracket = bracket.Subscript (accessed a) (subscripts a) } ∷ k in
      ap (fed (Some (k, reading.Factor level)))
      (append_assoc (access_text a) ((word.OpenSquare, p) ∷ (expr_text e ++ (word.CloseSquare, q) ∷ [])) rest
      ∙ ap (λ (x : List Tok). access_text a ++ (word.OpenSquare, p) ∷ x)
      (append_assoc (expr_text e) ((word.CloseSquare, q) ∷ []) rest))
      ∙ reads_access a k level ((word.OpenSquare, p) ∷ (expr_text e ++ (word.CloseSquare, q) ∷ rest))
      ∙ reads_expr e inside ((word.CloseSquare, q) ∷ rest)
      ∙ ap (λ x. fed x rest) (subscript_after inside e q)

  pub reads_exprs : (es : Exprs) (k : List Frame) (level : Level) (c : Choice) (p : ℕ) (rest : List Tok)
      → fed (Some (arguments level c p [] ∷ k, reading.Factor fresh)) (exprs_text es ++ rest)
      ≡ fed (Some (behind (arguments level c p (first_arguments es) ∷ k) (last_argument es))) rest
  reads_exprs (one e) k level c p rest = reads_expr e (arguments level c p [] ∷ k) rest
  reads_exprs (also es q e) k level c p rest =
      ap (fed (Some (arguments level c p [] ∷ k, reading.Factor fresh)))
      (append_assoc (exprs_text es) ((word.Comma, q) ∷ expr_text e) rest)
      ∙ reads_exprs es k level c p ((word.Comma, q) ∷ (expr_text e ++ rest))
      ∙ ap (λ x. fed x (expr_text e ++ rest))
      (comma_after (arguments level c p (first_arguments es) ∷ k) (last_argument es) q)
      ∙ ap (λ (list : List Operand).
      fed (Some (arguments level c p list ∷ k, reading.Factor fresh)) (expr_text e ++ rest)) (all_arguments es)
      ∙ reads_expr e (arguments level c p (expr_trees es) ∷ k) rest

factor_finishes : (f : Factor) (level : Level)
    → finish (behind_factor [] level f) ≡ Some (summed level.sum (factor_value level (factor_tree f)))
factor_finishes (negation q f) level =
    factor_finishes f (record level { negations = level.negations ++ q ∷ [] })
    ∙ ap (λ (x : Operand). Some (summed level.sum (multiplied level.product x)))
    (negated_append level.negations q (factor_tree f))
factor_finishes (number n q) level = refl
factor_finishes (parentheses q e r) level = refl
factor_finishes (access a) level = refl
factor_finishes (choice c q r es s) level = refl

term_finishes : (t : Term) (s : Option Sum) → finish (behind_term [] s t) ≡ Some (summed s (term_tree t))
term_finishes (factor f) s = factor_finishes f (level_with s None)
term_finishes (product t q f) s = factor_finishes f (level_with s (Some (record { left = term_tree t; token = q })))

pub expr_finishes : (e : Expr) → finish (behind [] e) ≡ Some (expr_tree e)
expr_finishes (term t) = term_finishes t None
expr_finishes (sum e s p t) = term_finishes t (Some (sum_of e s p))

factor_outside : (f : Factor) (level : Level) → has_no_bracket (behind_factor [] level f) ≡ true
factor_outside (negation q f) level = factor_outside f (record level { negations = level.negations ++ q ∷ [] })
factor_outside (number n q) level = refl
factor_outside (parentheses q e r) level = refl
factor_outside (access a) level = refl
factor_outside (choice c q r es s) level = refl

term_outside : (t : Term) (s : Option Sum) → has_no_bracket (behind_term [] s t) ≡ true
term_outside (factor f) s = factor_outside f (level_with s None)
term_outside (product t q f) s = factor_outside f (level_with s (Some (record { left = term_tree t; token = q })))

pub expr_outside : (e : Expr) → has_no_bracket (behind [] e) ≡ true
expr_outside (term t) = term_outside t None
expr_outside (sum e s p t) = term_outside t (Some (sum_of e s p))

-- an expression is read to its end
pub whole_expr : (e : Expr) → fed (Some start) (expr_text e) ≡ Some (behind [] e)
whole_expr e = sym (ap (fed (Some start)) (append-nil (expr_text e))) ∙ reads_expr e [] []
