-- What the value of an operand comes to, by its kind.
--
-- `Reads` follows the code beside the specification: the expression is the value's, its reads are put behind those
-- before, and the least reason is taken on. A value is a function of the number of reads before it, so of two the
-- second begins where the reads of the first end, which is how many the code has by then (`joined_reads`). For each
-- kind of operand the value is unfolded once, and for the operands of a `min` or a `max` the invariant of the loop over
-- them goes on by one (`next_reads`).
use Rattle.std.proofs.Common.{◌≡◌, ℕ, suc, ◌+◌, ◌<◌, take, get_or, Result, ℤ, List, [], ◌∷◌, ◌++◌, length, map, Option}
use Rattle.std.proofs.Common.{refl, sym, ap, subst, ◌∙◌, append_assoc, append-nil, length-append}
use Rattle.std.specs.Prelude.{IfOk}
use Rattle.std.proofs.lemmas.List.{map-append, take_more}
use Rattle.std.proofs.lemmas.Result.{IfOk-weaker}
use Rattle.wrap_expr.specs.declared.expr.Expr.{Expr, Const}
use Rattle.wrap_expr.specs.declared.expr.Expr as expr
use Rattle.sanlp.specs.declared.nest.Access.{Access as Reference}
use Rattle.loop_grammar.specs.declared.tree.BinarySign.{BinarySign}
use Rattle.loop_grammar.specs.declared.tree.Name.{Name}
use Rattle.loop_grammar.specs.declared.tree.Operand.{Operand}
use Rattle.loop_grammar.specs.declared.tree.Operand.TheOpen as layer
use Rattle.loop_grammar.specs.declared.tree.Operand.TheVariants.{Number, Access, Binary, Neg, Min, Max, rolls-Number}
use Rattle.loop_grammar.specs.declared.tree.Operand.TheVariants.{rolls-Access, rolls-Binary, rolls-Neg, rolls-Min}
use Rattle.loop_grammar.specs.declared.tree.Operand.TheVariants.{rolls-Max}
use Rattle.loop_grammar.specs.declared.tree.Operand.TheFolds.{para-roll-Operand}
use Rattle.loop_bind.specs.declared.error.BindError.{BindError}
use Rattle.loop_bind.specs.declared.value.Extreme.{Extreme}
use Rattle.loop_bind.specs.declared.value.Extreme.TheVariants.{Least, Greatest}
use Rattle.loop_bind.specs.Judging.{Scope}
use Rattle.loop_bind.specs.Names.{value_named}
use Rattle.loop_bind.specs.Reasons.{least_from}
use Rattle.loop_bind.specs.Following.{Reads}
use Rattle.loop_bind.specs.Values.{Valued, Value, valued, value_step, value_parts, without_reads, name_value}
use Rattle.loop_bind.specs.Values.{binary_expr, extreme_expr, joined, joined_all, list_value}
use Rattle.loop_bind.proofs.JudgeLemmas.{least_append}

-- an operand beside its value
abbrev beside : ℕ → Scope → Operand → Operand × Value
beside depth scope o = (o, valued depth scope o)

firsts : (depth : ℕ) (scope : Scope) (list : List Operand) → map (λ p. p.0) (map (beside depth scope) list) ≡ list
firsts depth scope [] = refl
firsts depth scope (o ∷ list) = ap (λ rest. o ∷ rest) (firsts depth scope list)

seconds : (depth : ℕ) (scope : Scope) (list : List Operand)
    → value_parts (map (beside depth scope) list) ≡ map (valued depth scope) list
seconds depth scope [] = refl
seconds depth scope (o ∷ list) = ap (λ rest. valued depth scope o ∷ rest) (seconds depth scope list)

module _ (depth : ℕ) (scope : Scope) (op : Operand) (k : ℕ) where
  pub valued_number : (v : ℤ) (token : ℕ) → op ≡ Number v token → valued depth scope op k ≡ without_reads (Const v) []
  unfolding valued
  valued_number v token is =
      ap (λ o. valued depth scope o k) (is ∙ sym (rolls-Number v token))
      ∙ ap (λ f. f k) (para-roll-Operand Value (value_step depth scope) (layer.Number v token))

  pub valued_access : (name : Name) (subscripts : List Operand) → op ≡ Access name subscripts
      → valued depth scope op k ≡ name_value depth scope name.token (value_named scope name.text) subscripts k
  unfolding valued
  valued_access name subscripts is =
      ap (λ o. valued depth scope o k) (is ∙ sym (rolls-Access name subscripts))
      ∙ ap (λ f. f k) (para-roll-Operand Value (value_step depth scope) (layer.Access name subscripts))
      ∙ ap (λ list. name_value depth scope name.token (value_named scope name.text) list k)
      (firsts depth scope subscripts)

  pub valued_binary : (sign : BinarySign) (token : ℕ) (left right : Operand) → op ≡ Binary sign token left right
      → valued depth scope op k
      ≡ joined (binary_expr sign) (valued depth scope left k)
      (valued depth scope right (k + length (valued depth scope left k).reads))
  unfolding valued
  valued_binary sign token left right is =
      ap (λ o. valued depth scope o k) (is ∙ sym (rolls-Binary sign token left right))
      ∙ ap (λ f. f k) (para-roll-Operand Value (value_step depth scope) (layer.Binary sign token left right))

  pub valued_neg : (token : ℕ) (inner : Operand) → op ≡ Neg token inner
      → valued depth scope op k
      ≡ record (valued depth scope inner k) { expr = expr.Neg (valued depth scope inner k).expr }
  unfolding valued
  valued_neg token inner is =
      ap (λ o. valued depth scope o k) (is ∙ sym (rolls-Neg token inner))
      ∙ ap (λ f. f k) (para-roll-Operand Value (value_step depth scope) (layer.Neg token inner))

  pub valued_min : (token : ℕ) (list : List Operand) → op ≡ Min token list
      → valued depth scope op k ≡ list_value (extreme_expr Least) (map (valued depth scope) list) k
  unfolding valued
  valued_min token list is =
      ap (λ o. valued depth scope o k) (is ∙ sym (rolls-Min token list))
      ∙ ap (λ f. f k) (para-roll-Operand Value (value_step depth scope) (layer.Min token list))
      ∙ ap (λ vs. list_value (extreme_expr Least) vs k) (seconds depth scope list)

  pub valued_max : (token : ℕ) (list : List Operand) → op ≡ Max token list
      → valued depth scope op k ≡ list_value (extreme_expr Greatest) (map (valued depth scope) list) k
  unfolding valued
  valued_max token list is =
      ap (λ o. valued depth scope o k) (is ∙ sym (rolls-Max token list))
      ∙ ap (λ f. f k) (para-roll-Operand Value (value_step depth scope) (layer.Max token list))
      ∙ ap (λ vs. list_value (extreme_expr Greatest) vs k) (seconds depth scope list)

-- what reads nothing leaves all as it was
pub no_reads : (e : Expr) (r : List Reference) (l : Option BindError) (v : Valued) → v ≡ without_reads e []
    → Reads e r r l l v
no_reads e r l v is = record {
  expr = sym (ap (λ v. v.expr) is);
  reads = sym (ap (λ v. r ++ v.reads) is ∙ append-nil r);
  least = sym (ap (λ v. least_from l v.findings) is);
}

-- one value after another
pub joined_reads : (op : Expr → Expr → Expr) (a b : Expr) (r r1 r2 : List Reference) (l l1 l2 : Option BindError)
    (va : Valued) (vb : Value)
    → Reads a r r1 l l1 va → Reads b r1 r2 l1 l2 (vb (length r1))
    → Reads (op a b) r r2 l l2 (joined op va (vb (length r + length va.reads)))
joined_reads op a b r r1 r2 l l1 l2 va vb ha hb =
    let n : length r1 ≡ length r + length va.reads = ap length ha.reads ∙ length-append r va.reads in
    let hc : Reads b r1 r2 l1 l2 (vb (length r + length va.reads)) = subst (λ n. Reads b r1 r2 l1 l2 (vb n)) n hb in
    record {
      expr = λ i. op (ha.expr i) (hc.expr i);
      reads = hc.reads ∙ ap (λ x. x ++ (vb (length r + length va.reads)).reads) ha.reads
          ∙ append_assoc r va.reads (vb (length r + length va.reads)).reads;
      least = hc.least ∙ ap (λ x. least_from x (vb (length r + length va.reads)).findings) ha.least
          ∙ sym (least_append l va.findings (vb (length r + length va.reads)).findings);
    }

pub joined_all_more : (op : Expr → Expr → Expr) (slot : ℕ) (before : Valued) (vs : List Value) (v : Value)
    → joined_all op slot before (vs ++ v ∷ [])
    ≡ joined op (joined_all op slot before vs) (v (slot + length (joined_all op slot before vs).reads))
joined_all_more op slot before [] v = refl
joined_all_more op slot before (u ∷ vs) v =
    joined_all_more op slot (joined op before (u (slot + length before.reads))) vs v

-- the value of an operand with two below it
pub binary_ok : {E : Type 0} (result : Result Expr E) (op : Expr → Expr → Expr) (a b : Expr) (r r1 r2 : List Reference)
    (l l1 l2 : Option BindError) (va : Valued) (vb : Value) (v : Valued)
    → IfOk result (λ e. e ≡ op a b) → Reads a r r1 l l1 va → Reads b r1 r2 l1 l2 (vb (length r1))
    → v ≡ joined op va (vb (length r + length va.reads))
    → IfOk result (λ e. Reads e r r2 l l2 v)
binary_ok result op a b r r1 r2 l l1 l2 va vb v made ha hb is =
    IfOk-weaker result (λ e. e ≡ op a b) (λ e. Reads e r r2 l l2 v)
    (λ e same. subst (λ e. Reads e r r2 l l2 v) (sym same)
    (subst (λ v. Reads (op a b) r r2 l l2 v) (sym is) (joined_reads op a b r r1 r2 l l1 l2 va vb ha hb))) made

pub neg_reads : (e a : Expr) (r r1 : List Reference) (l l1 : Option BindError) (va v : Valued) → e ≡ expr.Neg a
    → Reads a r r1 l l1 va
    → v ≡ record va { expr = expr.Neg va.expr } → Reads e r r1 l l1 v
neg_reads e a r r1 l l1 va v made ha is =
    subst (λ v. Reads e r r1 l l1 v) (sym is)
    (record { expr = made ∙ ap expr.Neg ha.expr; reads = ha.reads; least = ha.least })

pub same_ok : {E : Type 0} (result : Result Expr E) (r r1 : List Reference) (l l1 : Option BindError) (w v : Valued)
    → IfOk result (λ e. Reads e r r1 l l1 w) → v ≡ w → IfOk result (λ e. Reads e r r1 l l1 v)
same_ok result r r1 l l1 w v h is = subst (λ v. IfOk result (λ e. Reads e r r1 l l1 v)) (sym is) h

-- the values of the first operands
abbrev pub first_values : Extreme → ℕ → Scope → List Operand → ℕ → Value
first_values which depth scope operands n k =
    list_value (extreme_expr which) (map (valued depth scope) (take n operands)) k

first_values_more : (which : Extreme) (depth : ℕ) (scope : Scope) (first : Operand) (others : List Operand) (i : ℕ)
    (item : Operand) (k : ℕ)
    → take (i + 1) others ≡ take i others ++ item ∷ []
    → first_values which depth scope (first ∷ others) (suc (i + 1)) k
    ≡ joined (extreme_expr which) (first_values which depth scope (first ∷ others) (suc i) k)
    (valued depth scope item (k + length (first_values which depth scope (first ∷ others) (suc i) k).reads))
first_values_more which depth scope first others i item k more =
    ap (λ xs. joined_all (extreme_expr which) k (valued depth scope first k) (map (valued depth scope) xs)) more
    ∙ ap (joined_all (extreme_expr which) k (valued depth scope first k))
    (map-append (valued depth scope) (take i others) (item ∷ []))
    ∙ joined_all_more (extreme_expr which) k (valued depth scope first k) (map (valued depth scope) (take i others))
    (valued depth scope item)

pub next_reads : (which : Extreme) (depth : ℕ) (scope : Scope) (operands others : List Operand) (first item : Operand)
    (i : ℕ)
    (e a b : Expr) (r r1 r2 : List Reference) (l l1 l2 : Option BindError)
    → operands ≡ first ∷ others → i < length others → item ≡ get_or others i item
    → Reads a r r1 l l1 (first_values which depth scope operands (suc i) (length r))
    → Reads b r1 r2 l1 l2 (valued depth scope item (length r1)) → e ≡ extreme_expr which a b
    → Reads e r r2 l l2 (first_values which depth scope operands (suc (i + 1)) (length r))
next_reads which depth scope operands others first item i e a b r r1 r2 l l1 l2 all below at ha hb made =
    let more : take (i + 1) others ≡ take i others ++ item ∷ [] =
    take_more others i item below ∙ ap (λ x. take i others ++ x ∷ []) (sym at) in
    let v = first_values which depth scope (first ∷ others) (suc i) (length r) in
    let hc : Reads a r r1 l l1 v =
    subst (λ xs. Reads a r r1 l l1 (first_values which depth scope xs (suc i) (length r))) all ha in
    subst (λ xs. Reads e r r2 l l2 (first_values which depth scope xs (suc (i + 1)) (length r))) (sym all)
    (subst (λ v. Reads e r r2 l l2 v) (sym (first_values_more which depth scope first others i item (length r) more))
    (subst (λ e.
    Reads e r r2 l l2 (joined (extreme_expr which) v (valued depth scope item (length r + length v.reads))))
    (sym made)
    (joined_reads (extreme_expr which) a b r r1 r2 l l1 l2 v (valued depth scope item) hc hb)))
