-- A fold at each kind of node, and at each kind of expression.
use Rattle.std.proofs.Common.{◌≡◌, ℕ, ℤ, List, map, sym, ap, ◌∙◌, subst}
use Rattle.affine_core.specs.declared.form.Form.{Form}
use Rattle.sanlp.specs.declared.nest.Node.{Node}
use Rattle.sanlp.specs.declared.nest.Node.TheOpen as open_node
use Rattle.sanlp.specs.declared.nest.Node.TheViews.{roll-Node, Loop, Guard, rolls-Loop, rolls-Guard, rolls-Assign}
use Rattle.sanlp.specs.declared.nest.Node.TheVariants.{Assign}
use Rattle.sanlp.specs.declared.nest.Node.TheFolds.{fold-Node, fold-roll-Node, ind-Node, map-Node}
use Rattle.wrap_expr.specs.declared.expr.Expr.{Expr}
use Rattle.wrap_expr.specs.declared.expr.Expr.TheOpen as open_expr
use Rattle.wrap_expr.specs.declared.expr.Expr.TheViews as views
use Rattle.wrap_expr.specs.declared.expr.Expr.TheVariants as variants
use Rattle.wrap_expr.specs.declared.expr.Expr.TheFolds.{fold-Expr, fold-roll-Expr}
use Rattle.sanlp.proofs.Each.{Each, each_map, each_of}

module _ (A : Type 0) (layer : open_node.Node-F A → A) where
  pub fold_loop : (id : ℕ) (lower upper : List Form) (step : ℤ) (body : List Node)
      → fold-Node A layer (Loop id lower upper step body)
      ≡ layer (open_node.Loop id lower upper step (map (fold-Node A layer) body))
  fold_loop id lower upper step body =
      ap (fold-Node A layer) (sym (rolls-Loop id lower upper step body))
      ∙ fold-roll-Node A layer (open_node.Loop id lower upper step body)

  pub fold_guard : (rows : List Form) (body : List Node)
      → fold-Node A layer (Guard rows body) ≡ layer (open_node.Guard rows (map (fold-Node A layer) body))
  fold_guard rows body =
      ap (fold-Node A layer) (sym (rolls-Guard rows body)) ∙ fold-roll-Node A layer (open_node.Guard rows body)

  pub fold_assign : (s : ℕ) → fold-Node A layer (Assign s) ≡ layer (open_node.Assign s)
  fold_assign s = ap (fold-Node A layer) (sym (rolls-Assign s)) ∙ fold-roll-Node A layer (open_node.Assign s)

-- the same where the fold gives a function
module _ (X B : Type 0) (layer : open_node.Node-F (X → B) → X → B) where
  pub fold_loop_at : (id : ℕ) (lower upper : List Form) (step : ℤ) (body : List Node) (x : X)
      → fold-Node (X → B) layer (Loop id lower upper step body) x
      ≡ layer (open_node.Loop id lower upper step (map (fold-Node (X → B) layer) body)) x
  fold_loop_at id lower upper step body x = ap (λ f. f x) (fold_loop (X → B) layer id lower upper step body)

  pub fold_guard_at : (rows : List Form) (body : List Node) (x : X)
      → fold-Node (X → B) layer (Guard rows body) x
      ≡ layer (open_node.Guard rows (map (fold-Node (X → B) layer) body)) x
  fold_guard_at rows body x = ap (λ f. f x) (fold_guard (X → B) layer rows body)

  pub fold_assign_at : (s : ℕ) (x : X) → fold-Node (X → B) layer (Assign s) x ≡ layer (open_node.Assign s) x
  fold_assign_at s x = ap (λ f. f x) (fold_assign (X → B) layer s)

-- the same where it gives a function of two
module _ (X Y B : Type 0) (layer : open_node.Node-F (X → Y → B) → X → Y → B) where
  pub fold_loop_at_both : (id : ℕ) (lower upper : List Form) (step : ℤ) (body : List Node) (x : X) (y : Y)
      → fold-Node (X → Y → B) layer (Loop id lower upper step body) x y
      ≡ layer (open_node.Loop id lower upper step (map (fold-Node (X → Y → B) layer) body)) x y
  fold_loop_at_both id lower upper step body x y =
      ap (λ f. f x y) (fold_loop (X → Y → B) layer id lower upper step body)

  pub fold_guard_at_both : (rows : List Form) (body : List Node) (x : X) (y : Y)
      → fold-Node (X → Y → B) layer (Guard rows body) x y
      ≡ layer (open_node.Guard rows (map (fold-Node (X → Y → B) layer) body)) x y
  fold_guard_at_both rows body x y = ap (λ f. f x y) (fold_guard (X → Y → B) layer rows body)

  pub fold_assign_at_both : (s : ℕ) (x : X) (y : Y)
      → fold-Node (X → Y → B) layer (Assign s) x y ≡ layer (open_node.Assign s) x y
  fold_assign_at_both s x y = ap (λ f. f x y) (fold_assign (X → Y → B) layer s)

-- what holds of a node where it holds of its parts holds of each node
module _ (P : Node → Type 0)
    (loop : (id : ℕ) (lower upper : List Form) (step : ℤ) (body : List Node) → Each P body
    → P (Loop id lower upper step body))
    (guard : (rows : List Form) (body : List Node) → Each P body → P (Guard rows body))
    (assign : (s : ℕ) → P (Assign s)) where
  abbrev Shown : Type 0
  Shown = (node : Node) × P node

  shown : (body : List Shown) → Each P (map (λ e. e.0) body)
  shown body = each_map P (λ e. e.0) body (each_of (λ (e : Shown). P e.0) body (λ e. e.1))

  of_layer : (y : open_node.Node-F Shown) → P (roll-Node (map-Node Shown Node (λ e. e.0) y))
  of_layer (open_node.Loop id lower upper step body) =
      subst P (sym (rolls-Loop id lower upper step (map (λ e. e.0) body)))
      (loop id lower upper step (map (λ e. e.0) body) (shown body))
  of_layer (open_node.Guard rows body) =
      subst P (sym (rolls-Guard rows (map (λ e. e.0) body))) (guard rows (map (λ e. e.0) body) (shown body))
  of_layer (open_node.Assign s) = subst P (sym (rolls-Assign s)) (assign s)

  pub by_parts : (node : Node) → P node
  by_parts = ind-Node P (λ x y is. subst (λ z. P (roll-Node z)) is (of_layer y))

module _ (A : Type 0) (layer : open_expr.Expr-F A → A) where
  pub fold_const : (c : ℤ) → fold-Expr A layer (variants.Const c) ≡ layer (open_expr.Const c)
  fold_const c = ap (fold-Expr A layer) (sym (views.rolls-Const c)) ∙ fold-roll-Expr A layer (open_expr.Const c)

  pub fold_var : (v : ℕ) → fold-Expr A layer (variants.Var v) ≡ layer (open_expr.Var v)
  fold_var v = ap (fold-Expr A layer) (sym (views.rolls-Var v)) ∙ fold-roll-Expr A layer (open_expr.Var v)

  pub fold_read : (k : ℕ) → fold-Expr A layer (variants.Read k) ≡ layer (open_expr.Read k)
  fold_read k = ap (fold-Expr A layer) (sym (views.rolls-Read k)) ∙ fold-roll-Expr A layer (open_expr.Read k)

  pub fold_given : fold-Expr A layer variants.Given ≡ layer open_expr.Given
  fold_given = ap (fold-Expr A layer) (sym views.rolls-Given) ∙ fold-roll-Expr A layer open_expr.Given

  pub fold_add : (a b : Expr)
      → fold-Expr A layer (variants.Add a b) ≡ layer (open_expr.Add (fold-Expr A layer a) (fold-Expr A layer b))
  fold_add a b = ap (fold-Expr A layer) (sym (views.rolls-Add a b)) ∙ fold-roll-Expr A layer (open_expr.Add a b)

  pub fold_mul : (a b : Expr)
      → fold-Expr A layer (variants.Mul a b) ≡ layer (open_expr.Mul (fold-Expr A layer a) (fold-Expr A layer b))
  fold_mul a b = ap (fold-Expr A layer) (sym (views.rolls-Mul a b)) ∙ fold-roll-Expr A layer (open_expr.Mul a b)

-- the same where the fold gives a function
module _ (X B : Type 0) (layer : open_expr.Expr-F (X → B) → X → B) where
  pub fold_read_at : (k : ℕ) (x : X) → fold-Expr (X → B) layer (variants.Read k) x ≡ layer (open_expr.Read k) x
  fold_read_at k x = ap (λ f. f x) (fold_read (X → B) layer k)

  pub fold_var_at : (v : ℕ) (x : X) → fold-Expr (X → B) layer (variants.Var v) x ≡ layer (open_expr.Var v) x
  fold_var_at v x = ap (λ f. f x) (fold_var (X → B) layer v)

  pub fold_const_at : (c : ℤ) (x : X) → fold-Expr (X → B) layer (variants.Const c) x ≡ layer (open_expr.Const c) x
  fold_const_at c x = ap (λ f. f x) (fold_const (X → B) layer c)

  pub fold_add_at : (a b : Expr) (x : X)
      → fold-Expr (X → B) layer (variants.Add a b) x
      ≡ layer (open_expr.Add (fold-Expr (X → B) layer a) (fold-Expr (X → B) layer b)) x
  fold_add_at a b x = ap (λ f. f x) (fold_add (X → B) layer a b)

  pub fold_mul_at : (a b : Expr) (x : X)
      → fold-Expr (X → B) layer (variants.Mul a b) x
      ≡ layer (open_expr.Mul (fold-Expr (X → B) layer a) (fold-Expr (X → B) layer b)) x
  fold_mul_at a b x = ap (λ f. f x) (fold_mul (X → B) layer a b)

  pub fold_given_at : (x : X) → fold-Expr (X → B) layer variants.Given x ≡ layer open_expr.Given x
  fold_given_at x = ap (λ f. f x) (fold_given (X → B) layer)
