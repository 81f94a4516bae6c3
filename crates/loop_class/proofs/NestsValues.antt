-- Right sides: where no reason stands in one, its reads fit and its expression names only loops and reads that are
-- there.
--
-- `Fitting` says of a value, before which so many reads stand: all its reads fit their arrays, there are 8 at most with
-- those before, its expression names loops round it and reads up to its own last one, and no input value. It is had by
-- induction on the operand, for operands in which no reason stands: a read is at the number of those before it, and two
-- values are joined by letting the second begin where the reads of the first end. The value of a progression's variable
-- is its form, which is written out as multiples and sums of loops.
use Rattle.std.proofs.Common.{◌≡◌, ◌≤◌, ℕ, suc, ◌+◌, ℤ, pos, List, [], ◌∷◌, ◌++◌, map, length, Bool, true, false, cond}
use Rattle.std.proofs.Common.{not, ◌&&◌, ◌||◌, take, length-take, Option, Some, None, refl, sym, ap, ◌∙◌, arith, subst}
use Rattle.std.specs.Prelude.{IsTrue, ◌==◌}
use Rattle.std.specs.List.{list_all}
use Rattle.std.specs.Option.{option_map_or}
use Rattle.std.specs.Cmp.Derive.{both_true}
use Rattle.std.specs.Ordering.{int_eq}
use Rattle.std.proofs.lemmas.Bool.{and_parts, lt-ltb, eq-eqb, eqb-true, eqb-false, or_from}
use Rattle.std.proofs.lemmas.List.{length-append, length-map}
use Rattle.affine_core.specs.declared.form.Form.{Form}
use Rattle.wrap_expr.specs.declared.expr.Expr.{Expr}
use Rattle.wrap_expr.specs.declared.expr.Expr as expr
use Rattle.wrap_expr.specs.declared.expr.Expr.TheOpen as open_expr
use Rattle.wrap_expr.specs.declared.expr.Expr.TheViews as views
use Rattle.wrap_expr.specs.declared.expr.Expr.TheFolds.{fold-Expr, fold-roll-Expr}
use Rattle.wrap_expr.specs.Value.{uses_step, uses_only}
use Rattle.sanlp.specs.declared.nest.ArrayDecl.{ArrayDecl}
use Rattle.sanlp.specs.WellFormed.{form_fits, access_fits, gives_step, uses_given}
use Rattle.sanlp.proofs.Each.{Each, each_then}
use Rattle.sanlp.proofs.Folds.{fold_const, fold_var, fold_read, fold_add}
use Rattle.loop_grammar.specs.declared.tree.BinarySign.{BinarySign}
use Rattle.loop_grammar.specs.declared.tree.BinarySign.TheVariants as sign
use Rattle.loop_grammar.specs.declared.tree.Operand.{Operand}
use Rattle.loop_grammar.specs.declared.tree.Operand.TheOpen.{Operand-F, Number, Access, Binary, Neg, Min, Max}
use Rattle.loop_grammar.specs.declared.tree.Operand.TheFolds.{map-Operand, para-roll-Operand, ind-Operand}
use Rattle.loop_grammar.specs.declared.tree.Operand.TheViews.{roll-Operand}
use Rattle.loop_bind.specs.declared.affine.Affine.{Affine}
use Rattle.loop_bind.specs.declared.error.BindError.{BindError}
use Rattle.loop_bind.specs.declared.error.BindError.TheVariants.{WrongCount, TooManyReads}
use Rattle.loop_bind.specs.declared.scope.Place.TheVariants.{Body}
use Rattle.loop_bind.specs.declared.scope.What.{What}
use Rattle.loop_bind.specs.declared.scope.What.TheVariants.{Parameter, Array, Loop, Progression}
use Rattle.loop_bind.specs.declared.value.Extreme.{Extreme}
use Rattle.loop_bind.specs.declared.value.Extreme.TheVariants.{Least, Greatest}
use Rattle.loop_bind.specs.Forms.{form_over}
use Rattle.loop_bind.specs.Judging.{Scope, forms_of, findings_of, judged, form_or_zero}
use Rattle.loop_bind.specs.Names.{value_named}
use Rattle.loop_bind.specs.Reasons.{found_if}
use Rattle.loop_bind.specs.Values.{Valued, Value, without_reads, subscripts_over, with_multiple, with_multiples}
use Rattle.loop_bind.specs.Values.{form_expr, name_value, binary_expr, extreme_expr, joined, joined_all, list_value}
use Rattle.loop_bind.specs.Values.{value_parts, value_step, valued}
use Rattle.loop_class.proofs.NestsSizes.{IsForm, form_row, all_fit, IsRow}
use Rattle.loop_class.proofs.NestsScope.{HasArray, KnownIfAny, KnownScope, value_known, forms_are}

-- no reason in a joined list: none in its parts
pub none_left : {X : Type 0} (xs ys : List X) → xs ++ ys ≡ [] → xs ≡ []
none_left [] ys e = refl
none_left (x ∷ xs) ys e = absurd (cc)

pub none_right : {X : Type 0} (xs ys : List X) → xs ++ ys ≡ [] → ys ≡ []
none_right [] ys e = e
none_right (x ∷ xs) ys e = absurd (cc)

-- what wasn't found
pub found_none : (b : Bool) (reason : BindError) → found_if b reason ≡ [] → b ≡ false
found_none true reason e = absurd (cc)
found_none false reason e = refl

pub not_found : (b : Bool) (reason : BindError) → found_if (not b) reason ≡ [] → b ≡ true
not_found true reason e = refl
not_found false reason e = absurd (cc)

pub all_append : {X : Type 0} (p : X → Bool) (xs ys : List X) → IsTrue (list_all p xs) → IsTrue (list_all p ys)
    → IsTrue (list_all p (xs ++ ys))
all_append p [] ys h k = k
all_append p (x ∷ xs) ys h k =
    let parts = and_parts (p x) (list_all p xs) h in both_true parts.0 (all_append p xs ys parts.1 k)

-- what an operation of two operands names
record IsJoin (op : Expr → Expr → Expr) : Type 0 where
  uses : (depth slots : ℕ) (a b : Expr)
      → uses_only depth slots (op a b) ≡ (uses_only depth slots a && uses_only depth slots b)
  gives : (a b : Expr) → uses_given (op a b) ≡ (uses_given a || uses_given b)

module _ (A : Type 0) (step : open_expr.Expr-F A → A) where
  fold_sub : (a b : Expr)
      → fold-Expr A step (expr.Sub a b) ≡ step (open_expr.Sub (fold-Expr A step a) (fold-Expr A step b))
  fold_sub a b = ap (fold-Expr A step) (sym (views.rolls-Sub a b)) ∙ fold-roll-Expr A step (open_expr.Sub a b)

  fold_mul : (a b : Expr)
      → fold-Expr A step (expr.Mul a b) ≡ step (open_expr.Mul (fold-Expr A step a) (fold-Expr A step b))
  fold_mul a b = ap (fold-Expr A step) (sym (views.rolls-Mul a b)) ∙ fold-roll-Expr A step (open_expr.Mul a b)

  fold_min : (a b : Expr)
      → fold-Expr A step (expr.Min a b) ≡ step (open_expr.Min (fold-Expr A step a) (fold-Expr A step b))
  fold_min a b = ap (fold-Expr A step) (sym (views.rolls-Min a b)) ∙ fold-roll-Expr A step (open_expr.Min a b)

  fold_max : (a b : Expr)
      → fold-Expr A step (expr.Max a b) ≡ step (open_expr.Max (fold-Expr A step a) (fold-Expr A step b))
  fold_max a b = ap (fold-Expr A step) (sym (views.rolls-Max a b)) ∙ fold-roll-Expr A step (open_expr.Max a b)

  fold_neg : (a : Expr) → fold-Expr A step (expr.Neg a) ≡ step (open_expr.Neg (fold-Expr A step a))
  fold_neg a = ap (fold-Expr A step) (sym (views.rolls-Neg a)) ∙ fold-roll-Expr A step (open_expr.Neg a)

binary_joins : (sign : BinarySign) → IsJoin (binary_expr sign)
binary_joins sign.Add =
    record { uses = λ depth slots. fold_add Bool (uses_step depth slots); gives = fold_add Bool gives_step }
binary_joins sign.Sub =
    record { uses = λ depth slots. fold_sub Bool (uses_step depth slots); gives = fold_sub Bool gives_step }
binary_joins sign.Mul =
    record { uses = λ depth slots. fold_mul Bool (uses_step depth slots); gives = fold_mul Bool gives_step }

extreme_joins : (which : Extreme) → IsJoin (extreme_expr which)
extreme_joins Least =
    record { uses = λ depth slots. fold_min Bool (uses_step depth slots); gives = fold_min Bool gives_step }
extreme_joins Greatest =
    record { uses = λ depth slots. fold_max Bool (uses_step depth slots); gives = fold_max Bool gives_step }

-- an expression that names no more than these loops, and no read and no input value
record IsOfLoops (depth : ℕ) (e : Expr) : Type 0 where
  uses : (slots : ℕ) → IsTrue (uses_only depth slots e)
  no_given : uses_given e ≡ false

multiple_of_loops : (depth : ℕ) (before : Expr) (v : ℕ) (c : ℤ) → suc v ≤ depth → IsOfLoops depth before
    → IsOfLoops depth (with_multiple before v c)
multiple_of_loops depth before v c room h = by_test (int_eq c (pos 0)) where
  multiple : Expr
  multiple = expr.Mul (expr.Const c) (expr.Var v)

  by_test : (b : Bool) → IsOfLoops depth (cond b before (expr.Add before multiple))
  by_test true = h
  by_test false = record {
    uses = λ slots. (binary_joins sign.Add).uses depth slots before multiple
        ∙ both_true (h.uses slots) ((binary_joins sign.Mul).uses depth slots (expr.Const c) (expr.Var v)
        ∙ both_true (fold_const Bool (uses_step depth slots) c)
        (fold_var Bool (uses_step depth slots) v ∙ lt-ltb v depth room));
    no_given = (binary_joins sign.Add).gives before multiple
        ∙ or_from (uses_given before) (uses_given multiple) h.no_given
        ((binary_joins sign.Mul).gives (expr.Const c) (expr.Var v)
        ∙ or_from (uses_given (expr.Const c)) (uses_given (expr.Var v)) (fold_const Bool gives_step c)
        (fold_var Bool gives_step v));
  }

multiples_of_loops : (depth : ℕ) (before : Expr) (v : ℕ) (coefs : List ℤ) → v + length coefs ≤ depth
    → IsOfLoops depth before
    → IsOfLoops depth (with_multiples before v coefs)
multiples_of_loops depth before v [] room h = h
multiples_of_loops depth before v (c ∷ coefs) room h =
    multiples_of_loops depth (with_multiple before v c) (v + 1) coefs (omega arith)
    (multiple_of_loops depth before v c (omega arith) h)

form_of_loops : (depth : ℕ) (f : Affine) → IsOfLoops depth (form_expr (form_over depth f))
form_of_loops depth f =
    multiples_of_loops depth (expr.Const f.constant) 0 (take depth f.coefs) (omega (arith, length-take depth f.coefs))
    (record {
      uses = λ slots. fold_const Bool (uses_step depth slots) f.constant;
      no_given =
          fold_const Bool gives_step f.constant;
    })

-- subscripts that fit the array
pub access_is : (arrays : List ArrayDecl) (d number extents : ℕ) (subscripts : List Form)
    → HasArray arrays number extents
    → length subscripts ≡ extents → IsTrue (list_all (form_fits d) subscripts)
    → IsTrue (access_fits arrays d (record { array = number; subscripts = subscripts }))
access_is arrays d number extents subscripts has count fit =
    let same : length subscripts ≡ length has.array.extents = count ∙ sym has.count in
    both_true
    (ap (λ o. option_map_or (λ array. length subscripts == length array.extents) o false) has.found
    ∙ eq-eqb (length subscripts) (length has.array.extents) same)
    fit

module _ (arrays : List ArrayDecl) (d : ℕ) (in_room : d ≤ 6) (scope : Scope) (known : KnownScope arrays d scope) where
  -- a value before which so many reads stand
  pub record Fitting (slot : ℕ) (v : Valued) : Type 0 where
    pub few : slot + length v.reads ≤ 8
    pub reads : IsTrue (list_all (access_fits arrays d) v.reads)
    pub uses : (slots : ℕ) → slot + length v.reads ≤ slots → IsTrue (uses_only d slots v.expr)
    pub no_given : uses_given v.expr ≡ false

  abbrev pub Fits : Value → Type 0
  Fits value = (slot : ℕ) → slot ≤ 8 → (value slot).findings ≡ [] → Fitting slot (value slot)

  pub subscripts_fit : (subscripts : List Operand)
      → IsTrue (list_all (form_fits d) (subscripts_over d scope subscripts))
  subscripts_fit subscripts =
      all_fit d (forms_of Body scope subscripts) in_room
      (each_then (IsForm d) (IsRow d) (forms_of Body scope subscripts) (form_row d)
      (forms_are arrays d scope known Body subscripts))

  pub subscripts_count : (subscripts : List Operand) → length (subscripts_over d scope subscripts) ≡ length subscripts
  subscripts_count subscripts =
      length-map (forms_of Body scope subscripts) (form_over d)
      ∙ length-map subscripts (λ o. form_or_zero (judged Body scope o))

  const_fits : (c : ℤ) → Fits (λ slot. without_reads (expr.Const c) [])
  const_fits c slot le e = record {
    few = omega arith;
    reads = refl;
    uses = λ slots h. fold_const Bool (uses_step d slots) c;
    no_given = fold_const Bool gives_step c;
  }

  name_fits : (token : ℕ) (o : Option What) (subscripts : List Operand) → KnownIfAny arrays d o
      → Fits (name_value d scope token o subscripts)
  name_fits token None subscripts h slot le e = absurd (cc)
  name_fits token (Some (Array number extents)) subscripts h slot le e =
      let first : List BindError = found_if (not (length subscripts == extents)) (WrongCount token) in
      let second : List BindError = found_if (slot == 8) (TooManyReads token) in
      let third : List BindError = findings_of Body scope subscripts in
      let count : length subscripts ≡ extents =
      eqb-true (length subscripts) extents
      (not_found (length subscripts == extents) (WrongCount token)
      (none_left first second (none_left (first ++ second) third e))) in
      let room : slot ≡ 8 → ⊥ =
      eqb-false slot 8
      (found_none (slot == 8) (TooManyReads token)
      (none_right first second (none_left (first ++ second) third e))) in
      let fits =
      access_is arrays d number extents (subscripts_over d scope subscripts) h (subscripts_count subscripts ∙ count)
      (subscripts_fit subscripts) in
      record {
        few = omega (arith, room);
        reads = both_true fits refl;
        uses = λ slots k. fold_read Bool (uses_step d slots) slot ∙ lt-ltb slot slots (omega arith);
        no_given = fold_read Bool gives_step slot;
      }
  name_fits token (Some (Loop v)) [] h slot le e = record {
    few = omega arith;
    reads = refl;
    uses = λ slots k. fold_var Bool (uses_step d slots) v ∙ lt-ltb v d h;
    no_given = fold_var Bool gives_step v;
  }
  name_fits token (Some (Progression f)) [] h slot le e =
      let of_loops = form_of_loops d f in
      record {
        few = omega arith;
        reads = refl;
        uses = λ slots k. of_loops.uses slots;
        no_given = of_loops.no_given;
      }
  name_fits token (Some (Parameter c)) [] h slot le e = const_fits c slot le e
  name_fits token (Some (Loop v)) (s ∷ subscripts) h slot le e = absurd (cc)
  name_fits token (Some (Progression f)) (s ∷ subscripts) h slot le e = absurd (cc)
  name_fits token (Some (Parameter c)) (s ∷ subscripts) h slot le e = absurd (cc)

  joined_fit : (op : Expr → Expr → Expr) → IsJoin op → (slot : ℕ) (a b : Valued) → Fitting slot a
      → Fitting (slot + length a.reads) b → Fitting slot (joined op a b)
  joined_fit op join slot a b h k =
      let len : length (a.reads ++ b.reads) ≡ length a.reads + length b.reads = length-append a.reads b.reads in
      record {
        few = omega (arith, h.few, k.few);
        reads = all_append (access_fits arrays d) a.reads b.reads h.reads k.reads;
        uses = λ slots le. join.uses d slots a.expr b.expr
            ∙ both_true (h.uses slots (omega arith)) (k.uses slots (omega arith));
        no_given = join.gives a.expr b.expr ∙ or_from (uses_given a.expr) (uses_given b.expr) h.no_given k.no_given;
      }

  none_before : (op : Expr → Expr → Expr) (slot : ℕ) (before : Valued) (values : List Value)
      → (joined_all op slot before values).findings ≡ [] → before.findings ≡ []
  none_before op slot before [] e = e
  none_before op slot before (value ∷ values) e =
      none_left before.findings (value (slot + length before.reads)).findings
      (none_before op slot (joined op before (value (slot + length before.reads))) values e)

  all_fits : (op : Expr → Expr → Expr) → IsJoin op → (slot : ℕ) (before : Valued) (values : List Value)
      → Fitting slot before → Each Fits values
      → (joined_all op slot before values).findings ≡ [] → Fitting slot (joined_all op slot before values)
  all_fits op join slot before [] h each e = h
  all_fits op join slot before (value ∷ values) h each e =
      let now : Valued = value (slot + length before.reads) in
      let none : now.findings ≡ [] =
      none_right before.findings now.findings (none_before op slot (joined op before now) values e) in
      all_fits op join slot (joined op before now) values
      (joined_fit op join slot before now h (each.0 (slot + length before.reads) h.few none)) each.1 e

  list_fits : (op : Expr → Expr → Expr) → IsJoin op → (values : List Value) → Each Fits values
      → Fits (list_value op values)
  list_fits op join [] each slot le e = const_fits (pos 0) slot le e
  list_fits op join (value ∷ values) each slot le e =
      all_fits op join slot (value slot) values (each.0 slot le (none_before op slot (value slot) values e)) each.1 e

  pair_fits : (op : Expr → Expr → Expr) → IsJoin op → (a b : Value) → Fits a → Fits b
      → Fits (λ slot. joined_all op slot (a slot) (b ∷ []))
  pair_fits op join a b h k slot le e =
      all_fits op join slot (a slot) (b ∷ []) (h slot le (none_before op slot (a slot) (b ∷ []) e)) (k, tt) e

  abbrev Fit : Operand → Type 0
  Fit o = Fits (valued d scope o)

  abbrev Part : Type 0
  Part = (o : Operand) × Fit o

  valued_roll : (y : Operand-F Operand)
      → valued d scope (roll-Operand y)
      ≡ value_step d scope (map-Operand Operand (Operand × Value) (λ o. (o, valued d scope o)) y)
  unfolding valued
  valued_roll y = para-roll-Operand Value (value_step d scope) y

  parts_fit : (list : List Part) → Each Fits (value_parts (map (λ o. (o, valued d scope o)) (map (λ e. e.0) list)))
  parts_fit [] = tt
  parts_fit (p ∷ list) = (p.1, parts_fit list)

  neg_fits : (value : Value) → Fits value → Fits (λ slot. let v = value slot in record v { expr = expr.Neg v.expr })
  neg_fits value h slot le e =
      let k = h slot le e in
      record {
        few = k.few;
        reads = k.reads;
        uses = λ slots j. fold_neg Bool (uses_step d slots) (value slot).expr ∙ k.uses slots j;
        no_given = fold_neg Bool gives_step (value slot).expr ∙ k.no_given;
      }

  step_fits : (y : Operand-F Part)
      → Fits (value_step d scope
      (map-Operand Operand (Operand × Value) (λ o. (o, valued d scope o)) (map-Operand Part Operand (λ e. e.0) y)))
  step_fits (Number value token) = const_fits value
  step_fits (Access name subscripts) =
      name_fits name.token (value_named scope name.text) _ (value_known arrays d scope name.text known)
  step_fits (Binary sign token left right) =
      pair_fits (binary_expr sign) (binary_joins sign) (valued d scope left.0) (valued d scope right.0) left.1 right.1
  step_fits (Neg token inner) = neg_fits (valued d scope inner.0) inner.1
  step_fits (Min token list) = list_fits (extreme_expr Least) (extreme_joins Least) _ (parts_fit list)
  step_fits (Max token list) = list_fits (extreme_expr Greatest) (extreme_joins Greatest) _ (parts_fit list)

  pub value_fits : (o : Operand) → Fits (valued d scope o)
  value_fits =
      ind-Operand Fit
      (λ x y is. subst (λ z. Fit (roll-Operand z)) is
      (subst Fits (sym (valued_roll (map-Operand Part Operand (λ e. e.0) y))) (step_fits y)))
