-- Each loop variable is bounded above by some form, and the terms of the choices show the edges at the chosen place.
--
-- A loop variable has a domain row that takes it off and has no inner variable. So its edge comes from 0, or from an
-- outer variable, which some form bounds: with the edge that form bounds this variable too, since the bounds are
-- closed. At the chosen place an edge between two variables is shown by the terms of the second one for the path that
-- the first one's form begins with: no path betters a bound, so that this path's form is no less than the first form
-- and the edge.
use Rattle.std.proofs.Common.{◌≡◌, ◌+◌, ◌*◌, ◌^◌, ◌≤◌, ◌<◌, ◌==◌, ◌&&◌, ℕ, zero, suc, ℤ, pos, negsuc, ◌+ℤ◌, ◌-ℤ◌}
use Rattle.std.proofs.Common.{◌≤ℤ◌, ◌<ℤ◌, List, [], ◌∷◌, length, take, Bool, true, false, cond, refl, sym}
use Rattle.std.proofs.Common.{ap, ◌∙◌, subst, arith, inl, inr, ◌⊎◌, lt-ltb}
use Rattle.std.proofs.Math.Logic.{∥∥₁_elim}
use Rattle.std.specs.Prelude.{Option, Some, None, slice_get, slice_index_or, nat_lt}
use Rattle.std.specs.List.{list_all}
use Rattle.std.specs.Option.{option_map, option_map_or}
use Rattle.std.specs.Ordering.{int_eq}
use Rattle.std.proofs.lemmas.Bool.{cases_lt, eq-eqb, and_parts}
use Rattle.std.proofs.lemmas.Int.{ints}
use Rattle.std.proofs.lemmas.List.{length-map}
use Rattle.std.proofs.lemmas.Option.{same_Some, slice_get-map}
use Rattle.affine_core.specs.declared.form.Form.{Form}
use Rattle.affine_core.proofs.Integers.{int_eq-true, eq-int_eq}
use Rattle.int_polyhedra.specs.declared.system.System.{System}
use Rattle.int_polyhedra.specs.declared.system.Term.{Term}
use Rattle.sanlp.proofs.Elements.{list_all_at}
use Rattle.sanlp.specs.Bounds.{BoundsAbove}
use Rattle.sanlp.specs.WellFormed.{form_fits}
use Rattle.tree_graphs.specs.Asked.{depth_of_write, read_of, write_of}
use Rattle.lex_max.specs.Choices.{chosen_place, upper_of, uppers_of, AreChosen, AreReady, IsChoice}
use Rattle.tree_graphs.specs.Class.{is_difference}
use Rattle.tree_graphs.specs.Closed.{value_at}
use Rattle.tree_graphs.specs.Edges.{domain_edge_of, edge_parts, node_of, IsEdge}
use Rattle.tree_graphs.specs.Facts.{form_parts, IsFact}
use Rattle.tree_graphs.specs.Rounds.{AreClosedOf}
use Rattle.tree_graphs.specs.declared.closure.Bounds.{Bounds}
use Rattle.lex_max.specs.declared.decide.Choice.{Choice}
use Rattle.tree_graphs.specs.declared.edges.Edge.{Edge}
use Rattle.tree_graphs.specs.declared.writes.Writes.{Writes}
use Rattle.lex_max.proofs.LeastForm.{choices_at, no_less_at, HasTerms}
use Rattle.tree_graphs.proofs.FactSums.{fact_weaker}
use Rattle.tree_graphs.proofs.EdgeRows.{node_few}
use Rattle.tree_graphs.proofs.Differences.{by_trit, differences_are, how_many, is_trit, past_part, AreTrits}
use Rattle.tree_graphs.proofs.ProblemBounds.{form_is, writes_fit, IsKnown, FormFits}
use Rattle.plain_data.proofs.Lists.{All-slice_get}
use Rattle.tree_sums.specs.Closure.{AtMost, bound_sum}
use Rattle.tree_sums.specs.Parts.{Part, the_constant, the_coefficient, part_of, row_part}

-- Values

some_from : (x : Option ℤ) (y : ℤ) → AtMost x (Some y) → (z : ℤ) × (x ≡ Some z) × (z ≤ℤ y)
some_from None y h = absurd h
some_from (Some x) y h = (x, refl, h)

-- the first variable with a coefficient has it
node_has : (c : ℤ) (cs : List ℤ) → node_of c cs < length cs → slice_index_or cs (node_of c cs) (pos 0) ≡ c
node_has c [] lt = absurd (omega arith)
node_has c (d ∷ cs) lt = go (λ lt. node_has c cs lt) (int_eq d c) refl lt where
  go : (node_of c cs < length cs → slice_index_or cs (node_of c cs) (pos 0) ≡ c) → (b : Bool) → int_eq d c ≡ b → cond b
      0 (suc (node_of c cs)) < suc (length cs) → slice_index_or (d ∷ cs) (cond b 0 (suc (node_of c cs))) (pos 0) ≡ c
  go rest true is lt = int_eq-true d c is
  go rest false is lt = rest (omega (arith, lt))

has_one : (c : ℤ) (cs : List ℤ) (v : ℕ) → v < length cs → slice_index_or cs v (pos 0) ≡ c → 1 ≤ how_many c cs
has_one c [] v lt e = absurd (omega arith)
has_one c (d ∷ cs) zero lt e =
    let same : d ≡ c = e in
    let here : int_eq d c ≡ true = eq-int_eq d c same in
    let count : how_many c (d ∷ cs) ≡ 1 + how_many c cs = ap (λ b. cond b 1 0 + how_many c cs) here in
    omega (arith, count)
has_one c (d ∷ cs) (suc v) lt e =
    let rest : 1 ≤ how_many c cs = has_one c cs v (omega (arith, lt)) e in
    omega (arith, rest)

once_node : (c : ℤ) (cs : List ℤ) (v : ℕ) → how_many c cs ≤ 1 → slice_index_or cs v (pos 0) ≡ c → v < length cs
    → node_of c cs ≡ v
once_node c [] v once e lt = absurd (omega arith)
once_node c (d ∷ cs) zero once e lt = ap (λ b. cond b 0 (suc (node_of c cs))) (eq-int_eq d c e)
once_node c (d ∷ cs) (suc v) once e lt =
    go (λ once. once_node c cs v once e (omega (arith, lt))) (int_eq d c) refl where
      rest : 1 ≤ how_many c cs
      rest = has_one c cs v (omega (arith, lt)) e

      go : (how_many c cs ≤ 1 → node_of c cs ≡ v) → (b : Bool) → int_eq d c ≡ b → cond b 0 (suc (node_of c cs)) ≡ suc v
      go inner true is =
          let count : 1 + how_many c cs ≤ 1 = subst (λ b. cond b 1 0 + how_many c cs ≤ 1) is once in
          absurd (omega (arith, count, rest))
      go inner false is =
          let count : 0 + how_many c cs ≤ 1 = subst (λ b. cond b 1 0 + how_many c cs ≤ 1) is once in
          ap suc (inner (omega (arith, count)))

trit_at : (cs : List ℤ) (v : ℕ) → list_all is_trit cs ≡ true → (slice_index_or cs v (pos 0) ≡ pos 0) ⊎
    ((slice_index_or cs v (pos 0) ≡ pos 1) ⊎ (slice_index_or cs v (pos 0) ≡ negsuc 0))
trit_at [] v t = inl refl
trit_at (c ∷ cs) zero t =
    let b = and_parts (is_trit c) (list_all is_trit cs) t in
    by_trit c (λ c. (c ≡ pos 0) ⊎ ((c ≡ pos 1) ⊎ (c ≡ negsuc 0))) b.0 (inl refl) (inr (inl refl)) (inr (inr refl))
trit_at (c ∷ cs) (suc v) t = trit_at cs v (and_parts (is_trit c) (list_all is_trit cs) t).1

taken_at : {X : Type 0} (xs : List X) (n i : ℕ) (x : X) → slice_get (take n xs) i ≡ Some x → slice_get xs i ≡ Some x
taken_at [] zero i x e = e
taken_at [] (suc n) i x e = e
taken_at (y ∷ xs) zero i x e = absurd (let f : None ≡ Some x = e in cc)
taken_at (y ∷ xs) (suc n) zero x e = e
taken_at (y ∷ xs) (suc n) (suc i) x e = taken_at xs n i x e

-- a variable whose coefficient is below 0 is the one with -1
trit_below : (c : ℤ) → (c ≡ pos 0) ⊎ ((c ≡ pos 1) ⊎ (c ≡ negsuc 0)) → c <ℤ pos 0 → c ≡ negsuc 0
trit_below c h low = elim h [
  | inl z ↦ absurd (omega (arith, ints, z, low))
  | inr k ↦ elim k [ inl o ↦ absurd (omega (arith, ints, o, low)) | inr m ↦ m ]
]

module _ (w : Writes) (edges : List Edge) (bounds : Bounds) (ready : AreReady w edges bounds) where
  abbrev vars : ℕ
  vars = w.vars

  abbrev depth : ℕ
  depth = depth_of_write w

  closed : AreClosedOf w edges bounds
  closed = ready.closed

  pub edge_at : (k : ℕ) (g : Edge) → slice_get edges k ≡ Some g → IsEdge vars depth g
  edge_at k g is = All-slice_get (IsEdge vars depth) edges k g ready.graph.graph.each is

  -- the form of a path
  upper_is : (v : ℕ) (g : Edge) (value : ℤ) → g.from ≡ depth → g.to < depth → value_at bounds g.to v ≡ Some value
      → upper_of depth bounds v g ≡ Some (record g.weight { constant = g.weight.constant +ℤ value })
  upper_is v g value first inside is =
      ap (λ b. cond (b && nat_lt g.to depth) (option_map
      (λ value. record g.weight { constant = g.weight.constant +ℤ value }) (value_at bounds g.to v)) None)
      (eq-eqb g.from depth first)
      ∙ ap (λ b. cond b (option_map (λ value. record g.weight { constant = g.weight.constant +ℤ value })
      (value_at bounds g.to v)) None) (lt-ltb g.to depth inside)
      ∙ ap (option_map (λ value. record g.weight { constant = g.weight.constant +ℤ value })) is

  upper_at : (v k : ℕ) (g : Edge) → slice_get edges k ≡ Some g → slice_get (uppers_of depth bounds edges v) k
      ≡ Some (upper_of depth bounds v g)
  upper_at v k g is = slice_get-map (upper_of depth bounds v) edges k ∙ ap (option_map (upper_of depth bounds v)) is

  -- what an upper form is of
  pub record IsUpper (v k : ℕ) (form : Form) : Type 0 where
    pub edge : Edge
    pub is : slice_get edges k ≡ Some edge
    pub first : edge.from ≡ depth
    pub inside : edge.to < depth
    pub value : ℤ
    pub value_is : value_at bounds edge.to v ≡ Some value
    pub form_is : form ≡ record edge.weight { constant = edge.weight.constant +ℤ value }

  pub is_upper : (v k : ℕ) (form : Form) → slice_get (uppers_of depth bounds edges v) k ≡ Some (Some form)
      → IsUpper v k form
  is_upper v k form e = by_edge (slice_get edges k) refl where
    by_value : (g : Edge) → slice_get edges k ≡ Some g → g.from ≡ depth → g.to < depth → (o : Option ℤ)
        → value_at bounds g.to v ≡ o
        → option_map (λ value. record g.weight { constant = g.weight.constant +ℤ value }) o ≡ Some form
        → IsUpper v k form
    by_value g is first inside None value_is e = absurd (let f : None ≡ Some form = e in cc)
    by_value g is first inside (Some value) value_is e =
        record {
          edge = g;
          is = is;
          first = first;
          inside = inside;
          value = value;
          value_is = value_is;
          form_is =
              sym (same_Some (record g.weight { constant = g.weight.constant +ℤ value }) form e);
        }

    by_tests : (g : Edge) → slice_get edges k ≡ Some g → (a b : Bool) → (g.from == depth) ≡ a → nat_lt g.to depth ≡ b
        → cond (a && b) (option_map (λ value. record g.weight { constant = g.weight.constant +ℤ value })
        (value_at bounds g.to v)) None ≡ Some form → IsUpper v k form
    by_tests g is true true first inside e =
        by_value g is (equal_of g.from depth first) (less_of g.to depth inside) (value_at bounds g.to v) refl e where
          equal_of : (m n : ℕ) → (m == n) ≡ true → m ≡ n
          equal_of m n h = grind arith

          less_of : (m n : ℕ) → nat_lt m n ≡ true → m < n
          less_of m n h = grind arith
    by_tests g is true false first inside e = absurd (let f : None ≡ Some form = e in cc)
    by_tests g is false b first inside e = absurd (let f : None ≡ Some form = e in cc)

    by_edge : (o : Option Edge) → slice_get edges k ≡ o → IsUpper v k form
    by_edge None is = absurd (let f : None ≡ Some (Some form) = ap (option_map (upper_of depth bounds v)) (sym is)
        ∙ sym (slice_get-map (upper_of depth bounds v) edges k) ∙ e in cc)
    by_edge (Some g) is = by_tests g is (g.from == depth) (nat_lt g.to depth) refl refl
        (same_Some (upper_of depth bounds v g) (Some form) (sym (upper_at v k g is) ∙ e))

  -- a path of bounds and one edge more
  least_at : (a b k : ℕ) (g : Edge) → slice_get edges k ≡ Some g → g.from ≡ a → g.to ≡ b → a < depth → b < depth
      → AtMost (value_at bounds a b) (Some g.weight.constant)
  least_at a b k g is e f lt lt' = All-slice_get (λ (g : Edge). g.from ≡ a → g.to ≡ b
      → AtMost (value_at bounds a b) (Some g.weight.constant)) edges k g (closed.least a b lt lt') is e f

  -- the value to the end of an inner edge
  pub beyond : (s k : ℕ) (g : Edge) (value : ℤ) → slice_get edges k ≡ Some g → g.from < depth → g.to < depth
      → value_at bounds s g.from ≡ Some value
      → (z : ℤ) × (value_at bounds s g.to ≡ Some z) × (z ≤ℤ (value +ℤ g.weight.constant))
  beyond s k g value is a b e =
      let step = some_from (value_at bounds g.from g.to) g.weight.constant (least_at g.from g.to k g is refl refl a b)
      in
      let through : AtMost (value_at bounds s g.to)
      (bound_sum (value_at bounds s g.from) (value_at bounds g.from g.to)) = closed.closed g.from a s g.to in
      let both : AtMost (value_at bounds s g.to) (Some (value +ℤ step.0))
      = subst (λ o. AtMost (value_at bounds s g.to) (bound_sum (Some value) o)) step.1
      (subst (λ o. AtMost (value_at bounds s g.to) (bound_sum o (value_at bounds g.from g.to))) e through) in
      let end = some_from (value_at bounds s g.to) (value +ℤ step.0) both in
      (end.0, end.1, omega (arith, ints, end.2, step.2))

  -- Each loop variable has an upper form

  pub record HasUpper (v : ℕ) : Type 0 where
    pub number : ℕ
    pub form : Form
    pub is : slice_get (uppers_of depth bounds edges v) number ≡ Some (Some form)

  upper_by : (v k : ℕ) (g : Edge) → slice_get edges k ≡ Some g → g.from ≡ depth → g.to < depth → (value : ℤ)
      → value_at bounds g.to v ≡ Some value → HasUpper v
  upper_by v k g is first inside value value_is =
      record {
        number = k;
        form = record g.weight { constant = g.weight.constant +ℤ value };
        is = upper_at v k g is
            ∙ ap Some (upper_is v g value first inside value_is);
      }

  -- the domain row that bounds a loop, as an edge
  record IsBounding (v : ℕ) : Type 0 where
    number : ℕ
    edge : Edge
    is : slice_get edges number ≡ Some edge
    to : edge.to ≡ v
    from : (edge.from ≡ depth) ⊎ (edge.from < v)

  -- a domain row that bounds a loop
  abbrev HasRow : ℕ → Type 0
  HasRow v = (i : ℕ) × (row : Form) × (slice_get w.rows.now i ≡ Some row) × BoundsAbove v row

  bounding : (v : ℕ) → v < depth → HasRow v → IsBounding v
  bounding v inside b =
      let f : IsKnown w.vars (read_of w) (write_of w) w.level = writes_fit w in
      let number : ℕ = b.0 in
      let row : Form = b.1 in
      let is : slice_get w.rows.now number ≡ Some row = b.2 in
      let bounds : BoundsAbove v row = b.3 in
      let g : Edge = domain_edge_of vars row in
      let fits : FormFits depth row =
      form_is depth row (list_all_at (form_fits depth) w.rows.now number row f.rows is) in
      let t : AreTrits row.coefs =
      differences_are row (list_all_at is_difference w.rows.now number row f.differences is) in
      let here : slice_get edges number ≡ Some g
      = taken_at edges (length w.rows.now) number g
      (ap (λ es. slice_get es number) ready.graph.starts ∙ slice_get-map
      (domain_edge_of vars) w.rows.now number ∙ ap (option_map (domain_edge_of vars)) is) in
      let low : slice_index_or row.coefs v (pos 0) ≡ negsuc 0 =
      trit_below (slice_index_or row.coefs v (pos 0)) (trit_at row.coefs v t.trits) bounds.taken_off in
      let to : node_of (negsuc 0) row.coefs ≡ v =
      once_node (negsuc 0) row.coefs v t.less low (omega (arith, fits.over, inside)) in
      let a : ℕ = node_of (pos 1) row.coefs in
      record {
        number = number;
        edge = g;
        is = here;
        to = to;
        from = elim (cases_lt a (length row.coefs)) [
          | inr past ↦ inl (omega (arith, past, node_few (pos 1) row.coefs, fits.over))
          | inl lt ↦
              (let one : slice_index_or row.coefs a (pos 0) ≡ pos 1 = node_has (pos 1) row.coefs lt in
              elim (cases_lt a v) [
                | inl below ↦ inr below
                | inr above ↦ elim (cases_lt v a) [
                  | inl beyond ↦ absurd (omega (arith, ints, one, bounds.none_inside a beyond))
                  | inr same ↦ absurd (let e : a ≡ v = omega (arith, above, same)
                      in omega (arith, ints, one, low, ap (λ k. slice_index_or row.coefs k (pos 0)) e))
                ]
              ])
        ];
      }

  has_upper_below : (n v : ℕ) → v < n → v < depth → (HasUpper v → ⊥) → ⊥
  has_upper_below zero v lt inside none = omega arith
  has_upper_below (suc n) v lt inside none =
      ∥∥₁_elim (w.problem.bounded v inside) (λ (x y : ⊥). absurd x)
      (λ row.
      let b : IsBounding v = bounding v inside row in
      let to_inside : b.edge.to < depth = omega (arith, b.to, inside) in
      elim b.from [
        | inl first ↦
            (let own = some_from (value_at bounds b.edge.to b.edge.to) (pos 0) (closed.itself b.edge.to to_inside) in
            none
            (upper_by v b.number b.edge b.is first to_inside own.0 (ap (value_at bounds b.edge.to) (sym b.to) ∙ own.1)))
        | inr below ↦
            has_upper_below n b.edge.from (omega (arith, below, lt)) (omega (arith, below, inside))
            (λ (h : HasUpper b.edge.from).
            let u : IsUpper b.edge.from h.number h.form = is_upper b.edge.from h.number h.form h.is in
            let z = beyond u.edge.to b.number b.edge u.value b.is (omega (arith, below, inside)) to_inside u.value_is in
            none
            (upper_by v h.number u.edge u.is u.first u.inside z.0 (ap (value_at bounds u.edge.to) (sym b.to) ∙ z.1)))
      ])

  -- it isn't so that a loop variable has no upper form
  pub has_upper : (v : ℕ) → v < depth → (HasUpper v → ⊥) → ⊥
  has_upper v inside = has_upper_below (suc v) v (omega arith) inside

  -- The facts of the chosen place

  module _ (context : System) (choices : List Choice) (chosen : AreChosen w edges bounds context choices) where
    pub choice_is : (v : ℕ) (choice : Choice) → slice_get choices v ≡ Some choice
        → IsChoice depth bounds edges context v (uppers_of depth bounds edges v) choice
    choice_is v choice is =
        let here : 0 + v ≡ v = omega arith in
        subst (λ n. IsChoice depth bounds edges context n (uppers_of depth bounds edges n) choice) here
        (choices_at depth bounds edges context 0 v choices choice chosen.each is)

    pub place_at : (v : ℕ) (choice : Choice) (part : Part) → slice_get choices v ≡ Some choice
        → row_part (chosen_place choices) part v ≡ form_parts choice.form part
    place_at v choice part is =
        ap (λ o. option_map_or (part_of part) o (pos 0))
        (slice_get-map (λ (c : Choice). c.form) choices v ∙ ap (option_map (λ (c : Choice). c.form)) is)

    pub past_place : (part : Part) → row_part (chosen_place choices) part depth ≡ pos 0
    past_place part = ap (row_part (chosen_place choices) part) (sym chosen.all ∙ sym (length-map-choices choices))
        ∙ past_part (chosen_place choices) part where
          length-map-choices : (cs : List Choice) → length (chosen_place cs) ≡ length cs
          length-map-choices [] = refl
          length-map-choices (c ∷ cs) = ap suc (length-map-choices cs)

    -- the terms of a path's form show an edge that is no less
    pub record HasShown (g : Edge) (found : Option (Option (List Term))) : Type 0 where
      pub terms : List Term
      pub is : found ≡ Some (Some terms)
      pub fact : IsFact context (2 ^ 23) (edge_parts (chosen_place choices) g) terms

    shown_by : (v k : ℕ) (choice : Choice) (form : Form) (g : Edge) → slice_get choices v ≡ Some choice
        → slice_get (uppers_of depth bounds edges v) k ≡ Some (Some form)
        → (form.constant -ℤ choice.form.constant) ≤ℤ edge_parts (chosen_place choices) g the_constant
        → ((i : ℕ) → form_parts form (the_coefficient i) -ℤ form_parts choice.form (the_coefficient i)
        ≡ edge_parts (chosen_place choices) g (the_coefficient i))
        → HasShown g (slice_get choice.less k)
    shown_by v k choice form g is at low same =
        let c : IsChoice depth bounds edges context v (uppers_of depth bounds edges v) choice = choice_is v choice is in
        let count : length (uppers_of depth bounds edges v) ≡ length edges = length-map edges (upper_of depth bounds v)
        in
        let h : HasTerms context choice.form form (65536 * length (uppers_of depth bounds edges v))
        (slice_get choice.less k)
        = no_less_at context choice.form (65536 * length (uppers_of depth bounds edges v))
        (uppers_of depth bounds edges v) choice.less k form c.no_less at in
        record {
          terms = h.terms;
          is = h.is;
          fact = fact_weaker context (65536 * length (uppers_of depth bounds edges v)) (2 ^ 23)
              (λ part. form_parts form part -ℤ form_parts choice.form part)
              (edge_parts (chosen_place choices) g) h.terms
              (omega (arith, count, ready.graph.graph.few)) low same h.fact;
        }

    -- an edge from 0 to a variable
    pub out_shown : (k : ℕ) (g : Edge) (choice : Choice) → slice_get edges k ≡ Some g → g.from ≡ depth → g.to < depth
        → slice_get choices g.to ≡ Some choice → HasShown g (slice_get choice.less k)
    out_shown k g choice is first inside choice_at =
        let own = some_from (value_at bounds g.to g.to) (pos 0) (closed.itself g.to inside) in
        let form : Form = record g.weight { constant = g.weight.constant +ℤ own.0 } in
        let at : slice_get (uppers_of depth bounds edges g.to) k ≡ Some (Some form) = upper_at g.to k g is
        ∙ ap Some (upper_is g.to g own.0 first inside own.1) in
        let zero_is : (part : Part) → row_part (chosen_place choices) part g.from ≡ pos 0 =
        λ part. ap (row_part (chosen_place choices) part) first ∙ past_place part in
        let end_is : (part : Part) → row_part (chosen_place choices) part g.to ≡ form_parts choice.form part =
        λ part. place_at g.to choice part choice_at in
        shown_by g.to k choice form g choice_at at
        (omega (arith, ints, own.2, zero_is the_constant, end_is the_constant))
        (λ i. omega (arith, ints, zero_is (the_coefficient i), end_is (the_coefficient i)))

    -- an edge between two variables
    pub inner_shown : (k : ℕ) (g : Edge) (from choice : Choice) → slice_get edges k ≡ Some g → g.from < depth
        → g.to < depth → slice_get choices g.from ≡ Some from → slice_get choices g.to ≡ Some choice
        → HasShown g (slice_get choice.less from.edge)
    inner_shown k g from choice is a b from_at choice_at =
        let c : IsChoice depth bounds edges context g.from (uppers_of depth bounds edges g.from) from =
        choice_is g.from from from_at in
        let u : IsUpper g.from from.edge from.form = is_upper g.from from.edge from.form c.edge_is in
        let z = beyond u.edge.to k g u.value is a b u.value_is in
        let form : Form = record u.edge.weight { constant = u.edge.weight.constant +ℤ z.0 } in
        let at : slice_get (uppers_of depth bounds edges g.to) from.edge ≡ Some (Some form) =
        upper_at g.to from.edge u.edge u.is ∙ ap Some (upper_is g.to u.edge z.0 u.first u.inside z.1) in
        let edge : IsEdge vars depth g = edge_at k g is in
        let from_is : (part : Part) → row_part (chosen_place choices) part g.from ≡ form_parts from.form part =
        λ part. place_at g.from from part from_at in
        let end_is : (part : Part) → row_part (chosen_place choices) part g.to ≡ form_parts choice.form part =
        λ part. place_at g.to choice part choice_at in
        let own : (part : Part) → form_parts from.form part
        ≡ form_parts (record u.edge.weight { constant = u.edge.weight.constant +ℤ u.value }) part =
        λ part. ap (part_of part) u.form_is in
        shown_by g.to from.edge choice form g choice_at at
        (omega (arith, ints, z.2, from_is the_constant, end_is the_constant, own the_constant))
        (λ i. omega (
          arith,
          ints,
          from_is (the_coefficient i),
          end_is (the_coefficient i),
          own (the_coefficient i),
          edge.inner a b i,
        ))
