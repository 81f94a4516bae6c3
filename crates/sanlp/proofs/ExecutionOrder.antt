-- The points of a node come in the order of execution.
use Rattle.std.proofs.Common.{◌≡◌, ◌<◌, ℕ, suc, ◌+◌, ℤ, ◌<ℤ◌, List, [], ◌∷◌, ◌++◌, map, length, Bool, true, false, cond}
use Rattle.std.proofs.Common.{inl, inr, refl, sym, ap, ◌∙◌, subst, arith, append_assoc}
use Rattle.std.specs.Prelude.{nat_lt, Some, slice_get}
use Rattle.std.proofs.lemmas.Bool.{lt-ltb}
use Rattle.std.proofs.lemmas.List.{length_push}
use Rattle.affine_core.specs.declared.form.Form.{Form}
use Rattle.sanlp.specs.declared.nest.Nest.{Nest}
use Rattle.sanlp.specs.declared.nest.Node.{Node}
use Rattle.sanlp.specs.declared.nest.Node.TheViews.{Loop, Guard}
use Rattle.sanlp.specs.declared.nest.Node.TheVariants.{Assign}
use Rattle.sanlp.specs.declared.nest.Point.{Point}
use Rattle.sanlp.specs.declared.nest.Statement.{Statement}
use Rattle.sanlp.specs.Loops.{all_hold, loop_values}
use Rattle.sanlp.specs.Order.{Precedes, PrecedesWithin, common_loops, loops_round_point}
use Rattle.sanlp.specs.Trace.{all_points, trace_node}
use Rattle.sanlp.specs.WellFormed.{Place, all_loops, in_each, loops_of, loops_step, places_of}
use Rattle.sanlp.proofs.BoundRows.{hold_each, values_ascend}
use Rattle.sanlp.proofs.Domains.{FitsIn, GuardFits, LoopFits, Origin, HasOrigins, Round, guard_fits, inner_rows}
use Rattle.sanlp.proofs.Domains.{loop_fits, origins, parts_origins, places_guard, places_loop, round_guard, round_turn}
use Rattle.sanlp.proofs.Domains.{trace_assign, trace_guard, trace_loop}
use Rattle.sanlp.proofs.Each.{Each, each_left, each_of, each_right}
use Rattle.sanlp.proofs.Folds.{by_parts, fold_guard, fold_loop}
use Rattle.sanlp.proofs.Members.{In, Pairwise, each_in, pairwise_across, pairwise_append, pairwise_flat_map}
use Rattle.sanlp.proofs.Members.{pairwise_left, pairwise_right}
use Rattle.sanlp.proofs.Precedence.{common_front, common_none, loops_found}

-- vectors that begin with the same values
same_front : (less : Bool) (at xs ys : List ℤ) → less ≡ true → PrecedesWithin (length at) less (at ++ xs) (at ++ ys)
same_front less [] xs ys h = h
same_front less (v ∷ at) xs ys h = inr (refl, same_front less at xs ys h)

less_after : (less : Bool) (at xs ys : List ℤ) (c : ℕ) (v w : ℤ) → v <ℤ w
    → PrecedesWithin (length at + suc c) less (at ++ v ∷ xs) (at ++ w ∷ ys)
less_after less [] xs ys c v w h =
    let e : suc c ≡ 0 + suc c = omega arith in subst (λ d. PrecedesWithin d less (v ∷ xs) (w ∷ ys)) e (inl h)
less_after less (x ∷ at) xs ys c v w h =
    let e : suc (length at + suc c) ≡ suc (length at) + suc c = omega arith in
    subst (λ d. PrecedesWithin d less (x ∷ (at ++ v ∷ xs)) (x ∷ (at ++ w ∷ ys))) e
    (inr (refl, less_after less at xs ys c v w h))

module _ (n : Nest) where
  -- a place whose loops are those that its statement says
  pub record IsSaid (place : Place) : Type 0 where
    pub statement : Statement
    pub found : slice_get n.statements place.statement ≡ Some statement
    pub loops : statement.loops ≡ place.loops

  loops_said : (p : Point) (place : Place) → p.statement ≡ place.statement → IsSaid place
      → loops_round_point n p ≡ place.loops
  loops_said p place e said = loops_found n p said.statement (ap (slice_get n.statements) e ∙ said.found) ∙ said.loops

  abbrev pub Ascends : Place → Place → Type 0
  Ascends a b = a.statement < b.statement

  -- points of earlier parts precede those of later parts
  across_parts : (places places' : List Place) (ids ids' : List ℕ) (loops : List ℕ) (at : List ℤ)
      → length loops ≡ length at
      → Each IsSaid places → Each IsSaid places'
      → ((a b : Place) → In a places → In b places' → a.statement < b.statement)
      → ((k l : ℕ) → In k ids → In l ids' → k < l)
      → (p q : Point) → Origin places ids loops at p → Origin places' ids' loops at q → Precedes n p q
  across_parts places places' ids ids' loops at lengths said said' ascends apart p q o r =
      let less : nat_lt p.statement q.statement ≡ true =
      (let lt : o.place.statement < r.place.statement = ascends o.place r.place o.placed r.placed
      in lt-ltb p.statement q.statement (omega (arith, o.numbered, r.numbered))) in
      let none : common_loops o.inner r.inner ≡ 0 =
      common_none o.inner r.inner
      (λ k l i j. apart k l (each_in (λ k. In k ids) k o.inner o.inside i)
      (each_in (λ k. In k ids') l r.inner r.inside j)) in
      let first : loops_round_point n p ≡ loops ++ o.inner =
      loops_said p o.place o.numbered (each_in IsSaid o.place places said o.placed) ∙ o.rounds in
      let second : loops_round_point n q ≡ loops ++ r.inner =
      loops_said q r.place r.numbered (each_in IsSaid r.place places' said' r.placed) ∙ r.rounds in
      let common : length at ≡ common_loops (loops_round_point n p) (loops_round_point n q) =
      sym (ap (λ ks. common_loops ks (loops_round_point n q)) first ∙ ap (common_loops (loops ++ o.inner)) second
      ∙ common_front loops o.inner r.inner ∙ omega (arith, none, lengths)) in
      subst (λ c. PrecedesWithin c (nat_lt p.statement q.statement) p.at q.at) common
      (subst (λ xs. PrecedesWithin (length at) (nat_lt p.statement q.statement) xs q.at) (sym o.extends)
      (subst (λ ys. PrecedesWithin (length at) (nat_lt p.statement q.statement) (at ++ o.tail) ys) (sym r.extends)
      (same_front (nat_lt p.statement q.statement) at o.tail r.tail less)))

  -- points of earlier turns precede those of later turns
  across_turns : (places : List Place) (ids loops : List ℕ) (id : ℕ) (at : List ℤ) (v w : ℤ) → length loops ≡ length at
      → Each IsSaid places → v <ℤ w
      → (p q : Point) → Origin places ids (loops ++ id ∷ []) (at ++ v ∷ []) p
      → Origin places ids (loops ++ id ∷ []) (at ++ w ∷ []) q → Precedes n p q
  across_turns places ids loops id at v w lengths said lt p q o r =
      let front : List ℕ = loops ++ id ∷ [] in
      let more : ℕ = common_loops o.inner r.inner in
      let first : loops_round_point n p ≡ front ++ o.inner =
      loops_said p o.place o.numbered (each_in IsSaid o.place places said o.placed) ∙ o.rounds in
      let second : loops_round_point n q ≡ front ++ r.inner =
      loops_said q r.place r.numbered (each_in IsSaid r.place places said r.placed) ∙ r.rounds in
      let common : length at + suc more ≡ common_loops (loops_round_point n p) (loops_round_point n q) =
      sym (ap (λ ks. common_loops ks (loops_round_point n q)) first ∙ ap (common_loops (front ++ o.inner)) second
      ∙ common_front front o.inner r.inner ∙ omega (arith, lengths, length_push loops id)) in
      subst (λ c. PrecedesWithin c (nat_lt p.statement q.statement) p.at q.at) common
      (subst (λ xs. PrecedesWithin (length at + suc more) (nat_lt p.statement q.statement) xs q.at)
      (sym (o.extends ∙ append_assoc at (v ∷ []) o.tail))
      (subst (λ ys. PrecedesWithin (length at + suc more) (nat_lt p.statement q.statement) (at ++ v ∷ o.tail) ys)
      (sym (r.extends ∙ append_assoc at (w ∷ []) r.tail))
      (less_after (nat_lt p.statement q.statement) at o.tail r.tail more v w lt)))

  -- the facts of the places and the loops of a node
  pub record InOrder (places : List Place) (ids : List ℕ) : Type 0 where
    pub said : Each IsSaid places
    pub ascends : Pairwise Ascends places
    pub numbered : Pairwise (λ j k. j < k) ids

  abbrev pub IsOrdered : Node → Type 0
  IsOrdered node = (loops : List ℕ) (rows : List Form) (at : List ℤ) → FitsIn (length at) node → Round loops rows at
      → InOrder (places_of node loops rows) (loops_of node) → Pairwise (Precedes n) (trace_node node at)

  pub parts_ordered : (nodes : List Node) → Each IsOrdered nodes → (loops : List ℕ) (rows : List Form) (at : List ℤ)
      → Each (FitsIn (length at)) nodes → Round loops rows at
      → InOrder (in_each (map places_of nodes) loops rows) (all_loops nodes)
      → Pairwise (Precedes n) (all_points (map trace_node nodes) at)
  parts_ordered [] h loops rows at fits r o = tt
  parts_ordered (node ∷ nodes) h loops rows at fits r o =
      let places : List Place = places_of node loops rows in
      let others : List Place = in_each (map places_of nodes) loops rows in
      let first : InOrder places (loops_of node) = record {
        said = each_left IsSaid places others o.said;
        ascends = pairwise_left Ascends places others o.ascends;
        numbered = pairwise_left (λ j k. j < k) (loops_of node) (all_loops nodes) o.numbered;
      } in
      let rest : InOrder others (all_loops nodes) = record {
        said = each_right IsSaid places others o.said;
        ascends = pairwise_right Ascends places others o.ascends;
        numbered = pairwise_right (λ j k. j < k) (loops_of node) (all_loops nodes) o.numbered;
      } in
      pairwise_append (Precedes n) (trace_node node at) (all_points (map trace_node nodes) at)
      (h.0 loops rows at fits.0 r first) (parts_ordered nodes h.1 loops rows at fits.1 r rest)
      (λ p q k l. across_parts places others (loops_of node) (all_loops nodes) loops at r.lengths first.said rest.said
      (λ a b i j. pairwise_across Ascends places others a b o.ascends i j)
      (λ a b i j. pairwise_across (λ j k. j < k) (loops_of node) (all_loops nodes) a b o.numbered i j) p q
      (origins node loops rows at fits.0 r p k)
      (parts_origins nodes (each_of HasOrigins nodes origins) loops rows at fits.1 r q l))

  ordered_loop : (id : ℕ) (lower upper : List Form) (step : ℤ) (body : List Node) → Each IsOrdered body
      → IsOrdered (Loop id lower upper step body)
  ordered_loop id lower upper step body h loops rows at fits r o =
      let f : LoopFits lower upper step body (length at) = loop_fits id lower upper step body (length at) fits in
      let values : List ℤ = loop_values lower upper step at in
      let points : ℤ → List Point = λ v. all_points (map trace_node body) (at ++ v ∷ []) in
      let ids : Pairwise (λ j k. j < k) (id ∷ all_loops body) =
      subst (Pairwise (λ j k. j < k)) (fold_loop (List ℕ) loops_step id lower upper step body) o.numbered in
      let inner : InOrder
      (in_each (map places_of body) (loops ++ id ∷ []) (inner_rows (length loops) rows lower upper step))
      (all_loops body) = record {
        said = subst (Each IsSaid) (places_loop id lower upper step body loops rows) o.said;
        ascends = subst (Pairwise Ascends) (places_loop id lower upper step body loops rows) o.ascends;
        numbered = ids.1;
      } in
      let turn_fits : (v : ℤ) → Each (FitsIn (length (at ++ v ∷ []))) body =
      λ v. subst (λ d. Each (FitsIn d) body) (sym (length_push at v)) f.body_fits in
      let turn : (v : ℤ) → In v values
      → Round (loops ++ id ∷ []) (inner_rows (length loops) rows lower upper step) (at ++ v ∷ []) =
      λ v k. round_turn id lower upper step loops rows at v f.bounds r k in
      let from : (v : ℤ) → In v values → (p : Point) → In p (points v)
      → Origin (in_each (map places_of body) (loops ++ id ∷ []) (inner_rows (length loops) rows lower upper step))
      (all_loops body) (loops ++ id ∷ []) (at ++ v ∷ []) p
      = λ v k p l. parts_origins body (each_of HasOrigins body origins) (loops ++ id ∷ [])
      (inner_rows (length loops) rows lower upper step) (at ++ v ∷ []) (turn_fits v) (turn v k) p l in
      subst (Pairwise (Precedes n)) (sym (trace_loop id lower upper step body at))
      (pairwise_flat_map (λ v w. v <ℤ w) (Precedes n) points values
      (values_ascend lower upper step at f.bounds.step_counts)
      (λ v k. parts_ordered body h (loops ++ id ∷ []) (inner_rows (length loops) rows lower upper step) (at ++ v ∷ [])
      (turn_fits v) (turn v k) inner)
      (λ v w k l lt p q i j.
      across_turns
      (in_each (map places_of body) (loops ++ id ∷ []) (inner_rows (length loops) rows lower upper step))
      (all_loops body) loops id at v w r.lengths inner.said lt p q (from v k p i) (from w l q j)))

  ordered_if : (b : Bool) (points : List Point) → (b ≡ true → Pairwise (Precedes n) points)
      → Pairwise (Precedes n) (cond b points [])
  ordered_if true points h = h refl
  ordered_if false points h = tt

  ordered_guard : (guards : List Form) (body : List Node) → Each IsOrdered body → IsOrdered (Guard guards body)
  ordered_guard guards body h loops rows at fits r o =
      let f : GuardFits guards body (length at) = guard_fits guards body (length at) fits in
      let inner : InOrder (in_each (map places_of body) loops (rows ++ guards)) (all_loops body) = record {
        said = subst (Each IsSaid) (places_guard guards body loops rows) o.said;
        ascends = subst (Pairwise Ascends) (places_guard guards body loops rows) o.ascends;
        numbered = subst (Pairwise (λ j k. j < k)) (fold_guard (List ℕ) loops_step guards body) o.numbered;
      } in
      subst (Pairwise (Precedes n)) (sym (trace_guard guards body at))
      (ordered_if (all_hold guards at) (all_points (map trace_node body) at)
      (λ e. parts_ordered body h loops (rows ++ guards) at f.body_fits
      (round_guard guards loops rows at f.guards_over r (hold_each guards at e)) inner))

  ordered_assign : (s : ℕ) → IsOrdered (Assign s)
  ordered_assign s loops rows at fits r o = subst (Pairwise (Precedes n)) (sym (trace_assign s at)) (tt, tt)

  pub ordered : (node : Node) → IsOrdered node
  ordered = by_parts IsOrdered ordered_loop ordered_guard ordered_assign
