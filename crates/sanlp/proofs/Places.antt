-- Where the statements of points stand.
use Rattle.std.proofs.Common.{◌≡◌, ℕ, ◌+◌, ℤ, pos, ◌-ℤ◌, List, [], ◌∷◌, ◌++◌, map, length, Bool, true, false, cond}
use Rattle.std.proofs.Common.{refl, sym, ap, ◌∙◌, subst}
use Rattle.std.specs.List.{flat_map, range_with_len}
use Rattle.std.proofs.lemmas.List.{append-nil, map-append}
use Rattle.affine_core.specs.Affine.{constant_form}
use Rattle.affine_core.specs.declared.form.Form.{Form}
use Rattle.sanlp.specs.declared.nest.Node.{Node}
use Rattle.sanlp.specs.declared.nest.Node.TheOpen.{Node-F, Loop, Guard, Assign}
use Rattle.sanlp.specs.declared.nest.Node.TheFolds.{map-Node, fold-roll-Node, ind-Node}
use Rattle.sanlp.specs.declared.nest.Node.TheViews.{roll-Node}
use Rattle.sanlp.specs.declared.nest.Point.{Point}
use Rattle.sanlp.specs.declared.nest.Statement.{Statement}
use Rattle.sanlp.specs.Around.{loops_round}
use Rattle.sanlp.specs.Cells.{natural}
use Rattle.sanlp.specs.Loops.{loop_values, all_hold}
use Rattle.sanlp.specs.Trace.{PointsAt, all_points, trace_step, trace_node}
use Rattle.sanlp.specs.WellFormed.{Place, Places, in_each, places_step, places_of, all_places, said_from, array_loops}
use Rattle.sanlp.specs.WellFormed.{bound_rows}
use Rattle.sanlp.proofs.Each.{Each, each_append, each_left, each_right}
use Rattle.sanlp.proofs.Folds.{fold_loop_at_both, fold_assign_at_both}

-- what holds of the numbers of all statements in a node holds of those of its points
module _ (Q : ℕ → Type 0) where
  abbrev OfPlaces : List Place → Type 0
  OfPlaces places = Each (λ place. Q place.statement) places

  abbrev OfPoints : List Point → Type 0
  OfPoints points = Each (λ p. Q p.statement) points

  abbrev Carries : Node → Type 0
  Carries node =
      (loops : List ℕ) (rows : List Form) (at : List ℤ) → OfPlaces (places_of node loops rows)
      → OfPoints (trace_node node at)

  abbrev Carried : Type 0
  Carried = (node : Node) × Carries node

  carried_parts : (parts : List Carried) (loops : List ℕ) (rows : List Form) (at : List ℤ)
      → OfPlaces (in_each (map places_of (map (λ e. e.0) parts)) loops rows)
      → OfPoints (all_points (map trace_node (map (λ e. e.0) parts)) at)
  carried_parts [] loops rows at h = tt
  carried_parts (e ∷ parts) loops rows at h =
      each_append (λ p. Q p.statement) (trace_node e.0 at) _
      (e.1 loops rows at (each_left (λ place. Q place.statement) (places_of e.0 loops rows) _ h))
      (carried_parts parts loops rows at (each_right (λ place. Q place.statement) (places_of e.0 loops rows) _ h))

  carried_turns : (g : List ℤ → List Point) → ((at : List ℤ) → OfPoints (g at)) → (at : List ℤ) (values : List ℤ)
      → OfPoints (flat_map (λ v. g (at ++ v ∷ [])) values)
  carried_turns g each at [] = tt
  carried_turns g each at (v ∷ values) =
      each_append (λ p. Q p.statement) (g (at ++ v ∷ [])) _ (each (at ++ v ∷ [])) (carried_turns g each at values)

  carried_if : (b : Bool) (points : List Point) → OfPoints points → OfPoints (cond b points [])
  carried_if true points h = h
  carried_if false points h = tt

  carried_layer : (y : Node-F Carried) → Carries (roll-Node (map-Node Carried Node (λ e. e.0) y))
  carried_layer (Loop id lower upper step body) loops rows at h =
      let nodes : List Node = map (λ e. e.0) body in
      let inside =
      subst OfPlaces (ap (λ f. f loops rows) (fold-roll-Node Places places_step (Loop id lower upper step nodes))) h in
      subst OfPoints (ap (λ f. f at) (sym (fold-roll-Node PointsAt trace_step (Loop id lower upper step nodes))))
      (carried_turns (all_points (map trace_node nodes)) (λ at. carried_parts body _ _ at inside) at
      (loop_values lower upper step at))
  carried_layer (Guard guards body) loops rows at h =
      let nodes : List Node = map (λ e. e.0) body in
      let inside = subst OfPlaces (ap (λ f. f loops rows) (fold-roll-Node Places places_step (Guard guards nodes))) h in
      subst OfPoints (ap (λ f. f at) (sym (fold-roll-Node PointsAt trace_step (Guard guards nodes))))
      (carried_if (all_hold guards at) (all_points (map trace_node nodes) at) (carried_parts body _ _ at inside))
  carried_layer (Assign s) loops rows at h =
      let inside = subst OfPlaces (ap (λ f. f loops rows) (fold-roll-Node Places places_step (Assign s))) h in
      subst OfPoints (ap (λ f. f at) (sym (fold-roll-Node PointsAt trace_step (Assign s)))) inside

  pub carries : (node : Node) → Carries node
  carries = ind-Node Carries (λ x y is. subst (λ z. Carries (roll-Node z)) is (carried_layer y))

  pub points_carry : (parts : List Node) (at : List ℤ) → OfPlaces (all_places parts [] [])
      → OfPoints (all_points (map trace_node parts) at)
  points_carry [] at h = tt
  points_carry (node ∷ parts) at h =
      each_append (λ p. Q p.statement) (trace_node node at) _
      (carries node [] [] at (each_left (λ place. Q place.statement) (places_of node [] []) _ h))
      (points_carry parts at (each_right (λ place. Q place.statement) (places_of node [] []) _ h))

-- the numbers of statements where they stand
abbrev pub numbers_of : List Place → List ℕ
numbers_of places = map (λ place. place.statement) places

pub numbers_round : (id k : ℕ) (extents : List ℤ) (s : ℕ) (loops : List ℕ) (rows : List Form)
    → numbers_of (places_of (loops_round id k extents s) loops rows) ≡ s ∷ []
numbers_round id k [] s loops rows =
    ap numbers_of (fold_assign_at_both (List ℕ) (List Form) (List Place) places_step s loops rows)
numbers_round id k (e ∷ extents) s loops rows =
    let inner : Node = loops_round (id + 1) (k + 1) extents s in
    let lower : List Form = constant_form k (pos 0) ∷ [] in
    let upper : List Form = constant_form k (pos (natural e) -ℤ pos 1) ∷ [] in
    ap numbers_of
    (fold_loop_at_both (List ℕ) (List Form) (List Place) places_step id lower upper (pos 1) (inner ∷ []) loops rows)
    ∙ ap numbers_of
    (append-nil (places_of inner (loops ++ id ∷ []) (rows ++ bound_rows (length loops) lower upper (pos 1))))
    ∙ numbers_round (id + 1) (k + 1) extents s _ _

-- the statements' own places have their numbers in order
pub numbers_said : (k : ℕ) (statements : List Statement)
    → numbers_of (said_from k statements) ≡ range_with_len k (length statements)
numbers_said k [] = refl
numbers_said k (s ∷ statements) = ap (λ ks. k ∷ ks) (numbers_said (k + 1) statements)

pub numbers_array_loops : (id s : ℕ) (extents : List (List ℤ))
    → numbers_of (all_places (array_loops id s extents) [] []) ≡ range_with_len s (length extents)
numbers_array_loops id s [] = refl
numbers_array_loops id s (e ∷ extents) =
    let rest : List Node = array_loops (id + length e) (s + 1) extents in
    map-append (λ place. place.statement) (places_of (loops_round id 0 e s) [] []) (all_places rest [] [])
    ∙ ap (λ ks. ks ++ numbers_of (all_places rest [] [])) (numbers_round id 0 e s [] [])
    ∙ ap (λ ks. s ∷ ks) (numbers_array_loops (id + length e) (s + 1) extents)
