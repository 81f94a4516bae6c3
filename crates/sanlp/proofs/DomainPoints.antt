-- Each point of the domain of a statement is reached in the statement's node.
use Rattle.std.proofs.Common.{◌≡◌, ◌≤◌, ℕ, ℤ, pos, ◌≤ℤ◌, List, [], ◌∷◌, ◌++◌, map, length, true, cond, inl, inr, sym}
use Rattle.std.proofs.Common.{ap, ◌∙◌, subst, arith, append_assoc, length-append}
use Rattle.std.proofs.lemmas.List.{append-nil, length_push, nil_from_length}
use Rattle.affine_core.specs.Affine.{form_at}
use Rattle.affine_core.specs.declared.form.Form.{Form}
use Rattle.sanlp.specs.declared.nest.Node.{Node}
use Rattle.sanlp.specs.declared.nest.Node.TheViews.{Loop, Guard}
use Rattle.sanlp.specs.declared.nest.Node.TheVariants.{Assign}
use Rattle.sanlp.specs.declared.nest.Point.{Point}
use Rattle.sanlp.specs.Loops.{all_hold, loop_values}
use Rattle.sanlp.specs.Trace.{all_points, trace_node}
use Rattle.sanlp.specs.WellFormed.{Place, bound_rows, in_each, places_of}
use Rattle.sanlp.proofs.BoundRows.{AllHold, each_holds, meeting_values}
use Rattle.sanlp.proofs.Domains.{FitsIn, GuardFits, LoopFits, Over, from_widened, guard_fits, hold_less, inner_rows}
use Rattle.sanlp.proofs.Domains.{loop_fits, places_assign, places_guard, places_loop, rows_over, trace_assign}
use Rattle.sanlp.proofs.Domains.{trace_guard, trace_loop}
use Rattle.sanlp.proofs.Each.{Each, each_left, each_of, each_right, each_append, each_then}
use Rattle.sanlp.proofs.Folds.{by_parts}
use Rattle.sanlp.proofs.Members.{In, in_cases, in_flat_map, in_left, in_right}

-- the loops and rows round a node stand at the front of those of its places
abbrev Begins : List ℕ → List Form → Place → Type 0
Begins loops rows place =
    (length loops ≤ length place.loops) × ((at : List ℤ) → AllHold place.rows at → AllHold rows at)

abbrev HasFronts : Node → Type 0
HasFronts node =
    (loops : List ℕ) (rows : List Form) (place : Place) → In place (places_of node loops rows) → Begins loops rows place

parts_fronts : (nodes : List Node) → Each HasFronts nodes → (loops : List ℕ) (rows : List Form) (place : Place)
    → In place (in_each (map places_of nodes) loops rows) → Begins loops rows place
parts_fronts [] h loops rows place k = absurd k
parts_fronts (node ∷ nodes) h loops rows place k =
    elim (in_cases place (places_of node loops rows) (in_each (map places_of nodes) loops rows) k) [
      | inl l ↦ h.0 loops rows place l
      | inr l ↦ parts_fronts nodes h.1 loops rows place l
    ]

fronts_loop : (id : ℕ) (lower upper : List Form) (step : ℤ) (body : List Node) → Each HasFronts body
    → HasFronts (Loop id lower upper step body)
fronts_loop id lower upper step body h loops rows place k =
    let inner =
    parts_fronts body h (loops ++ id ∷ []) (inner_rows (length loops) rows lower upper step) place
    (subst (λ places. In place places) (places_loop id lower upper step body loops rows) k) in (
      omega (arith, inner.0, length_push loops id),
      λ at l. each_left (λ row. pos 0 ≤ℤ form_at row at) rows
          (bound_rows (length loops) lower upper step) (inner.1 at l),
    )

fronts_guard : (guards : List Form) (body : List Node) → Each HasFronts body → HasFronts (Guard guards body)
fronts_guard guards body h loops rows place k =
    let inner =
    parts_fronts body h loops (rows ++ guards) place
    (subst (λ places. In place places) (places_guard guards body loops rows) k) in
    (inner.0, λ at l. each_left (λ row. pos 0 ≤ℤ form_at row at) rows guards (inner.1 at l))

fronts_assign : (s : ℕ) → HasFronts (Assign s)
fronts_assign s loops rows place k = elim (subst (λ places. In place places) (places_assign s loops rows) k) [
  | inl e ↦ subst (Begins loops rows) e (omega arith, λ at l. from_widened (length loops) rows at l)
  | inr l ↦ absurd l
]

fronts : (node : Node) → HasFronts node
fronts = by_parts HasFronts fronts_loop fronts_guard fronts_assign

-- each vector of a place at which its rows hold is reached
abbrev pub IsReached : Node → Type 0
IsReached node =
    (loops : List ℕ) (rows : List Form) (at : List ℤ) → FitsIn (length at) node → length loops ≡ length at
    → Over (length at) rows
    → (place : Place) → In place (places_of node loops rows) → (tail : List ℤ)
    → length (at ++ tail) ≡ length place.loops → AllHold place.rows (at ++ tail)
    → In (record { statement = place.statement; at = at ++ tail }) (trace_node node at)

pub parts_reached : (nodes : List Node) → Each IsReached nodes → (loops : List ℕ) (rows : List Form) (at : List ℤ)
    → Each (FitsIn (length at)) nodes → length loops ≡ length at → Over (length at) rows
    → (place : Place) → In place (in_each (map places_of nodes) loops rows) → (tail : List ℤ)
    → length (at ++ tail) ≡ length place.loops → AllHold place.rows (at ++ tail)
    → In (record { statement = place.statement; at = at ++ tail }) (all_points (map trace_node nodes) at)
parts_reached [] h loops rows at fits lengths over place k tail deep holds = absurd k
parts_reached (node ∷ nodes) h loops rows at fits lengths over place k tail deep holds =
    let p : Point = record { statement = place.statement; at = at ++ tail } in
    elim (in_cases place (places_of node loops rows) (in_each (map places_of nodes) loops rows) k) [
      | inl l ↦ in_left p (trace_node node at) (all_points (map trace_node nodes) at)
          (h.0 loops rows at fits.0 lengths over place l tail deep holds)
      | inr l ↦ in_right p (trace_node node at) (all_points (map trace_node nodes) at)
          (parts_reached nodes h.1 loops rows at fits.1 lengths over place l tail deep holds)
    ]

reached_loop : (id : ℕ) (lower upper : List Form) (step : ℤ) (body : List Node) → Each IsReached body
    → IsReached (Loop id lower upper step body)
reached_loop id lower upper step body h loops rows at fits lengths over place k tail deep holds =
    by_tail tail deep holds
    (subst (λ places. In place places) (places_loop id lower upper step body loops rows) k) where
      by_tail : (tail : List ℤ) → length (at ++ tail) ≡ length place.loops → AllHold place.rows (at ++ tail)
          → In place (in_each (map places_of body) (loops ++ id ∷ []) (inner_rows (length loops) rows lower upper step))
          → In (record { statement = place.statement; at = at ++ tail }) (trace_node (Loop id lower upper step body) at)
      by_tail [] deep holds k =
          let begins =
          parts_fronts body (each_of HasFronts body fronts) (loops ++ id ∷ [])
          (inner_rows (length loops) rows lower upper step) place k in
          let none : List ℤ = [] in
          absurd (omega (arith, begins.0, length_push loops id, length-append at none))
      by_tail (v ∷ tail) deep holds k =
          let f : LoopFits lower upper step body (length at) = loop_fits id lower upper step body (length at) fits in
          let at' : List ℤ = at ++ v ∷ [] in
          let joined : at' ++ tail ≡ at ++ v ∷ tail = append_assoc at (v ∷ []) tail in
          let begins =
          parts_fronts body (each_of HasFronts body fronts) (loops ++ id ∷ [])
          (inner_rows (length loops) rows lower upper step) place k in
          let over' : Over (length at') (inner_rows (length loops) rows lower upper step) =
          subst (λ d. Over d (inner_rows (length loops) rows lower upper step)) (sym (length_push at v))
          (rows_over (length at) (length loops) rows lower upper step lengths over f.bounds) in
          let holds' : AllHold place.rows (at' ++ tail) = subst (AllHold place.rows) (sym joined) holds in
          let here : AllHold (inner_rows (length loops) rows lower upper step) at' =
          hold_less (inner_rows (length loops) rows lower upper step) at' tail over' (begins.1 (at' ++ tail) holds') in
          let value : In v (loop_values lower upper step at) =
          meeting_values upper step (length loops) at v lengths lower f.bounds
          (each_right (λ row. pos 0 ≤ℤ form_at row at') rows (bound_rows (length loops) lower upper step) here) in
          let fits' : Each (FitsIn (length at')) body =
          subst (λ d. Each (FitsIn d) body) (sym (length_push at v)) f.body_fits in
          let lengths' : length (loops ++ id ∷ []) ≡ length at' =
          omega (arith, lengths, length_push loops id, length_push at v) in
          let inside =
          parts_reached body h (loops ++ id ∷ [])
          (inner_rows (length loops) rows lower upper step) at' fits' lengths' over' place k tail
          (ap length joined ∙ deep) holds' in
          let p : Point = record { statement = place.statement; at = at ++ v ∷ tail } in
          subst (λ points. In p points) (sym (trace_loop id lower upper step body at))
          (in_flat_map (λ v. all_points (map trace_node body) (at ++ v ∷ [])) v p
          (loop_values lower upper step at) value
          (subst (λ x.
          In (record { statement = place.statement; at = x })
          (all_points (map trace_node body) at')) joined inside))

reached_guard : (guards : List Form) (body : List Node) → Each IsReached body → IsReached (Guard guards body)
reached_guard guards body h loops rows at fits lengths over place k tail deep holds =
    let f : GuardFits guards body (length at) = guard_fits guards body (length at) fits in
    let inner = subst (λ places. In place places) (places_guard guards body loops rows) k in
    let begins = parts_fronts body (each_of HasFronts body fronts) loops (rows ++ guards) place inner in
    let guards_over : Over (length at) guards =
    each_then (λ form. length form.coefs ≡ length at) (λ row. length row.coefs ≤ length at) guards
    (λ form e. omega arith) f.guards_over in
    let passes : all_hold guards at ≡ true =
    each_holds guards at
    (hold_less guards at tail guards_over
    (each_right (λ row. pos 0 ≤ℤ form_at row (at ++ tail)) rows guards (begins.1 (at ++ tail) holds))) in
    let over' : Over (length at) (rows ++ guards) =
    each_append (λ row. length row.coefs ≤ length at) rows guards over guards_over in
    let p : Point = record { statement = place.statement; at = at ++ tail } in
    subst (λ points. In p points) (sym (trace_guard guards body at))
    (subst (λ b. In p (cond b (all_points (map trace_node body) at) [])) (sym passes)
    (parts_reached body h loops (rows ++ guards) at f.body_fits lengths over' place inner tail deep holds))

abbrev point_of : ℕ → List ℤ → Point
point_of s at = record { statement = s; at = at }

reached_assign : (s : ℕ) → IsReached (Assign s)
reached_assign s loops rows at fits lengths over place k tail deep holds =
    elim (subst (λ places. In place places) (places_assign s loops rows) k) [
      | inl e ↦
          let none : tail ≡ [] =
          nil_from_length tail
          (omega (arith, lengths, deep, length-append at tail, ap (λ (place : Place). length place.loops) e)) in
          let same : point_of s at ≡ point_of place.statement (at ++ tail) =
          ap (λ (q : Place). point_of q.statement at) e
          ∙ ap (point_of place.statement) (sym (append-nil at) ∙ ap (λ t. at ++ t) (sym none)) in
          subst (λ points. In (record { statement = place.statement; at = at ++ tail }) points)
          (sym (trace_assign s at)) (inl same)
      | inr l ↦ absurd l
    ]

pub reached : (node : Node) → IsReached node
reached = by_parts IsReached reached_loop reached_guard reached_assign
