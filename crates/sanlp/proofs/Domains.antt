-- The points of a node are those of the domains of its statements.
use Rattle.std.proofs.Common.{◌≡◌, ◌≤◌, ℕ, ◌+◌, ℤ, pos, negsuc, ◌*ℤ◌, ◌≤ℤ◌, List, [], ◌∷◌, ◌++◌, map, length, Bool}
use Rattle.std.proofs.Common.{true, false, cond, ◌&&◌, ◌||◌, inl, inr, refl, sym, ap, ◌∙◌, subst, arith, append_assoc}
use Rattle.std.specs.Prelude.{◌==◌, int_le, nat_lt}
use Rattle.std.specs.List.{flat_map, list_all}
use Rattle.std.specs.Ordering.{int_eq}
use Rattle.std.proofs.lemmas.Bool.{and_parts, eqb-true}
use Rattle.std.proofs.lemmas.List.{append-nil, length-map, length_push}
use Rattle.affine_core.proofs.Linear.{form_at_more, widened_at, length-variable_form}
use Rattle.affine_core.specs.Affine.{form_at, products, variable_form, widened_form}
use Rattle.affine_core.specs.declared.form.Form.{Form}
use Rattle.affine_core.proofs.Integers.{int_le-true}
use Rattle.sanlp.specs.declared.nest.Node.{Node}
use Rattle.sanlp.specs.declared.nest.Node.TheViews.{Loop, Guard}
use Rattle.sanlp.specs.declared.nest.Node.TheVariants.{Assign}
use Rattle.sanlp.specs.declared.nest.Point.{Point}
use Rattle.sanlp.specs.Loops.{all_hold, loop_values}
use Rattle.sanlp.specs.Trace.{all_points, trace_node, trace_step}
use Rattle.sanlp.specs.WellFormed.{Place, all_forms_fit, all_loops, bound_rows, form_fits, forms_fit, forms_fit_step}
use Rattle.sanlp.specs.WellFormed.{in_each, loops_of, loops_step, lower_row, places_of, places_step, step_fits}
use Rattle.sanlp.specs.WellFormed.{turn_row, upper_row}
use Rattle.sanlp.proofs.BoundRows.{AllHold, AreBounds, hold_each, length_turn_row, values_meet}
use Rattle.sanlp.proofs.Each.{Each, each_append, each_flat_map, each_map, each_then}
use Rattle.sanlp.proofs.Folds.{by_parts, fold_assign_at, fold_assign_at_both, fold_guard, fold_guard_at}
use Rattle.sanlp.proofs.Folds.{fold_guard_at_both, fold_loop, fold_loop_at, fold_loop_at_both}
use Rattle.sanlp.proofs.Members.{In, from_flat_map, in_cases, in_left, in_right}

-- the rows round the body of a loop inside so many loops
abbrev pub inner_rows : ℕ → List Form → List Form → List Form → ℤ → List Form
inner_rows depth rows lower upper step = rows ++ bound_rows depth lower upper step

pub trace_loop : (id : ℕ) (lower upper : List Form) (step : ℤ) (body : List Node) (at : List ℤ)
    → trace_node (Loop id lower upper step body) at
    ≡ flat_map (λ v. all_points (map trace_node body) (at ++ v ∷ [])) (loop_values lower upper step at)
trace_loop id lower upper step body at = fold_loop_at (List ℤ) (List Point) trace_step id lower upper step body at

pub trace_guard : (guards : List Form) (body : List Node) (at : List ℤ)
    → trace_node (Guard guards body) at ≡ cond (all_hold guards at) (all_points (map trace_node body) at) []
trace_guard guards body at = fold_guard_at (List ℤ) (List Point) trace_step guards body at

pub trace_assign : (s : ℕ) (at : List ℤ) → trace_node (Assign s) at ≡ (record { statement = s; at = at }) ∷ []
trace_assign s at = fold_assign_at (List ℤ) (List Point) trace_step s at

pub places_loop : (id : ℕ) (lower upper : List Form) (step : ℤ) (body : List Node) (loops : List ℕ) (rows : List Form)
    → places_of (Loop id lower upper step body) loops rows
    ≡ in_each (map places_of body) (loops ++ id ∷ []) (inner_rows (length loops) rows lower upper step)
places_loop id lower upper step body loops rows =
    fold_loop_at_both (List ℕ) (List Form) (List Place) places_step id lower upper step body loops rows

pub places_guard : (guards : List Form) (body : List Node) (loops : List ℕ) (rows : List Form)
    → places_of (Guard guards body) loops rows ≡ in_each (map places_of body) loops (rows ++ guards)
places_guard guards body loops rows =
    fold_guard_at_both (List ℕ) (List Form) (List Place) places_step guards body loops rows

pub places_assign : (s : ℕ) (loops : List ℕ) (rows : List Form)
    → places_of (Assign s) loops rows
    ≡ (record { statement = s; loops = loops; rows = map (widened_form (length loops)) rows }) ∷ []
places_assign s loops rows = fold_assign_at_both (List ℕ) (List Form) (List Place) places_step s loops rows

-- the facts of forms
over_from_fits : (depth : ℕ) (forms : List Form) → list_all (form_fits depth) forms ≡ true
    → Each (λ form. length form.coefs ≡ depth) forms
over_from_fits depth [] h = tt
over_from_fits depth (form ∷ forms) h =
    let parts = and_parts (form_fits depth form) (list_all (form_fits depth) forms) h in
    (eqb-true (length form.coefs) depth (and_parts _ _ (and_parts _ _ parts.0).0).0, over_from_fits depth forms parts.1)

abbrev pub FitsIn : ℕ → Node → Type 0
FitsIn depth node = forms_fit node depth ≡ true

pub each_fits : (depth : ℕ) (nodes : List Node) → all_forms_fit nodes depth ≡ true → Each (FitsIn depth) nodes
each_fits depth [] h = tt
each_fits depth (node ∷ nodes) h =
    let parts = and_parts (forms_fit node depth) (all_forms_fit nodes depth) h in
    (parts.0, each_fits depth nodes parts.1)

-- the facts of a loop and of a guard that fit
pub record LoopFits (lower upper : List Form) (step : ℤ) (body : List Node) (depth : ℕ) : Type 0 where
  pub bounds : AreBounds lower upper step depth
  pub body_fits : Each (FitsIn (depth + 1)) body

pub loop_fits : (id : ℕ) (lower upper : List Form) (step : ℤ) (body : List Node) (depth : ℕ)
    → FitsIn depth (Loop id lower upper step body) → LoopFits lower upper step body depth
loop_fits id lower upper step body depth h =
    let fits = sym (fold_loop_at ℕ Bool forms_fit_step id lower upper step body depth) ∙ h in
    let a = and_parts _ (list_all (λ part. part (depth + 1)) (map forms_fit body)) fits in
    let g = and_parts _ (step_fits lower step) a.0 in
    let h = and_parts (int_le (pos 1) step && int_le step (pos 2147483647))
    (int_eq step (pos 1) || (length lower == 1)) g.1 in
    let i = and_parts (int_le (pos 1) step) (int_le step (pos 2147483647)) h.0 in
    let b = and_parts _ (list_all (form_fits depth) upper) g.0 in
    let c = and_parts _ (list_all (form_fits depth) lower) b.0 in
    let d = and_parts _ (nat_lt 0 (length upper)) c.0 in
    let e = and_parts _ (nat_lt 0 (length lower)) d.0 in
    record {
      bounds = record {
        some_lower = e.1;
        some_upper = d.1;
        lower_over = over_from_fits depth lower c.1;
        upper_over = over_from_fits depth upper b.1;
        step_counts = int_le-true (pos 1) step i.0;
        one_lower = λ more. eqb-true (length lower) 1 (sym (ap (λ c. c || (length lower == 1)) more) ∙ h.1);
      };
      body_fits = each_fits (depth + 1) body a.1;
    }

pub record GuardFits (guards : List Form) (body : List Node) (depth : ℕ) : Type 0 where
  pub guards_over : Each (λ form. length form.coefs ≡ depth) guards
  pub body_fits : Each (FitsIn depth) body

pub guard_fits : (guards : List Form) (body : List Node) (depth : ℕ) → FitsIn depth (Guard guards body)
    → GuardFits guards body depth
guard_fits guards body depth h =
    let fits = sym (fold_guard_at ℕ Bool forms_fit_step guards body depth) ∙ h in
    let a = and_parts (list_all (form_fits depth) guards) (list_all (λ part. part depth) (map forms_fit body)) fits in
    record { guards_over = over_from_fits depth guards a.0; body_fits = each_fits depth body a.1 }

-- rows over no more than so many variables
abbrev pub Over : ℕ → List Form → Type 0
Over depth rows = Each (λ row. length row.coefs ≤ depth) rows

module _ (depth : ℕ) where
  abbrev InTurn : Form → Type 0
  InTurn row = length row.coefs ≤ depth + 1

  each_over : (lower upper : List Form) → Each (λ form. length form.coefs ≡ depth) lower
      → Each (λ form. length form.coefs ≡ depth) upper → Each InTurn (map lower_row lower ++ map upper_row upper)
  each_over lower upper e f =
      each_append InTurn (map lower_row lower) (map upper_row upper)
      (each_map InTurn lower_row lower
      (each_then (λ form. length form.coefs ≡ depth) (λ form. InTurn (lower_row form)) lower
      (λ form e. omega
      (arith, length_push (products (negsuc 0) form.coefs) (pos 1), length-map form.coefs (λ c. c *ℤ negsuc 0))) e))
      (each_map InTurn upper_row upper
      (each_then (λ form. length form.coefs ≡ depth) (λ form. InTurn (upper_row form)) upper
      (λ form e. omega (arith, length_push form.coefs (negsuc 0))) f))

  turns_over : (step : ℤ) (lower upper : List Form) → Each (λ form. length form.coefs ≡ depth) lower
      → Each (λ form. length form.coefs ≡ depth) upper
      → Each InTurn (flat_map (λ form. map (turn_row step form) upper) lower)
  turns_over step lower upper e f =
      each_flat_map InTurn (λ form. map (turn_row step form) upper) lower
      (each_then (λ form. length form.coefs ≡ depth) (λ form. Each InTurn (map (turn_row step form) upper)) lower
      (λ first d. each_map InTurn (turn_row step first) upper
      (each_then (λ form. length form.coefs ≡ depth) (λ form. InTurn (turn_row step first form)) upper
      (λ form k. omega (arith, length_turn_row step first form depth d k)) f)) e)

  over_if : (b : Bool) (rows rows' : List Form) → Each InTurn rows → Each InTurn rows' → Each InTurn (cond b rows rows')
  over_if true rows rows' h k = h
  over_if false rows rows' h k = k

  pub rows_over : (loops : ℕ) (rows lower upper : List Form) (step : ℤ) → loops ≡ depth → Over depth rows
      → AreBounds lower upper step depth → Over (depth + 1) (inner_rows loops rows lower upper step)
  rows_over loops rows lower upper step e h b =
      each_append InTurn rows (bound_rows loops lower upper step)
      (each_then (λ row. length row.coefs ≤ depth) InTurn rows (λ row e. omega arith) h)
      (over_if (int_eq step (pos 1)) (map lower_row lower ++ map upper_row upper)
      (variable_form (loops + 1) loops ∷ flat_map (λ form. map (turn_row step form) upper) lower)
      (each_over lower upper b.lower_over b.upper_over)
      (omega (arith, length-variable_form loops), turns_over step lower upper b.lower_over b.upper_over))

-- rows hold at more values exactly where they hold
pub hold_more : (rows : List Form) (at more : List ℤ) → Over (length at) rows → AllHold rows at
    → AllHold rows (at ++ more)
hold_more [] at more h k = tt
hold_more (row ∷ rows) at more h k =
    (subst (λ z. pos 0 ≤ℤ z) (sym (form_at_more row at more h.0)) k.0, hold_more rows at more h.1 k.1)

pub hold_less : (rows : List Form) (at more : List ℤ) → Over (length at) rows → AllHold rows (at ++ more)
    → AllHold rows at
hold_less [] at more h k = tt
hold_less (row ∷ rows) at more h k =
    (subst (λ z. pos 0 ≤ℤ z) (form_at_more row at more h.0) k.0, hold_less rows at more h.1 k.1)

hold_widened : (depth : ℕ) (rows : List Form) (at : List ℤ) → AllHold rows at
    → AllHold (map (widened_form depth) rows) at
hold_widened depth [] at h = tt
hold_widened depth (row ∷ rows) at h =
    (subst (λ z. pos 0 ≤ℤ z) (sym (widened_at depth row at)) h.0, hold_widened depth rows at h.1)

pub from_widened : (depth : ℕ) (rows : List Form) (at : List ℤ) → AllHold (map (widened_form depth) rows) at
    → AllHold rows at
from_widened depth [] at h = tt
from_widened depth (row ∷ rows) at h =
    (subst (λ z. pos 0 ≤ℤ z) (widened_at depth row at) h.0, from_widened depth rows at h.1)

-- Where a point comes from: a place among these, whose loops begin with those round the node and go on with some of
-- these.
pub record Origin (places : List Place) (ids : List ℕ) (loops : List ℕ) (at : List ℤ) (p : Point) : Type 0 where
  pub place : Place
  pub placed : In place places
  pub numbered : p.statement ≡ place.statement
  pub tail : List ℤ
  pub extends : p.at ≡ at ++ tail
  pub inner : List ℕ
  pub rounds : place.loops ≡ loops ++ inner
  pub inside : Each (λ k. In k ids) inner
  pub deep : length p.at ≡ length place.loops
  pub holds : AllHold place.rows p.at

origin_in : (places places' : List Place) (ids ids' : List ℕ) (loops : List ℕ) (at : List ℤ) (p : Point)
    → ((place : Place) → In place places → In place places') → ((k : ℕ) → In k ids → In k ids')
    → Origin places ids loops at p → Origin places' ids' loops at p
origin_in places places' ids ids' loops at p f g o = record {
  place = o.place;
  placed = f o.place o.placed;
  numbered = o.numbered;
  tail = o.tail;
  extends = o.extends;
  inner = o.inner;
  rounds = o.rounds;
  inside = each_then (λ k. In k ids) (λ k. In k ids') o.inner g o.inside;
  deep = o.deep;
  holds = o.holds;
}

-- the loops and rows round a node at values of these loops
pub record Round (loops : List ℕ) (rows : List Form) (at : List ℤ) : Type 0 where
  pub lengths : length loops ≡ length at
  pub over : Over (length at) rows
  pub holds : AllHold rows at

pub round_turn : (id : ℕ) (lower upper : List Form) (step : ℤ) (loops : List ℕ) (rows : List Form) (at : List ℤ) (v : ℤ)
    → AreBounds lower upper step (length at)
    → Round loops rows at → In v (loop_values lower upper step at)
    → Round (loops ++ id ∷ []) (inner_rows (length loops) rows lower upper step) (at ++ v ∷ [])
round_turn id lower upper step loops rows at v b r h = record {
  lengths = length_push loops id ∙ omega (arith, r.lengths, length_push at v);
  over = subst (λ d. Over d (inner_rows (length loops) rows lower upper step)) (sym (length_push at v))
      (rows_over (length at) (length loops) rows lower upper step r.lengths r.over b);
  holds = each_append (λ row. pos 0 ≤ℤ form_at row (at ++ v ∷ [])) rows (bound_rows (length loops) lower upper step)
      (hold_more rows at (v ∷ []) r.over r.holds) (values_meet upper step (length loops) at v r.lengths lower b h);
}

pub round_guard : (guards : List Form) (loops : List ℕ) (rows : List Form) (at : List ℤ)
    → Each (λ form. length form.coefs ≡ length at) guards
    → Round loops rows at → AllHold guards at → Round loops (rows ++ guards) at
round_guard guards loops rows at over r h = record {
  lengths = r.lengths;
  over = each_append (λ row. length row.coefs ≤ length at) rows guards r.over
      (each_then (λ form. length form.coefs ≡ length at) (λ row. length row.coefs ≤ length at) guards
      (λ form e. omega arith) over);
  holds = each_append (λ row. pos 0 ≤ℤ form_at row at) rows guards r.holds h;
}

-- each point of a node comes from a place of the node
abbrev pub HasOrigins : Node → Type 0
HasOrigins node = (loops : List ℕ) (rows : List Form) (at : List ℤ) → FitsIn (length at) node → Round loops rows at
    → (p : Point) → In p (trace_node node at) → Origin (places_of node loops rows) (loops_of node) loops at p

pub parts_origins : (nodes : List Node) → Each HasOrigins nodes → (loops : List ℕ) (rows : List Form) (at : List ℤ)
    → Each (FitsIn (length at)) nodes → Round loops rows at
    → (p : Point) → In p (all_points (map trace_node nodes) at)
    → Origin (in_each (map places_of nodes) loops rows) (all_loops nodes) loops at p
parts_origins [] h loops rows at fits r p k = absurd k
parts_origins (node ∷ nodes) h loops rows at fits r p k =
    let places : List Place = places_of node loops rows in
    let others : List Place = in_each (map places_of nodes) loops rows in
    elim (in_cases p (trace_node node at) (all_points (map trace_node nodes) at) k) [
      | inl l ↦ origin_in places (places ++ others) (loops_of node) (loops_of node ++ all_loops nodes) loops at p
          (λ place. in_left place places others) (λ k. in_left k (loops_of node) (all_loops nodes))
          (h.0 loops rows at fits.0 r p l)
      | inr l ↦ origin_in others (places ++ others) (all_loops nodes) (loops_of node ++ all_loops nodes) loops at p
          (λ place. in_right place places others) (λ k. in_right k (loops_of node) (all_loops nodes))
          (parts_origins nodes h.1 loops rows at fits.1 r p l)
    ]

origins_loop : (id : ℕ) (lower upper : List Form) (step : ℤ) (body : List Node) → Each HasOrigins body
    → HasOrigins (Loop id lower upper step body)
origins_loop id lower upper step body h loops rows at fits r p k =
    let f : LoopFits lower upper step body (length at) = loop_fits id lower upper step body (length at) fits in
    let turn =
    from_flat_map (λ v. all_points (map trace_node body) (at ++ v ∷ [])) p (loop_values lower upper step at)
    (subst (λ points. In p points) (trace_loop id lower upper step body at) k) in
    let v : ℤ = turn.0 in
    let fits' : Each (FitsIn (length (at ++ v ∷ []))) body =
    subst (λ d. Each (FitsIn d) body) (sym (length_push at v)) f.body_fits in
    let o = parts_origins body h (loops ++ id ∷ []) (inner_rows (length loops) rows lower upper step)
    (at ++ v ∷ []) fits' (round_turn id lower upper step loops rows at v f.bounds r turn.1) p turn.2 in
    record {
      place = o.place;
      placed = subst (λ places. In o.place places) (sym (places_loop id lower upper step body loops rows)) o.placed;
      numbered = o.numbered;
      tail = v ∷ o.tail;
      extends = o.extends ∙ append_assoc at (v ∷ []) o.tail;
      inner = id ∷ o.inner;
      rounds = o.rounds ∙ append_assoc loops (id ∷ []) o.inner;
      inside =
          subst (λ ids. Each (λ k. In k ids) (id ∷ o.inner))
          (sym (fold_loop (List ℕ) loops_step id lower upper step body)) (
            inl refl,
            each_then (λ k. In k (all_loops body)) (λ k. In k (id ∷ all_loops body)) o.inner
                (λ k l. inr l) o.inside,
          );
      deep = o.deep;
      holds = o.holds;
    }

pub from_if : (b : Bool) (p : Point) (points : List Point) → In p (cond b points []) → (b ≡ true) × In p points
from_if true p points h = (refl, h)
from_if false p points h = absurd h

origins_guard : (guards : List Form) (body : List Node) → Each HasOrigins body → HasOrigins (Guard guards body)
origins_guard guards body h loops rows at fits r p k =
    let f : GuardFits guards body (length at) = guard_fits guards body (length at) fits in
    let inside =
    from_if (all_hold guards at) p (all_points (map trace_node body) at)
    (subst (λ points. In p points) (trace_guard guards body at) k) in
    let o = parts_origins body h loops (rows ++ guards) at f.body_fits
    (round_guard guards loops rows at f.guards_over r (hold_each guards at inside.0)) p inside.1 in
    origin_in (in_each (map places_of body) loops (rows ++ guards)) (places_of (Guard guards body) loops rows)
    (all_loops body) (loops_of (Guard guards body)) loops at p
    (λ place l. subst (λ places. In place places) (sym (places_guard guards body loops rows)) l)
    (λ k l. subst (λ ids. In k ids) (sym (fold_guard (List ℕ) loops_step guards body)) l) o

origins_assign : (s : ℕ) → HasOrigins (Assign s)
origins_assign s loops rows at fits r p k =
    let place : Place = record { statement = s; loops = loops; rows = map (widened_form (length loops)) rows } in
    let here : Point = record { statement = s; at = at } in
    elim (subst (λ points. In p points) (trace_assign s at) k) [
      | inl e ↦ subst (λ q. Origin (places_of (Assign s) loops rows) (loops_of (Assign s)) loops at q) e (record {
        place = place;
        placed = subst (λ places. In place places) (sym (places_assign s loops rows)) (inl refl);
        numbered = refl;
        tail = [];
        extends = sym (append-nil at);
        inner = [];
        rounds = sym (append-nil loops);
        inside = tt;
        deep = sym r.lengths;
        holds = hold_widened (length loops) rows at r.holds;
      })
      | inr l ↦ absurd l
    ]

pub origins : (node : Node) → HasOrigins node
origins = by_parts HasOrigins origins_loop origins_guard origins_assign
