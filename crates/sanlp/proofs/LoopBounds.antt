-- Each loop round a statement is bounded above by one of the statement's rows.
--
-- By induction on nodes: where each loop round a node has a row that bounds it above among the rows round the node,
-- it has one at each place in the node. A loop adds the rows of its own bounds, of which that of its first upper form
-- takes off the loop's own variable: `upper - v` with step 1, and else `upper - lower - step * v`. A guard only adds
-- rows, and an assignment widens them with zeros. It isn't said which row it is, nor how far it lets the loop go.
use Rattle.std.proofs.Common.{◌≡◌, ◌<◌, ℕ, ◌+◌, ◌-◌, ℤ, pos, negsuc, neg_ℤ, ◌<ℤ◌, ◌≤ℤ◌, List, [], ◌∷◌, ◌++◌}
use Rattle.std.proofs.Common.{map, length, get_or, Bool, true, false, cond, inl, inr, refl, sym, ap, ◌∙◌}
use Rattle.std.proofs.Common.{subst, arith}
use Rattle.std.specs.Prelude.{nat_lt}
use Rattle.std.specs.List.{flat_map}
use Rattle.std.specs.Ordering.{int_eq}
use Rattle.std.proofs.lemmas.Bool.{cases_lt}
use Rattle.std.proofs.lemmas.Int.{ints}
use Rattle.std.proofs.lemmas.List.{get_or_past, get_or_push, length_push}
use Rattle.affine_core.specs.Affine.{form_product, form_sum, variable_form, widened_form}
use Rattle.affine_core.specs.declared.form.Form.{Form}
use Rattle.plain_data.proofs.Lists.{get_or-append_replicate}
use Rattle.sanlp.specs.declared.nest.Nest.{Nest}
use Rattle.sanlp.specs.declared.nest.Node.{Node}
use Rattle.sanlp.specs.declared.nest.Node.TheViews.{Loop, Guard}
use Rattle.sanlp.specs.declared.nest.Node.TheVariants.{Assign}
use Rattle.sanlp.specs.Bounds.{BoundsAbove, IsBoundedAbove}
use Rattle.sanlp.specs.WellFormed.{Place, bound_rows, in_each, lower_row, places_of, said_from, turn_row, upper_row}
use Rattle.sanlp.proofs.BoundRows.{AreBounds, length_turn_row}
use Rattle.sanlp.proofs.Domains.{FitsIn, GuardFits, LoopFits, each_fits, guard_fits, inner_rows, loop_fits}
use Rattle.sanlp.proofs.Domains.{places_assign, places_guard, places_loop}
use Rattle.sanlp.proofs.Each.{Each, each_append, each_of}
use Rattle.sanlp.proofs.Enumerates.{in_said, place_of}
use Rattle.sanlp.proofs.Folds.{by_parts}
use Rattle.sanlp.proofs.Members.{In, each_in, in_at, in_left, in_map, in_right}

-- a row whose last coefficient is below 0
bounds_last : (cs : List ℤ) (c : ℤ) (depth : ℕ) (row : Form) → row.coefs ≡ cs ++ c ∷ [] → length cs ≡ depth
    → c <ℤ pos 0 → BoundsAbove depth row
bounds_last cs c depth row e deep below =
    let last : get_or row.coefs depth (pos 0) ≡ c =
    ap (λ xs. get_or xs depth (pos 0)) e ∙ get_or_push cs c (pos 0) depth deep in
    record {
      taken_off = subst (λ z. z <ℤ pos 0) (sym last) below;
      none_inside = λ v inside.
          ap (λ xs. get_or xs v (pos 0)) e
          ∙ get_or_past (cs ++ c ∷ []) v (pos 0) (omega (arith, length_push cs c, deep, inside));
    }

-- A row that bounds a loop above, among rows

record Above (rows : List Form) (loop : ℕ) : Type 0 where
  pub row : Form
  pub there : In row rows
  pub bounds : BoundsAbove loop row

above_in : (rows rows' : List Form) (loop : ℕ) → ((row : Form) → In row rows → In row rows') → Above rows loop
    → Above rows' loop
above_in rows rows' loop f a = record { row = a.row; there = f a.row a.there; bounds = a.bounds }

above_widened : (depth : ℕ) (rows : List Form) (loop : ℕ) → Above rows loop
    → Above (map (widened_form depth) rows) loop
above_widened depth rows loop a =
    let cs : List ℤ = a.row.coefs in
    record {
      row = widened_form depth a.row;
      there = in_map (widened_form depth) rows a.row a.there;
      bounds = record {
        taken_off = subst (λ z. z <ℤ pos 0) (sym (get_or-append_replicate cs (depth - length cs) loop (pos 0))) a.bounds.taken_off;
        none_inside = λ v inside. get_or-append_replicate cs (depth - length cs) v (pos 0) ∙ a.bounds.none_inside v inside;
      };
    }

-- the rows of a loop's bounds
above_upper : (upper : List Form) (depth : ℕ) → nat_lt 0 (length upper) ≡ true
    → Each (λ form. length form.coefs ≡ depth) upper → Above (map upper_row upper) depth
above_upper [] depth some over = absurd (cc)
above_upper (form ∷ upper) depth some over = record {
  row = upper_row form;
  there = inl refl;
  bounds = bounds_last form.coefs (negsuc 0) depth (upper_row form) refl over.0 (omega (arith, ints));
}

above_turn : (step : ℤ) (lower : Form) (upper : List Form) (depth : ℕ) → pos 1 ≤ℤ step
    → length lower.coefs ≡ depth → nat_lt 0 (length upper) ≡ true
    → Each (λ form. length form.coefs ≡ depth) upper → Above (map (turn_row step lower) upper) depth
above_turn step lower [] depth counts deep some over = absurd (cc)
above_turn step lower (form ∷ upper) depth counts deep some over =
    let cs : List ℤ = (form_sum form (form_product (negsuc 0) lower)).coefs in
    let long : length (cs ++ neg_ℤ step ∷ []) ≡ depth + 1 = length_turn_row step lower form depth deep over.0 in
    record {
      row = turn_row step lower form;
      there = inl refl;
      bounds = bounds_last cs (neg_ℤ step) depth (turn_row step lower form) refl
          (omega (arith, long, length_push cs (neg_ℤ step))) (omega (arith, ints, counts));
    }

above_turns : (step : ℤ) (lower upper : List Form) (depth : ℕ) → AreBounds lower upper step depth
    → nat_lt 0 (length lower) ≡ true → Each (λ form. length form.coefs ≡ depth) lower
    → Above (variable_form (depth + 1) depth ∷ flat_map (λ form. map (turn_row step form) upper) lower) depth
above_turns step [] upper depth b some over = absurd (cc)
above_turns step (first ∷ lower) upper depth b some over =
    let rows : List Form = map (turn_row step first) upper in
    above_in rows (variable_form (depth + 1) depth ∷ flat_map (λ form. map (turn_row step form) upper) (first ∷ lower))
    depth (λ row h. inr (in_left row rows (flat_map (λ form. map (turn_row step form) upper) lower) h))
    (above_turn step first upper depth b.step_counts over.0 b.some_upper b.upper_over)

above_if : (b : Bool) (rows rows' : List Form) (loop : ℕ) → Above rows loop → Above rows' loop
    → Above (cond b rows rows') loop
above_if true rows rows' loop a a' = a
above_if false rows rows' loop a a' = a'

above_bounds : (lower upper : List Form) (step : ℤ) (depth : ℕ) → AreBounds lower upper step depth
    → Above (bound_rows depth lower upper step) depth
above_bounds lower upper step depth b =
    above_if (int_eq step (pos 1)) (map lower_row lower ++ map upper_row upper)
    (variable_form (depth + 1) depth ∷ flat_map (λ form. map (turn_row step form) upper) lower) depth
    (above_in (map upper_row upper) (map lower_row lower ++ map upper_row upper) depth
    (λ row. in_right row (map lower_row lower) (map upper_row upper))
    (above_upper upper depth b.some_upper b.upper_over))
    (above_turns step lower upper depth b b.some_lower b.lower_over)

-- Nodes

abbrev AllAbove : List Form → ℕ → Type 0
AllAbove rows depth = (loop : ℕ) → loop < depth → Above rows loop

abbrev IsAbove : Place → Type 0
IsAbove place = AllAbove place.rows (length place.loops)

abbrev HasAbove : Node → Type 0
HasAbove node = (loops : List ℕ) (rows : List Form) → FitsIn (length loops) node → AllAbove rows (length loops)
    → Each IsAbove (places_of node loops rows)

parts_above : (nodes : List Node) → Each HasAbove nodes → (loops : List ℕ) (rows : List Form)
    → Each (FitsIn (length loops)) nodes → AllAbove rows (length loops)
    → Each IsAbove (in_each (map places_of nodes) loops rows)
parts_above [] h loops rows fits above = tt
parts_above (node ∷ nodes) h loops rows fits above =
    each_append IsAbove (places_of node loops rows) (in_each (map places_of nodes) loops rows)
    (h.0 loops rows fits.0 above) (parts_above nodes h.1 loops rows fits.1 above)

above_loop : (id : ℕ) (lower upper : List Form) (step : ℤ) (body : List Node) → Each HasAbove body
    → HasAbove (Loop id lower upper step body)
above_loop id lower upper step body h loops rows fits above =
    let depth : ℕ = length loops in
    let f : LoopFits lower upper step body depth = loop_fits id lower upper step body depth fits in
    let bounds : List Form = bound_rows depth lower upper step in
    let deeper : length (loops ++ id ∷ []) ≡ depth + 1 = length_push loops id in
    let own : Above (rows ++ bounds) depth =
    above_in bounds (rows ++ bounds) depth (λ row. in_right row rows bounds)
    (above_bounds lower upper step depth f.bounds) in
    let all : AllAbove (rows ++ bounds) (length (loops ++ id ∷ [])) =
    λ loop lt. elim (cases_lt loop depth) [
      | inl less ↦ above_in rows (rows ++ bounds) loop (λ row. in_left row rows bounds) (above loop less)
      | inr past ↦
          let same : depth ≡ loop = omega (arith, deeper, lt, past) in
          subst (Above (rows ++ bounds)) same own
    ] in
    subst (Each IsAbove) (sym (places_loop id lower upper step body loops rows))
    (parts_above body h (loops ++ id ∷ []) (inner_rows depth rows lower upper step)
    (subst (λ d. Each (FitsIn d) body) (sym deeper) f.body_fits) all)

above_guard : (guards : List Form) (body : List Node) → Each HasAbove body → HasAbove (Guard guards body)
above_guard guards body h loops rows fits above =
    let f : GuardFits guards body (length loops) = guard_fits guards body (length loops) fits in
    subst (Each IsAbove) (sym (places_guard guards body loops rows))
    (parts_above body h loops (rows ++ guards) f.body_fits
    (λ loop lt. above_in rows (rows ++ guards) loop (λ row. in_left row rows guards) (above loop lt)))

above_assign : (s : ℕ) → HasAbove (Assign s)
above_assign s loops rows fits above =
    subst (Each IsAbove) (sym (places_assign s loops rows))
    (λ loop lt. above_widened (length loops) rows loop (above loop lt), tt)

has_above : (node : Node) → HasAbove node
has_above = by_parts HasAbove above_loop above_guard above_assign

pub bounded_above : (n : Nest) → IsBoundedAbove n
bounded_above n s statement loop e lt =
    let all : Each IsAbove (said_from 0 n.statements) =
    subst (Each IsAbove) n.well_formed.placed
    (parts_above n.body (each_of HasAbove n.body has_above) [] [] (each_fits 0 n.body n.well_formed.forms_fit)
    (λ loop lt. absurd (omega arith))) in
    let a : Above statement.rows loop =
    each_in IsAbove (place_of (0 + s) statement) (said_from 0 n.statements) all
    (in_said 0 n.statements s statement e) loop lt in
    let at = in_at a.row statement.rows a.there in
    (at.0, a.row, at.1, a.bounds)
