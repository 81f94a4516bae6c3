-- The parts of a body: where no reason stands in them, their nodes and statements are those of a nest.
--
-- `GivesParts` says of a part, wherever it stands: its loops are numbered from the next number on, its statements stand
-- where they say they do, all forms fit, and all are assignments that fit, 64 statements at most with the sinks. It is
-- had by induction on the tree of parts, each time for what a part makes without a reason (`part_well`). The rows round
-- a part are kept twice, as forms of a nest and as rows of binding; `Shows` says that they are the same from that depth
-- on, and is kept by a loop and by a guard. What a loop adds is said of its bounds in `NestsBounds`.
use Rattle.std.proofs.Common.{◌≡◌, ◌<◌, ◌≤◌, ℕ, suc, ◌+◌, ℤ, pos, negsuc, ◌+ℤ◌, ◌<ℤ◌, List, [], ◌∷◌, ◌++◌, map, length}
use Rattle.std.proofs.Common.{Bool, true, false, cond, not, ◌||◌, Option, Some, None, refl, sym, ap, ◌∙◌, arith, subst}
use Rattle.std.specs.Prelude.{IsTrue, int_le, nat_lt, nat_le, ◌==◌}
use Rattle.std.specs.Ordering.{int_eq}
use Rattle.std.specs.Cmp.Derive.{both_true}
use Rattle.std.proofs.lemmas.Int.{ints}
use Rattle.std.proofs.lemmas.Bool.{and_parts, lt-ltb, le-leb, ltb-false, leb-false, eqb-false, eqb-true, not_from_false}
use Rattle.std.proofs.lemmas.List.{append-nil, length-append, length-map, length_push, map-append}
use Rattle.affine_core.specs.declared.form.Form.{Form}
use Rattle.affine_core.specs.Affine.{variable_form, widened_form}
use Rattle.sanlp.specs.declared.nest.ArrayDecl.{ArrayDecl}
use Rattle.sanlp.specs.declared.nest.Role.TheVariants as role
use Rattle.sanlp.specs.declared.nest.Statement.{Statement}
use Rattle.sanlp.specs.WellFormed.{access_fits, uses_given, statement_fits, step_fits, all_forms_fit, lower_row}
use Rattle.sanlp.specs.WellFormed.{upper_row, turn_row, bound_rows, all_places, said_from}
use Rattle.sanlp.proofs.Each.{Each, each_append, each_then}
use Rattle.loop_grammar.specs.declared.tree.Comparison.{Comparison}
use Rattle.loop_grammar.specs.declared.tree.Name.{Name}
use Rattle.loop_grammar.specs.declared.tree.Operand.{Operand}
use Rattle.loop_grammar.specs.declared.tree.Other.{Other}
use Rattle.loop_grammar.specs.declared.tree.Part.{Part}
use Rattle.loop_grammar.specs.declared.tree.Step.{Step}
use Rattle.loop_grammar.specs.declared.tree.Part.TheOpen.{Part-F, For, If, Assign, Block, Other-F}
use Rattle.loop_grammar.specs.declared.tree.Part.TheFolds.{map-Part, map-Other, fold-Other, fold-roll-Part}
use Rattle.loop_grammar.specs.declared.tree.Part.TheFolds.{fold-roll-Other, ind-Part}
use Rattle.loop_grammar.specs.declared.tree.Part.TheViews.{roll-Part, roll-Other}
use Rattle.loop_bind.specs.declared.affine.Affine.{Affine}
use Rattle.loop_bind.specs.declared.bounds.Bounds.{Bounds}
use Rattle.loop_bind.specs.declared.bounds.Bounds.TheVariants.{Range, Progression}
use Rattle.loop_bind.specs.declared.context.Context.{Context}
use Rattle.loop_bind.specs.declared.error.BindError.{BindError}
use Rattle.loop_bind.specs.declared.error.BindError.TheVariants.{WrongCount, ElseForm, TooManyProcesses, TooDeep}
use Rattle.loop_bind.specs.declared.error.BindError.TheVariants.{TooManyRows}
use Rattle.loop_bind.specs.declared.scope.Place.TheVariants.{Body}
use Rattle.loop_bind.specs.declared.scope.What.{What}
use Rattle.loop_bind.specs.declared.scope.What.TheVariants.{Parameter, Array, Loop}
use Rattle.loop_bind.specs.declared.scope.What.TheVariants as what
use Rattle.loop_bind.specs.Bounds.{step_findings, loop_bounds, lower_of, upper_of, step_of, variable_of}
use Rattle.loop_bind.specs.Forms.{loop_form, multiple_form, difference_form, form_over}
use Rattle.loop_bind.specs.Judging.{Scope, findings_of, lower_operands, upper_operands}
use Rattle.loop_bind.specs.Names.{value_named}
use Rattle.loop_bind.specs.Parts.{Made, Meaning, nothing, both, in_order, Otherwise, new_name_findings}
use Rattle.loop_bind.specs.Parts.{same_name_findings, inside_loop, for_findings, loop_body, loop_made, guarded}
use Rattle.loop_bind.specs.Parts.{with_findings, else_made, array_number, assign_made, part_step, other_step}
use Rattle.loop_bind.specs.Parts.{part_made, parts_made}
use Rattle.loop_bind.specs.Reasons.{found_if}
use Rattle.loop_bind.specs.Rows.{lower_forms, loop_rows, guard_rows, guard_findings, may_have_else, else_rows}
use Rattle.loop_bind.specs.Rows as rows
use Rattle.loop_bind.specs.Values.{Valued, valued, subscripts_over, access_findings}
use Rattle.loop_class.proofs.NestsForms.{over_deeper, over_multiple, over_termwise, form_wider, lower_over, upper_over}
use Rattle.loop_class.proofs.NestsForms.{turn_over, turn_row_over}
use Rattle.loop_class.proofs.NestsSizes.{IsForm, IsRow, IsBound, AreBounds, row_deeper, loop_rows_are, lower_rows}
use Rattle.loop_class.proofs.NestsSizes.{upper_rows, has_lower, has_upper, all_fit}
use Rattle.loop_class.proofs.NestsScope.{Known, KnownIfAny, KnownScope, value_known, with_name_known, known_deeper}
use Rattle.loop_class.proofs.NestsScope.{guard_rows_are, else_rows_are}
use Rattle.loop_class.proofs.NestsBody.{Numbered, numbered_none, numbered_append, numbered_loop, numbered_guard}
use Rattle.loop_class.proofs.NestsBody.{numbered_assign, loop_places, loop_fits, guard_places, guard_fits}
use Rattle.loop_class.proofs.NestsBody.{assign_places, assign_fits, placed_append, fit_append}
use Rattle.loop_class.proofs.NestsBounds.{bounds_are}
use Rattle.loop_class.proofs.NestsValues.{none_left, none_right, found_none, not_found, access_is, Fitting}
use Rattle.loop_class.proofs.NestsValues.{subscripts_fit, subscripts_count, value_fits}

-- forms that say the same as rows, inside this many loops and more
abbrev pub Shows : ℕ → List Form → List Affine → Type 0
Shows d forms rows = (e : ℕ) → d ≤ e → e ≤ 6 → map (widened_form e) forms ≡ map (form_over e) rows

pub shows_append : (d : ℕ) (forms more : List Form) (rows added : List Affine) → Shows d forms rows → Shows d more added
    → Shows d (forms ++ more) (rows ++ added)
shows_append d forms more rows added h k e le room =
    map-append (widened_form e) forms more ∙ (λ i. h e le room i ++ k e le room i)
    ∙ sym (map-append (form_over e) rows added)

pub shows_over : (d : ℕ) (rows : List Affine) → Each (IsRow d) rows → Shows d (map (form_over d) rows) rows
shows_over d [] h e le room = refl
shows_over d (f ∷ rows) h e le room =
    let first = form_wider d e f le room h.0.over in
    let rest = shows_over d rows h.1 e le room in
    λ i. first i ∷ rest i

pub shows_deeper : (d e : ℕ) (forms : List Form) (rows : List Affine) → d ≤ e → Shows d forms rows → Shows e forms rows
shows_deeper d e forms rows le h k above room = h k (omega arith) room

lower_same : (d : ℕ) (lower : List Affine) → d < 6 → Each (IsBound d) lower
    → map lower_row (map (form_over d) lower)
    ≡ map (form_over (suc d)) (map (λ f. difference_form (loop_form d) f) lower)
lower_same d [] room h = refl
lower_same d (f ∷ lower) room h =
    let first = sym (lower_over d f room h.0.over) in
    let rest = lower_same d lower room h.1 in
    λ i. first i ∷ rest i

upper_same : (d : ℕ) (upper : List Affine) → d < 6 → Each (IsBound d) upper
    → map upper_row (map (form_over d) upper)
    ≡ map (form_over (suc d)) (map (λ f. difference_form f (loop_form d)) upper)
upper_same d [] room h = refl
upper_same d (f ∷ upper) room h =
    let first = sym (upper_over d f room h.0.over) in
    let rest = upper_same d upper room h.1 in
    λ i. first i ∷ rest i

turns_same : (d : ℕ) (first : Affine) (step : ℤ) (upper : List Affine) → d < 6 → IsForm d first → Each (IsBound d) upper
    → map (turn_row step (form_over d first)) (map (form_over d) upper)
    ≡ map (form_over (suc d)) (map (rows.turn_row d first step) upper)
turns_same d first step [] room h k = refl
turns_same d first step (f ∷ upper) room h k =
    let head = sym (turn_row_over d first step f room h.over k.0.over) in
    let rest = turns_same d first step upper room h k.1 in
    λ i. head i ∷ rest i

-- the rows of a nest's loop with these bounds, inside so many loops
abbrev pub shown_rows : ℕ → Bounds → List Form
shown_rows d bounds =
    bound_rows d (map (form_over d) (lower_of bounds)) (map (form_over d) (upper_of bounds)) (step_of bounds)

other_than_1 : (k : ℤ) → pos 1 <ℤ k → int_eq k (pos 1) ≡ false
other_than_1 k h = grind (arith, ints)

rows_same : (d : ℕ) (bounds : Bounds) → d < 6 → AreBounds d bounds
    → map (form_over (suc d)) (loop_rows d bounds) ≡ shown_rows d bounds
rows_same d (Range lower upper) room h =
    map-append (form_over (suc d)) (map (λ f. difference_form (loop_form d) f) lower)
    (map (λ f. difference_form f (loop_form d)) upper)
    ∙ (λ i. sym (lower_same d lower room h.lower_is) i ++ sym (upper_same d upper room h.upper_is) i)
rows_same d (Progression first upper step) room h =
    let low : List Form = form_over d first ∷ [] in
    let high : List Form = map (form_over d) upper in
    let turns : List Form = variable_form (d + 1) d ∷ (map (turn_row step (form_over d first)) high ++ []) in
    (λ i. turn_over d room i ∷
    (sym (turns_same d first step upper room h.first_is h.upper_is)
    ∙ sym (append-nil (map (turn_row step (form_over d first)) high))) i)
    ∙ ap (λ b. cond {A = List Form} b (map lower_row low ++ map upper_row high) turns) (sym (other_than_1 step h.above))

-- the rows of a loop, as its bounds give them
pub shows_loop : (d : ℕ) (bounds : Bounds) → d < 6 → AreBounds d bounds
    → Shows (suc d) (shown_rows d bounds) (loop_rows d bounds)
shows_loop d bounds room h =
    subst (λ forms. Shows (suc d) forms (loop_rows d bounds)) (rows_same d bounds room h)
    (shows_over (suc d) (loop_rows d bounds) (loop_rows_are d room bounds h))

-- a loop's step fits its lower forms
steps_fit : (d : ℕ) (bounds : Bounds) → AreBounds d bounds
    → IsTrue (step_fits (map (form_over d) (lower_of bounds)) (step_of bounds))
steps_fit d (Range lower upper) h = refl
steps_fit d (Progression first upper step) h =
    let limit = and_parts (int_le (negsuc 2147483646) step) (int_le step (pos 2147483647)) h.limited in
    both_true (both_true (above_1 step h.above) limit.1) (or_true (int_eq step (pos 1)))
  where
    above_1 : (k : ℤ) → pos 1 <ℤ k → int_le (pos 1) k ≡ true
    above_1 k h = grind (arith, ints)

    or_true : (b : Bool) → (b || true) ≡ true
    or_true true = refl
    or_true false = refl

module _ (arrays : List ArrayDecl) where
  -- what stands round a part
  pub record IsContext (c : Context) : Type 0 where
    pub room : length c.loops ≤ 6
    pub scope : KnownScope arrays (length c.loops) c.scope
    pub rows : Each (IsRow (length c.loops)) c.rows

  pub record IsAssignment (s : Statement) : Type 0 where
    pub role : s.role ≡ role.Assign
    pub fits : IsTrue (statement_fits arrays s)

  -- what a part gives where the next loop and the next statement have these numbers
  pub record GivesParts (c : Context) (l s : ℕ) (m : Made) : Type 0 where
    pub numbered : Numbered l m.next_loop m.nodes
    pub placed : (rows : List Form) → Shows (length c.loops) rows c.rows
        → all_places m.nodes c.loops rows ≡ said_from s m.statements
    pub fit : IsTrue (all_forms_fit m.nodes (length c.loops))
    pub few : s + length m.statements + c.sinks ≤ 64
    pub assigns : Each IsAssignment m.statements

  abbrev pub Well : Meaning → Type 0
  Well meaning =
      (c : Context) (l s : ℕ) → IsContext c → s + c.sinks ≤ 64 → (meaning c l s).findings ≡ []
      → GivesParts c l s (meaning c l s)

  nothing_stands : (c : Context) (l s : ℕ) → s + c.sinks ≤ 64 → GivesParts c l s (nothing l)
  nothing_stands c l s few = record {
    numbered = numbered_none l;
    placed = λ rows h. refl;
    fit = refl;
    few = omega arith;
    assigns = tt;
  }

  both_stand : (c : Context) (l s : ℕ) (a b : Made) → GivesParts c l s a
      → GivesParts c a.next_loop (s + length a.statements) b → GivesParts c l s (both a b)
  both_stand c l s a b h k = record {
    numbered = numbered_append l a.next_loop b.next_loop a.nodes b.nodes h.numbered k.numbered;
    placed =
        λ rows shown. placed_append c.loops rows s a.nodes b.nodes a.statements b.statements (h.placed rows shown)
        (k.placed rows shown);
    fit = fit_append (length c.loops) a.nodes b.nodes h.fit k.fit;
    few = omega (arith, k.few, length-append a.statements b.statements);
    assigns = each_append IsAssignment a.statements b.statements h.assigns k.assigns;
  }

  found_stands : (c : Context) (l s : ℕ) (findings : List BindError) (m : Made) → GivesParts c l s m
      → GivesParts c l s (with_findings findings m)
  found_stands c l s findings m h =
      record { numbered = h.numbered; placed = h.placed; fit = h.fit; few = h.few; assigns = h.assigns }

  pub well_in_order : (parts : List Meaning) → Each Well parts → Well (in_order parts)
  well_in_order [] each c l s context few none = nothing_stands c l s few
  well_in_order (part ∷ parts) each c l s context few none =
      let a : Made = part c l s in
      let b : Made = in_order parts c a.next_loop (s + length a.statements) in
      let first : GivesParts c l s a = each.0 c l s context few (none_left a.findings b.findings none) in
      both_stand c l s a b first
      (well_in_order parts each.1 c a.next_loop (s + length a.statements) context first.few
      (none_right a.findings b.findings none))

  guarded_stands : (body : Meaning) (rows : List Affine) (c : Context) (l s : ℕ) → Well body → IsContext c
      → Each (IsRow (length c.loops)) rows → s + c.sinks ≤ 64
      → (guarded body rows c l s).findings ≡ [] → GivesParts c l s (guarded body rows c l s)
  guarded_stands body rows c l s well context each few none =
      let inner : Context = record c { rows = c.rows ++ rows } in
      let d : ℕ = length c.loops in
      let h : GivesParts inner l s (body inner l s) =
      well inner l s
      (record {
        room = context.room;
        scope = context.scope;
        rows =
            each_append (IsRow d) c.rows rows context.rows each;
      }) few none in
      record {
        numbered =
            numbered_guard (map (form_over d) rows) (body inner l s).nodes l (body inner l s).next_loop h.numbered;
        placed = λ outer shown. guard_places (map (form_over d) rows) (body inner l s).nodes c.loops outer
            ∙ h.placed (outer ++ map (form_over d) rows)
            (shows_append d outer (map (form_over d) rows) c.rows rows shown (shows_over d rows each));
        fit = guard_fits (map (form_over d) rows) (body inner l s).nodes d (all_fit d rows context.room each) h.fit;
        few = h.few;
        assigns = h.assigns;
      }

  abbrev WellOtherwise : Otherwise → Type 0
  WellOtherwise other = Well other.1

  abbrev WellIfAny : Option Otherwise → Type 0
  WellIfAny None = Unit {0}
  WellIfAny (Some other) = WellOtherwise other

  well_else : (cond : List Comparison) (other : Option Otherwise) → WellIfAny other → Well (else_made cond other)
  well_else cond None h c l s context few none = nothing_stands c l s few
  well_else cond (Some other) h c l s context few none =
      let made : Made = guarded other.1 (else_rows c.scope cond) c l s in
      let found : List BindError = found_if (not (may_have_else cond)) (ElseForm other.0) in
      found_stands c l s found made
      (guarded_stands other.1 (else_rows c.scope cond) c l s h context
      (else_rows_are arrays (length c.loops) c.scope context.scope cond) few (none_right found made.findings none))

  well_if : (cond : List Comparison) (body : Meaning) (other : Option Otherwise) → Well body → WellIfAny other
      → Well (part_step (If cond body other))
  well_if cond body other h k c l s context few none =
      let yes : Made = guarded body (guard_rows c.scope cond) c l s in
      let otherwise : Made = else_made cond other c yes.next_loop (s + length yes.statements) in
      let rest : yes.findings ++ otherwise.findings ≡ [] =
      none_right (guard_findings c.scope cond) (yes.findings ++ otherwise.findings) none in
      let first : GivesParts c l s yes =
      guarded_stands body (guard_rows c.scope cond) c l s h context
      (guard_rows_are arrays (length c.loops) c.scope context.scope cond) few
      (none_left yes.findings otherwise.findings rest) in
      found_stands c l s (guard_findings c.scope cond) (both yes otherwise) (both_stand c l s yes otherwise first
      (well_else cond other k c yes.next_loop (s + length yes.statements) context first.few
      (none_right yes.findings otherwise.findings rest)))

  -- a seventh nested loop is a reason, and so is what is wrong with the step
  for_room : (c : Context) (name : Name) (first : Operand) (second : Name) (bound : Operand) (third : Name)
      (step : Step)
      → for_findings c name first second bound third step ≡ []
      → (length c.loops < 6) × (step_findings c.scope (length (lower_forms c.scope first)) step ≡ [])
  for_room c name first second bound third step none =
      let a : List BindError = new_name_findings c.scope name in
      let b : List BindError = found_if (nat_le 6 (length c.loops)) (TooDeep name.token) in
      let p : List BindError = findings_of Body c.scope (lower_operands first) in
      let q : List BindError = same_name_findings name second in
      let r : List BindError = findings_of Body c.scope (upper_operands bound) in
      let t : List BindError = same_name_findings name third in
      let u : List BindError = step_findings c.scope (length (lower_forms c.scope first)) step in
      let before : a ++ b ++ p ++ q ++ r ++ t ≡ [] = none_left (a ++ b ++ p ++ q ++ r ++ t) u none in
      let found : b ≡ [] =
      none_right a b
      (none_left (a ++ b) p
      (none_left (a ++ b ++ p) q
      (none_left (a ++ b ++ p ++ q) r (none_left (a ++ b ++ p ++ q ++ r) t before)))) in (
        leb-false 6 (length c.loops) (found_none (nat_le 6 (length c.loops)) (TooDeep name.token) found),
        none_right (a ++ b ++ p ++ q ++ r ++ t) u none,
      )

  -- what the source's variable stands for
  variable_known : (d : ℕ) (bounds : Bounds) → d < 6 → AreBounds d bounds → Known arrays (suc d) (variable_of d bounds)
  variable_known d (Range lower upper) room h = omega arith
  variable_known d (Progression first upper step) room h =
      over_termwise ◌+ℤ◌ refl 6 (suc d) first.coefs (multiple_form step d).coefs
      (over_deeper 6 d (suc d) first.coefs (omega arith) h.first_is.over)
      (over_multiple 6 (suc d) d step (omega arith))

  inside_context : (c : Context) (name : List ℕ) (l : ℕ) (bounds : Bounds) → IsContext c → length c.loops < 6
      → AreBounds (length c.loops) bounds → IsContext (inside_loop c name l bounds)
  inside_context c name l bounds context room h =
      let d : ℕ = length c.loops in
      let deeper : suc d ≡ length (c.loops ++ l ∷ []) = omega (arith, length_push c.loops l) in
      record {
        room = omega (arith, deeper);
        scope = subst (λ e. KnownScope arrays e (inside_loop c name l bounds).scope) deeper
            (with_name_known arrays (suc d) c.scope name (variable_of d bounds)
            (known_deeper arrays d c.scope context.scope) (variable_known d bounds room h));
        rows = subst (λ e. Each (IsRow e) (c.rows ++ loop_rows d bounds)) deeper
            (each_append (IsRow (suc d)) c.rows (loop_rows d bounds)
            (each_then (IsRow d) (IsRow (suc d)) c.rows (λ f. row_deeper d (suc d) f (omega arith)) context.rows)
            (loop_rows_are d room bounds h));
      }

  loop_stands : (c : Context) (l s : ℕ) (bounds : Bounds) (header : List BindError) (inside : Made) (name : List ℕ)
      → length c.loops < 6
      → AreBounds (length c.loops) bounds
      → GivesParts (inside_loop c name l bounds) (l + 1) s inside
      → GivesParts c l s (loop_made (length c.loops) l bounds header inside)
  loop_stands c l s bounds header inside name room h j =
      let d : ℕ = length c.loops in
      let deeper : suc d ≡ length (c.loops ++ l ∷ []) = omega (arith, length_push c.loops l) in
      let low : List Form = map (form_over d) (lower_of bounds) in
      let high : List Form = map (form_over d) (upper_of bounds) in
      let step : ℤ = step_of bounds in
      let inner : length (c.loops ++ l ∷ []) ≡ d + 1 = omega (arith, deeper) in
      record {
        numbered = numbered_loop low high step inside.nodes l inside.next_loop j.numbered;
        placed = λ outer shown. loop_places low high step inside.nodes l c.loops outer
            ∙ j.placed (outer ++ shown_rows d bounds)
            (subst (λ e. Shows e (outer ++ shown_rows d bounds) (c.rows ++ loop_rows d bounds)) deeper
            (shows_append (suc d) outer (shown_rows d bounds) c.rows (loop_rows d bounds)
            (shows_deeper d (suc d) outer c.rows (omega arith) shown) (shows_loop d bounds room h)));
        fit = loop_fits low high step inside.nodes l d room
            (omega (arith, length-map (lower_of bounds) (form_over d), has_lower d bounds h))
            (omega (arith, length-map (upper_of bounds) (form_over d), has_upper d bounds h))
            (all_fit d (lower_of bounds) (omega arith) (lower_rows d bounds h))
            (all_fit d (upper_of bounds) (omega arith) (upper_rows d bounds h))
            (steps_fit d bounds h) (subst (λ e. IsTrue (all_forms_fit inside.nodes e)) inner j.fit);
        few = j.few;
        assigns = j.assigns;
      }

  well_for : (name : Name) (first : Operand) (second : Name) (inclusive : Bool) (bound : Operand) (third : Name)
      (step : Step) (body : Meaning)
      → Well body → Well (part_step (For name first second inclusive bound third step body))
  well_for name first second inclusive bound third step body h c l s context few none =
      let d : ℕ = length c.loops in
      let bounds : Bounds = loop_bounds c.scope first inclusive bound step in
      let header : List BindError = for_findings c name first second bound third step in
      let inner : Context = inside_loop c name.text l bounds in
      let inside : Made = body inner (l + 1) s in
      let read : Made = loop_body body c name.text bounds l s in
      let head = for_room c name first second bound third step (none_left header read.findings none) in
      let are : AreBounds d bounds = bounds_are arrays d c.scope context.scope first inclusive bound step head.1 in
      let is_read : read ≡ inside = ap (λ b. cond {A = Made} b inside (nothing (l + 1))) (lt-ltb d 6 head.0) in
      let h' : GivesParts inner (l + 1) s inside =
      h inner (l + 1) s (inside_context c name.text l bounds context head.0 are) few
      (ap (λ m. m.findings) (sym is_read) ∙ none_right header read.findings none) in
      subst (λ m. GivesParts c l s (loop_made d l bounds header m)) (sym is_read)
      (loop_stands c l s bounds header inside name.text head.0 are h')

  -- what is written fits its array
  write_fits : (d : ℕ) (room : d ≤ 6) (scope : Scope) → KnownScope arrays d scope
      → (token : ℕ) (what : Option What) (subscripts : List Operand) → KnownIfAny arrays d what
      → access_findings token what (length subscripts) ≡ []
      → IsTrue (access_fits arrays d
      (record { array = array_number what; subscripts = subscripts_over d scope subscripts }))
  write_fits d room scope known token None subscripts h none = absurd (cc)
  write_fits d room scope known token (Some (Parameter v)) subscripts h none = absurd (cc)
  write_fits d room scope known token (Some (Loop v)) subscripts h none = absurd (cc)
  write_fits d room scope known token (Some (what.Progression f)) subscripts h none = absurd (cc)
  write_fits d room scope known token (Some (Array number extents)) subscripts h none =
      let count : length subscripts ≡ extents =
      eqb-true (length subscripts) extents (not_found (length subscripts == extents) (WrongCount token) none) in
      access_is arrays d number extents (subscripts_over d scope subscripts) h
      (subscripts_count arrays d room scope known subscripts ∙ count)
      (subscripts_fit arrays d room scope known subscripts)

  well_assign : (target : Name) (subscripts : List Operand) (value : Operand)
      → Well (assign_made target subscripts value)
  well_assign target subscripts value c l s context few none =
      let d : ℕ = length c.loops in
      let v : Valued = valued d c.scope value 0 in
      let what : Option What = value_named c.scope target.text in
      let a : List BindError = found_if (s + c.sinks == 64) (TooManyProcesses target.token) in
      let b : List BindError = found_if (nat_lt 32 (length c.rows)) (TooManyRows target.token) in
      let p : List BindError = access_findings target.token what (length subscripts) in
      let q : List BindError = findings_of Body c.scope subscripts in
      let none_abp : a ++ b ++ p ≡ [] = none_left (a ++ b ++ p) (q ++ v.findings) none in
      let none_ab : a ++ b ≡ [] = none_left (a ++ b) p none_abp in
      let room : s + c.sinks ≡ 64 → ⊥ =
      eqb-false (s + c.sinks) 64
      (found_none (s + c.sinks == 64) (TooManyProcesses target.token) (none_left a b none_ab)) in
      let rows_room : length c.rows ≤ 32 =
      ltb-false 32 (length c.rows)
      (found_none (nat_lt 32 (length c.rows)) (TooManyRows target.token) (none_right a b none_ab)) in
      let f : Fitting arrays d context.room c.scope context.scope 0 v =
      value_fits arrays d context.room c.scope context.scope value 0 (omega arith)
      (none_right q v.findings (none_right (a ++ b ++ p) (q ++ v.findings) none)) in
      let write_is =
      write_fits d context.room c.scope context.scope target.token what subscripts
      (value_known arrays d c.scope target.text context.scope) (none_right (a ++ b) p none_abp) in
      record {
        numbered = numbered_assign s l;
        placed =
            λ rows shown. assign_places s c.loops rows
            ∙ ap (λ fs. record { statement = s; loops = c.loops; rows = fs } ∷ []) (shown d (omega arith) context.room);
        fit = assign_fits s d;
        few = omega (arith, room);
        assigns = (
          record {
            role = refl;
            fits =
                both_true (both_true (both_true (both_true (both_true (both_true (both_true
                (le-leb d 6 context.room)
                (le-leb (length v.reads) 8 (omega (arith, f.few))))
                (le-leb (length (map (form_over d) c.rows)) 32
                (omega (arith, rows_room, length-map c.rows (form_over d)))))
                (all_fit d c.rows context.room context.rows))
                write_is)
                f.reads)
                (f.uses (length v.reads) (omega arith)))
                (not_from_false (uses_given v.expr) f.no_given);
          },
          tt,
        );
      }

  abbrev PartWell : Part → Type 0
  PartWell part = Well (part_made part)

  abbrev OtherWell : Other → Type 0
  OtherWell other = WellOtherwise (fold-Other Meaning Otherwise part_step other_step other)

  part_roll : (y : Part-F Part Other)
      → part_made (roll-Part y)
      ≡ part_step (map-Part Part Other Meaning Otherwise part_made
      (fold-Other Meaning Otherwise part_step other_step) y)
  unfolding part_made
  part_roll y = fold-roll-Part Meaning Otherwise part_step other_step y

  other_roll : (y : Other-F Part Other)
      → fold-Other Meaning Otherwise part_step other_step (roll-Other y)
      ≡ other_step
      (map-Other Part Other Meaning Otherwise part_made (fold-Other Meaning Otherwise part_step other_step) y)
  unfolding part_made
  other_roll y = fold-roll-Other Meaning Otherwise part_step other_step y

  abbrev WellPart : Type 0
  WellPart = (part : Part) × PartWell part

  abbrev WellOther : Type 0
  WellOther = (other : Other) × OtherWell other

  each_well : (parts : List WellPart) → Each Well (map part_made (map (λ e. e.0) parts))
  each_well [] = tt
  each_well (e ∷ parts) = (e.1, each_well parts)

  step_well : (y : Part-F WellPart WellOther)
      → Well (part_step
      (map-Part Part Other Meaning Otherwise part_made (fold-Other Meaning Otherwise part_step other_step)
      (map-Part WellPart WellOther Part Other (λ e. e.0) (λ e. e.0) y)))
  step_well (For name first second inclusive bound third step body) =
      well_for name first second inclusive bound third step (part_made body.0) body.1
  step_well (If cond body None) = well_if cond (part_made body.0) None body.1 tt
  step_well (If cond body (Some other)) =
      well_if cond (part_made body.0) (Some (fold-Other Meaning Otherwise part_step other_step other.0)) body.1 other.1
  step_well (Assign target subscripts value) = well_assign target subscripts value
  step_well (Block parts) = well_in_order _ (each_well parts)

  other_well : (y : Other-F WellPart WellOther)
      → WellOtherwise
      (other_step (map-Other Part Other Meaning Otherwise part_made
      (fold-Other Meaning Otherwise part_step other_step)
      (map-Other WellPart WellOther Part Other (λ e. e.0) (λ e. e.0) y)))
  other_well y = y.body.1

  pub part_well : (part : Part) → PartWell part
  part_well =
      ind-Part PartWell OtherWell
      (λ x y is. subst (λ z. PartWell (roll-Part z)) is
      (subst Well (sym (part_roll (map-Part WellPart WellOther Part Other (λ e. e.0) (λ e. e.0) y))) (step_well y)))
      (λ x y is. subst (λ z. OtherWell (roll-Other z)) is
      (subst WellOtherwise (sym (other_roll (map-Other WellPart WellOther Part Other (λ e. e.0) (λ e. e.0) y)))
      (other_well y)))

  parts_well : (parts : List Part) → Each Well (map part_made parts)
  parts_well [] = tt
  parts_well (part ∷ parts) = (part_well part, parts_well parts)

  pub all_well : (parts : List Part) → Well (parts_made parts)
  all_well parts = well_in_order (map part_made parts) (parts_well parts)
