-- Sources and sinks, and the loops round them.
--
-- A source or a sink stands inside one loop for each extent of its array. By induction on the extents these loops are
-- numbered one after another, the statement inside stands where it says, and all forms fit; the rows are the two of
-- each extent. The same induction along the declared arrays serves sources and sinks alike: it is given which arrays
-- pass, and what is made of one (`length_from`, `roles_from`, `placed_from`, `fits_from`). That extents are few and
-- limited is a premise, which declarations without a reason fulfil (`NestsArrays`).
use Rattle.std.proofs.Common.{◌≡◌, ◌<◌, ◌≤◌, ℕ, zero, suc, ◌+◌, ◌-◌, ℤ, pos, ◌-ℤ◌, List, [], ◌∷◌, ◌++◌, map, length}
use Rattle.std.proofs.Common.{take, replicate, Bool, true, false, cond, Some, None, refl, sym, ap, ◌∙◌, arith, subst}
use Rattle.std.proofs.Common.{append_assoc}
use Rattle.std.specs.Prelude.{IsTrue, ◌==◌, slice_get}
use Rattle.std.specs.List.{list_all, range_with_len, sum_by}
use Rattle.std.specs.Option.{option_map_or}
use Rattle.std.specs.Cmp.Derive.{both_true}
use Rattle.std.proofs.lemmas.Bool.{and_parts, le-leb, eq-eqb}
use Rattle.std.proofs.lemmas.List.{length-append, length-map, length-replicate, length_push, append-nil}
use Rattle.std.proofs.lemmas.List.FromFn.{length-map-range_with_len, length-range_with_len}
use Rattle.std.proofs.lemmas.List.Sums.{sum_by-cons}
use Rattle.affine_core.specs.declared.form.Form.{Form}
use Rattle.affine_core.specs.Affine.{variable_form}
use Rattle.affine_core.specs.Affine as affine
use Rattle.wrap_expr.specs.declared.expr.Expr as expr
use Rattle.wrap_expr.specs.Value.{uses_step}
use Rattle.sanlp.specs.declared.nest.ArrayDecl.{ArrayDecl}
use Rattle.sanlp.specs.declared.nest.Node as node
use Rattle.sanlp.specs.declared.nest.Role.{Role}
use Rattle.sanlp.specs.declared.nest.Role.TheVariants as role
use Rattle.sanlp.specs.declared.nest.Statement.{Statement}
use Rattle.sanlp.specs.Around.{loops_round}
use Rattle.sanlp.specs.Cells.{natural, is_input, is_output}
use Rattle.sanlp.specs.WellFormed.{is_moderate, form_fits, access_fits, statement_fits, in_role, own_cell, numbers_from}
use Rattle.sanlp.specs.WellFormed.{extents_where, input_extents, output_extents, all_forms_fit, all_places, said_from}
use Rattle.sanlp.specs.WellFormed.{array_loops, lower_row, upper_row}
use Rattle.sanlp.proofs.Each.{Each, each_append, each_then, range_with_len_below}
use Rattle.sanlp.proofs.Folds.{fold_read, fold_given}
use Rattle.loop_bind.specs.declared.affine.Affine.{Affine}
use Rattle.loop_bind.specs.declared.bounds.Bounds.{Bounds}
use Rattle.loop_bind.specs.declared.bounds.Bounds.TheVariants.{Range}
use Rattle.loop_bind.specs.Forms.{constant_form, form_over, is_limited_number}
use Rattle.loop_bind.specs.Rows.{loop_rows}
use Rattle.loop_bind.specs.Terminals.{extent_rows, source_statement, sink_statement, sources_from, sinks_from}
use Rattle.loop_bind.proofs.Moderate.{bound_last_number}
use Rattle.loop_class.proofs.NestsForms.{over_zeros}
use Rattle.loop_class.proofs.NestsSizes.{IsRow, AreBounds, lower_rows, upper_rows, row_deeper, loop_rows_are, all_fit}
use Rattle.loop_class.proofs.NestsBody.{Numbered, numbered_none, numbered_append, numbered_loop, numbered_assign}
use Rattle.loop_class.proofs.NestsBody.{loop_places, loop_fits, assign_places, assign_fits, placed_append, fit_append}
use Rattle.loop_class.proofs.NestsParts.{Shows, shows_append, shows_deeper, shows_loop}
use Rattle.loop_class.proofs.NestsValues.{all_append}
use Rattle.loop_class.proofs.NestsArrays.{FewExtents}

-- the bounds of the loop round an extent
abbrev pub lowest : List Affine
lowest = constant_form (pos 0) ∷ []

abbrev pub highest : ℤ → List Affine
highest e = constant_form (pos (natural e) -ℤ pos 1) ∷ []

abbrev pub round_bounds : ℤ → Bounds
round_bounds e = Range lowest (highest e)

round_bounds_are : (d : ℕ) (e : ℤ) → IsTrue (is_limited_number e) → AreBounds d (round_bounds e)
round_bounds_are d e h = record {
  lower_is = (record { over = over_zeros 6 d; constant = refl; coefs = refl }, tt);
  upper_is = (record { over = over_zeros 6 d; constant = bound_last_number e h; coefs = refl }, tt);
  some_lower = omega arith;
  some_upper = omega arith;
}

take_zeros : (room k : ℕ) → k ≤ room → take k (replicate room (pos 0)) ≡ replicate k (pos 0)
take_zeros room zero h = refl
take_zeros zero (suc k) h = absurd (omega arith)
take_zeros (suc room) (suc k) h = ap (λ l. pos 0 ∷ l) (take_zeros room k (omega arith))

-- the loop round an extent has these bounds
round_is : (id k : ℕ) (e : ℤ) (extents : List ℤ) (s : ℕ) → k ≤ 6
    → loops_round id k (e ∷ extents) s
    ≡ node.Loop id (map (form_over k) lowest) (map (form_over k) (highest e)) (pos 1)
    (loops_round (id + 1) (k + 1) extents s ∷ [])
round_is id k e extents s room =
    ap (λ zeros.
    node.Loop id (record { constant = pos 0; coefs = zeros } ∷ [])
    (record { constant = pos (natural e) -ℤ pos 1; coefs = zeros } ∷ []) (pos 1)
    (loops_round (id + 1) (k + 1) extents s ∷ []))
    (sym (take_zeros 6 k room))

round_numbered : (id k : ℕ) (extents : List ℤ) (s : ℕ)
    → Numbered id (id + length extents) (loops_round id k extents s ∷ [])
round_numbered id k [] s =
    let e : id ≡ id + 0 = omega arith in subst (λ n. Numbered id n (node.Assign s ∷ [])) e (numbered_assign s id)
round_numbered id k (e ∷ extents) s =
    let later : id + 1 + length extents ≡ id + suc (length extents) = omega arith in
    numbered_loop (affine.constant_form k (pos 0) ∷ []) (affine.constant_form k (pos (natural e) -ℤ pos 1) ∷ []) (pos 1)
    (loops_round (id + 1) (k + 1) extents s ∷ []) id (id + suc (length extents))
    (subst (λ n. Numbered (id + 1) n (loops_round (id + 1) (k + 1) extents s ∷ [])) later
    (round_numbered (id + 1) (k + 1) extents s))

-- where the statement inside stands
round_place : (id k n : ℕ) (extents : List ℤ) (s : ℕ) (loops : List ℕ) (forms : List Form) (rows : List Affine)
    → length loops ≡ k → k + length extents ≡ n → n ≤ 6
    → Each (λ e. IsTrue (is_limited_number e)) extents → Shows k forms rows
    → all_places (loops_round id k extents s ∷ []) loops forms
    ≡ record {
      statement = s;
      loops = loops ++ range_with_len id (length extents);
      rows =
          map (form_over n) (rows ++ extent_rows k extents);
    } ∷ []
round_place id k n [] s loops forms rows len all room limited shown =
    let same : n ≡ length loops = omega arith in
    assign_places s loops forms
    ∙ (let a : map (affine.widened_form (length loops)) forms
    ≡ map (form_over (length loops)) rows = shown (length loops) (omega arith) (omega arith) in
    λ i. record {
      statement = s;
      loops = sym (append-nil loops) i;
      rows =
          (a ∙ (λ j. map (form_over (sym same j)) (sym (append-nil rows) j))) i;
    } ∷ [])
round_place id k n (e ∷ extents) s loops forms rows len all room limited shown =
    let next : suc k ≡ k + 1 = omega arith in
    let low : List Form = map (form_over k) lowest in
    let high : List Form = map (form_over k) (highest e) in
    let added : List Form = map lower_row low ++ map upper_row high in
    let more : List Affine = loop_rows k (round_bounds e) in
    let inner : Shows (k + 1) (forms ++ added) (rows ++ more) =
    subst (λ d. Shows d (forms ++ added) (rows ++ more)) next
    (shows_append (suc k) forms added rows more (shows_deeper k (suc k) forms rows (omega arith) shown)
    (shows_loop k (round_bounds e) (omega arith) (round_bounds_are k e limited.0))) in
    ap (λ x. all_places (x ∷ []) loops forms) (round_is id k e extents s (omega arith))
    ∙ loop_places low high (pos 1) (loops_round (id + 1) (k + 1) extents s ∷ []) id loops forms
    ∙ round_place (id + 1) (k + 1) n extents s (loops ++ id ∷ []) (forms ++ added) (rows ++ more)
    (omega (arith, length_push loops id)) (omega arith) room limited.1 inner
    ∙ (λ i. record {
      statement = s;
      loops = append_assoc loops (id ∷ []) (range_with_len (id + 1) (length extents)) i;
      rows = map (form_over n) (append_assoc rows more (extent_rows (k + 1) extents) i);
    } ∷ [])

round_fits : (id k : ℕ) (extents : List ℤ) (s : ℕ) → k + length extents ≤ 6
    → Each (λ e. IsTrue (is_limited_number e)) extents → IsTrue (all_forms_fit (loops_round id k extents s ∷ []) k)
round_fits id k [] s room limited = assign_fits s k
round_fits id k (e ∷ extents) s room limited =
    subst (λ x. IsTrue (all_forms_fit (x ∷ []) k)) (sym (round_is id k e extents s (omega arith)))
    (loop_fits (map (form_over k) lowest) (map (form_over k) (highest e)) (pos 1)
    (loops_round (id + 1) (k + 1) extents s ∷ []) id k (omega arith) (omega arith) (omega arith)
    (all_fit k lowest (omega arith) (lower_rows k (round_bounds e) (round_bounds_are k e limited.0)))
    (all_fit k (highest e) (omega arith) (upper_rows k (round_bounds e) (round_bounds_are k e limited.0)))
    refl (round_fits (id + 1) (k + 1) extents s (omega arith) limited.1))

-- the rows of loops round extents
extent_rows_are : (k n : ℕ) (extents : List ℤ) → k + length extents ≤ n → n ≤ 6
    → Each (λ e. IsTrue (is_limited_number e)) extents → Each (IsRow n) (extent_rows k extents)
extent_rows_are k n [] le room limited = tt
extent_rows_are k n (e ∷ extents) le room limited =
    each_append (IsRow n) (loop_rows k (round_bounds e)) (extent_rows (k + 1) extents)
    (each_then (IsRow (suc k)) (IsRow n) (loop_rows k (round_bounds e)) (λ f. row_deeper (suc k) n f (omega arith))
    (loop_rows_are k (omega arith) (round_bounds e) (round_bounds_are k e limited.0)))
    (extent_rows_are (k + 1) n extents (omega arith) room limited.1)

extent_rows_count : (k : ℕ) (extents : List ℤ) → length (extent_rows k extents) ≡ length extents + length extents
extent_rows_count k [] = omega arith
extent_rows_count k (e ∷ extents) =
    omega (
      arith,
      length-append (loop_rows k (round_bounds e)) (extent_rows (k + 1) extents),
      extent_rows_count (k + 1) extents,
    )

-- the cell of the loop values
zeros_moderate : (n : ℕ) → IsTrue (list_all is_moderate (replicate n (pos 0)))
zeros_moderate zero = refl
zeros_moderate (suc n) = zeros_moderate n

variable_fits : (depth v : ℕ) → v < depth → IsTrue (form_fits depth (variable_form depth v))
variable_fits depth v h =
    let front : List ℤ = replicate v (pos 0) in
    let back : List ℤ = replicate (depth - (v + 1)) (pos 0) in
    both_true
    (both_true (eq-eqb (length (front ++ pos 1 ∷ back)) depth
    (length-append front (pos 1 ∷ back)
    ∙ omega (arith, length-replicate v (pos 0), length-replicate (depth - (v + 1)) (pos 0)))) refl)
    (all_append is_moderate front (pos 1 ∷ back) (zeros_moderate v) (zeros_moderate (depth - (v + 1))))

variables_fit : (depth : ℕ) (vs : List ℕ) → Each (λ v. v < depth) vs
    → IsTrue (list_all (form_fits depth) (map (variable_form depth) vs))
variables_fit depth [] h = refl
variables_fit depth (v ∷ vs) h = both_true (variable_fits depth v h.0) (variables_fit depth vs h.1)

own_cell_fits : (arrays : List ArrayDecl) (depth a : ℕ) (array : ArrayDecl) → slice_get arrays a ≡ Some array
    → length array.extents ≡ depth → IsTrue (access_fits arrays depth (own_cell depth a))
own_cell_fits arrays depth a array found count =
    let len : length (map (variable_form depth) (range_with_len 0 depth)) ≡ length array.extents =
    length-map-range_with_len (variable_form depth) 0 depth ∙ sym count in
    both_true
    (ap (λ o. option_map_or
    (λ x. length (map (variable_form depth) (range_with_len 0 depth)) == length x.extents) o false) found
    ∙ eq-eqb (length (map (variable_form depth) (range_with_len 0 depth))) (length array.extents) len)
    (variables_fit depth (range_with_len 0 depth) (range_with_len_below 0 depth depth (omega arith)))

-- a source and a sink inside these loops
abbrev source_at : ℕ → ℕ → List ℕ → List Form → Statement
source_at a n loops rows =
    record {
      role = role.Source a;
      loops = loops;
      rows = rows;
      write = Some (own_cell n a);
      reads = [];
      expr =
          expr.Given;
    }

abbrev sink_at : ℕ → ℕ → List ℕ → List Form → Statement
sink_at a n loops rows =
    record {
      role = role.Sink a;
      loops = loops;
      rows = rows;
      write = None;
      reads = own_cell n a ∷ [];
      expr =
          expr.Read 0;
    }

module _ (arrays : List ArrayDecl) (a : ℕ) (array : ArrayDecl) (found : slice_get arrays a ≡ Some array)
    (loops : List ℕ) (rows : List Form)
    (count : length array.extents ≡ length loops) (few : length loops ≤ 6) (few_rows : length rows ≤ 32)
    (fit : IsTrue (list_all (form_fits (length loops)) rows)) where
  source_at_fits : IsTrue (statement_fits arrays (source_at a (length loops) loops rows))
  source_at_fits =
      both_true (both_true (both_true (both_true (both_true (both_true (both_true
      (le-leb (length loops) 6 few) refl) (le-leb (length rows) 32 few_rows)) fit)
      (own_cell_fits arrays (length loops) a array found count)) refl)
      (fold_given Bool (uses_step (length loops) 0))) refl

  sink_at_fits : IsTrue (statement_fits arrays (sink_at a (length loops) loops rows))
  sink_at_fits =
      both_true (both_true (both_true (both_true (both_true (both_true (both_true
      (le-leb (length loops) 6 few) refl) (le-leb (length rows) 32 few_rows)) fit) refl)
      (both_true (own_cell_fits arrays (length loops) a array found count) refl))
      (fold_read Bool (uses_step (length loops) 1) 0)) refl

each_true : {X : Type 0} (p : X → Bool) (xs : List X) → IsTrue (list_all p xs) → Each (λ x. IsTrue (p x)) xs
each_true p [] h = tt
each_true p (x ∷ xs) h = let parts = and_parts (p x) (list_all p xs) h in (parts.0, each_true p xs parts.1)

module _ (arrays : List ArrayDecl) (a l : ℕ) (array : ArrayDecl) (found : slice_get arrays a ≡ Some array)
    (few : FewExtents array) where
  abbrev extents : List ℤ
  extents = array.extents

  abbrev n : ℕ
  n = length array.extents

  abbrev loops : List ℕ
  loops = range_with_len l n

  abbrev rows : List Form
  rows = map (form_over n) (extent_rows 0 extents)

  len : length loops ≡ n
  len = length-range_with_len l n

  few_rows : length rows ≤ 32
  few_rows = omega (arith, length-map (extent_rows 0 extents) (form_over n), extent_rows_count 0 extents, few.few)

  rows_fit : IsTrue (list_all (form_fits (length loops)) rows)
  rows_fit =
      subst (λ d. IsTrue (list_all (form_fits d) rows)) (sym len)
      (all_fit n (extent_rows 0 extents) few.few
      (extent_rows_are 0 n extents (omega arith) few.few (each_true is_limited_number extents few.limited)))

  source_fits : IsTrue (statement_fits arrays (source_statement a l extents))
  source_fits =
      subst (λ d. IsTrue (statement_fits arrays (source_at a d loops rows))) len
      (source_at_fits arrays a array found loops rows (sym len) (omega (arith, len, few.few)) few_rows rows_fit)

  sink_fits : IsTrue (statement_fits arrays (sink_statement a l extents))
  sink_fits =
      subst (λ d. IsTrue (statement_fits arrays (sink_at a d loops rows))) len
      (sink_at_fits arrays a array found loops rows (sym len) (omega (arith, len, few.few)) few_rows rows_fit)

abbrev pub InRole : Statement → Type 0
InRole s = in_role s.role s ≡ s

source_in_role : (a l : ℕ) (extents : List ℤ) → InRole (source_statement a l extents)
source_in_role a l extents =
    ap (λ d. source_at a d (range_with_len l (length extents))
    (map (form_over (length extents)) (extent_rows 0 extents))) (length-range_with_len l (length extents))

sink_in_role : (a l : ℕ) (extents : List ℤ) → InRole (sink_statement a l extents)
sink_in_role a l extents =
    ap (λ d. sink_at a d (range_with_len l (length extents)) (map (form_over (length extents)) (extent_rows 0 extents)))
    (length-range_with_len l (length extents))

-- extents that are few and limited
abbrev FewList : List ℤ → Type 0
FewList e = (length e ≤ 6) × IsTrue (list_all is_limited_number e)

pub few_where : (passes : ArrayDecl → Bool) (arrays : List ArrayDecl) → Each FewExtents arrays
    → Each FewList (extents_where passes arrays)
few_where passes [] h = tt
few_where passes (x ∷ arrays) h = by_test (passes x) (few_where passes arrays h.1) where
  by_test : (b : Bool) → Each FewList (extents_where passes arrays)
      → Each FewList (cond b (x.extents ∷ extents_where passes arrays) (extents_where passes arrays))
  by_test true rest = ((h.0.few, h.0.limited), rest)
  by_test false rest = rest

pub length_loops : (id s : ℕ) (extents : List (List ℤ)) → length (array_loops id s extents) ≡ length extents
length_loops id s [] = refl
length_loops id s (e ∷ extents) = ap suc (length_loops (id + length e) (s + 1) extents)

pub loops_numbered : (id s : ℕ) (extents : List (List ℤ))
    → Numbered id (id + sum_by length extents) (array_loops id s extents)
loops_numbered id s [] =
    let e : id ≡ id + sum_by {X = List ℤ} length [] = omega arith in subst (λ n. Numbered id n []) e (numbered_none id)
loops_numbered id s (e ∷ extents) =
    let all : id + length e + sum_by length extents ≡ id + sum_by length (e ∷ extents) =
    omega (arith, sum_by-cons (λ x. length x) e extents) in
    subst (λ n. Numbered id n (array_loops id s (e ∷ extents))) all
    (numbered_append id (id + length e) (id + length e + sum_by length extents) (loops_round id 0 e s ∷ [])
    (array_loops (id + length e) (s + 1) extents)
    (round_numbered id 0 e s) (loops_numbered (id + length e) (s + 1) extents))

pub loops_fit : (id s : ℕ) (extents : List (List ℤ)) → Each FewList extents
    → IsTrue (all_forms_fit (array_loops id s extents) 0)
loops_fit id s [] h = refl
loops_fit id s (e ∷ extents) h =
    fit_append 0 (loops_round id 0 e s ∷ []) (array_loops (id + length e) (s + 1) extents)
    (round_fits id 0 e s (omega (arith, h.0.0)) (each_true is_limited_number e h.0.1))
    (loops_fit (id + length e) (s + 1) extents h.1)

-- the arrays from one number on
abbrev pub From : List ArrayDecl → ℕ → List ArrayDecl → Type 0
From all a [] = Unit {0}
From all a (x ∷ arrays) = (slice_get all a ≡ Some x) × From all (a + 1) arrays

-- sources or sinks
module _ (passes : ArrayDecl → Bool) (make : ℕ → ℕ → List ℤ → Statement)
    (from : ℕ → ℕ → List ArrayDecl → List Statement) (role_of : ℕ → Role)
    (nil : (a l : ℕ) → from a l [] ≡ [])
    (cons : (a l : ℕ) (x : ArrayDecl) (xs : List ArrayDecl)
    → from a l (x ∷ xs)
    ≡ cond (passes x) (make a l x.extents ∷ from (a + 1) (l + length x.extents) xs) (from (a + 1) l xs)) where
  length_from : (a l : ℕ) (arrays : List ArrayDecl) → length (from a l arrays) ≡ length (extents_where passes arrays)
  length_from a l [] = ap length (nil a l)
  length_from a l (x ∷ xs) = ap length (cons a l x xs) ∙ by_test (passes x) (λ m. length_from (a + 1) m xs) where
    by_test : (b : Bool) → ((m : ℕ) → length (from (a + 1) m xs) ≡ length (extents_where passes xs))
        → length (cond b (make a l x.extents ∷ from (a + 1) (l + length x.extents) xs) (from (a + 1) l xs))
        ≡ length (cond b (x.extents ∷ extents_where passes xs) (extents_where passes xs))
    by_test true rest = ap suc (rest (l + length x.extents))
    by_test false rest = rest l

  roles_from : ((a l : ℕ) (e : List ℤ) → (make a l e).role ≡ role_of a) → (a l : ℕ) (arrays : List ArrayDecl)
      → map (λ s. s.role) (from a l arrays) ≡ map role_of (numbers_from passes a arrays)
  roles_from made a l [] = ap (map (λ s. s.role)) (nil a l)
  roles_from made a l (x ∷ xs) =
      ap (map (λ s. s.role)) (cons a l x xs) ∙ by_test (passes x) (λ m. roles_from made (a + 1) m xs) where
        by_test : (b : Bool)
            → ((m : ℕ) → map (λ s. s.role) (from (a + 1) m xs) ≡ map role_of (numbers_from passes (a + 1) xs))
            → map (λ s. s.role)
            (cond b (make a l x.extents ∷ from (a + 1) (l + length x.extents) xs) (from (a + 1) l xs))
            ≡ map role_of (cond b (a ∷ numbers_from passes (a + 1) xs) (numbers_from passes (a + 1) xs))
        by_test true rest = (λ i. made a l x.extents i ∷ rest (l + length x.extents) i)
        by_test false rest = rest l

  placed_from :
      ((a l : ℕ) (e : List ℤ) (s : ℕ) → FewList e
      → all_places (loops_round l 0 e s ∷ []) [] [] ≡ said_from s (make a l e ∷ []))
      → (a l s : ℕ) (arrays : List ArrayDecl) → Each FewExtents arrays
      → all_places (array_loops l s (extents_where passes arrays)) [] [] ≡ said_from s (from a l arrays)
  placed_from made a l s [] h = sym (ap (said_from s) (nil a l))
  placed_from made a l s (x ∷ xs) h =
      by_test (passes x) (λ m t. placed_from made (a + 1) m t xs h.1) ∙ sym (ap (said_from s) (cons a l x xs)) where
        by_test : (b : Bool)
            → ((m t : ℕ)
            → all_places (array_loops m t (extents_where passes xs)) [] [] ≡ said_from t (from (a + 1) m xs))
            → all_places
            (array_loops l s (cond b (x.extents ∷ extents_where passes xs) (extents_where passes xs))) [] []
            ≡ said_from s (cond b (make a l x.extents ∷ from (a + 1) (l + length x.extents) xs) (from (a + 1) l xs))
        by_test true rest =
            placed_append [] [] s (loops_round l 0 x.extents s ∷ [])
            (array_loops (l + length x.extents) (s + 1) (extents_where passes xs)) (make a l x.extents ∷ [])
            (from (a + 1) (l + length x.extents) xs)
            (made a l x.extents s (h.0.few, h.0.limited)) (rest (l + length x.extents) (s + 1))
        by_test false rest = rest l s

  each_from : (P : Statement → Type 0) → ((a l : ℕ) (e : List ℤ) → P (make a l e)) → (a l : ℕ) (arrays : List ArrayDecl)
      → Each P (from a l arrays)
  each_from P made a l [] = subst (Each P) (sym (nil a l)) tt
  each_from P made a l (x ∷ xs) =
      subst (Each P) (sym (cons a l x xs)) (by_test (passes x) (λ m. each_from P made (a + 1) m xs)) where
        by_test : (b : Bool) → ((m : ℕ) → Each P (from (a + 1) m xs))
            → Each P (cond b (make a l x.extents ∷ from (a + 1) (l + length x.extents) xs) (from (a + 1) l xs))
        by_test true rest = (made a l x.extents, rest (l + length x.extents))
        by_test false rest = rest l

  fits_from : (all : List ArrayDecl)
      → ((a l : ℕ) (x : ArrayDecl) → slice_get all a ≡ Some x → FewExtents x
      → IsTrue (statement_fits all (make a l x.extents)))
      → (a l : ℕ) (arrays : List ArrayDecl) → From all a arrays → Each FewExtents arrays
      → IsTrue (list_all (statement_fits all) (from a l arrays))
  fits_from all made a l [] t h = ap (list_all (statement_fits all)) (nil a l)
  fits_from all made a l (x ∷ xs) t h =
      ap (list_all (statement_fits all)) (cons a l x xs)
      ∙ by_test (passes x) (λ m. fits_from all made (a + 1) m xs t.1 h.1) where
        by_test : (b : Bool) → ((m : ℕ) → IsTrue (list_all (statement_fits all) (from (a + 1) m xs)))
            → IsTrue (list_all (statement_fits all)
            (cond b (make a l x.extents ∷ from (a + 1) (l + length x.extents) xs) (from (a + 1) l xs)))
        by_test true rest = both_true (made a l x t.0 h.0) (rest (l + length x.extents))
        by_test false rest = rest l

shows_none : Shows 0 [] []
shows_none e le room = refl

-- the loops round a source or a sink, and what it says of them
round_said : (l : ℕ) (e : List ℤ) (s : ℕ) → FewList e
    → all_places (loops_round l 0 e s ∷ []) [] []
    ≡ record { statement = s; loops = range_with_len l (length e); rows = map (form_over (length e)) (extent_rows 0 e) }
    ∷ []
round_said l e s few =
    round_place l 0 (length e) e s [] [] [] refl (omega arith) few.0 (each_true is_limited_number e few.1) shows_none

module _ (a l : ℕ) (arrays : List ArrayDecl) where
  pub sources_length : length (sources_from a l arrays) ≡ length (input_extents arrays)
  sources_length =
      length_from (λ x. is_input x.kind) source_statement sources_from role.Source (λ a l. refl)
      (λ a l x xs. refl) a l arrays

  pub sinks_length : length (sinks_from a l arrays) ≡ length (output_extents arrays)
  sinks_length =
      length_from (λ x. is_output x.kind) sink_statement sinks_from role.Sink (λ a l. refl)
      (λ a l x xs. refl) a l arrays

  pub sources_roles : map (λ s. s.role) (sources_from a l arrays)
      ≡ map role.Source (numbers_from (λ x. is_input x.kind) a arrays)
  sources_roles =
      roles_from (λ x. is_input x.kind) source_statement sources_from role.Source (λ a l. refl) (λ a l x xs. refl)
      (λ a l e. refl) a l arrays

  pub sinks_roles : map (λ s. s.role) (sinks_from a l arrays)
      ≡ map role.Sink (numbers_from (λ x. is_output x.kind) a arrays)
  sinks_roles =
      roles_from (λ x. is_output x.kind) sink_statement sinks_from role.Sink (λ a l. refl) (λ a l x xs. refl)
      (λ a l e. refl) a l arrays

  pub sources_in_role : Each InRole (sources_from a l arrays)
  sources_in_role =
      each_from (λ x. is_input x.kind) source_statement sources_from role.Source (λ a l. refl)
      (λ a l x xs. refl) InRole source_in_role a l arrays

  pub sinks_in_role : Each InRole (sinks_from a l arrays)
  sinks_in_role =
      each_from (λ x. is_output x.kind) sink_statement sinks_from role.Sink (λ a l. refl)
      (λ a l x xs. refl) InRole sink_in_role a l arrays

  pub sources_placed : (s : ℕ) → Each FewExtents arrays
      → all_places (array_loops l s (input_extents arrays)) [] [] ≡ said_from s (sources_from a l arrays)
  sources_placed s h =
      placed_from (λ x. is_input x.kind) source_statement sources_from role.Source (λ a l. refl) (λ a l x xs. refl)
      (λ a l e s few. round_said l e s few) a l s arrays h

  pub sinks_placed : (s : ℕ) → Each FewExtents arrays
      → all_places (array_loops l s (output_extents arrays)) [] [] ≡ said_from s (sinks_from a l arrays)
  sinks_placed s h =
      placed_from (λ x. is_output x.kind) sink_statement sinks_from role.Sink (λ a l. refl) (λ a l x xs. refl)
      (λ a l e s few. round_said l e s few) a l s arrays h

  pub sources_fit : (all : List ArrayDecl) → From all a arrays → Each FewExtents arrays
      → IsTrue (list_all (statement_fits all) (sources_from a l arrays))
  sources_fit all t h =
      fits_from (λ x. is_input x.kind) source_statement sources_from role.Source (λ a l. refl) (λ a l x xs. refl) all
      (source_fits all) a l arrays t h

  pub sinks_fit : (all : List ArrayDecl) → From all a arrays → Each FewExtents arrays
      → IsTrue (list_all (statement_fits all) (sinks_from a l arrays))
  sinks_fit all t h =
      fits_from (λ x. is_output x.kind) sink_statement sinks_from role.Sink (λ a l. refl) (λ a l x xs. refl) all
      (sink_fits all) a l arrays t h

-- all arrays stand from number 0 on
from_front : (front arrays : List ArrayDecl) → From (front ++ arrays) (length front) arrays
from_front front [] = tt
from_front front (x ∷ xs) =
    let e : length (front ++ x ∷ []) ≡ length front + 1 = length_push front x in (
      at_front front,
      subst (λ k. From (front ++ x ∷ xs) k xs) e
          (subst (λ all. From all (length (front ++ x ∷ [])) xs) (append_assoc front (x ∷ []) xs)
          (from_front (front ++ x ∷ []) xs)),
    ) where
      at_front : (front : List ArrayDecl) → slice_get (front ++ x ∷ xs) (length front) ≡ Some x
      at_front [] = refl
      at_front (y ∷ front) = at_front front

pub from_start : (arrays : List ArrayDecl) → From arrays 0 arrays
from_start arrays = from_front [] arrays
