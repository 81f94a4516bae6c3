-- The loop values of a nest's points are within the limit of loop values.
--
-- By induction over the nest. The bounds of a loop that is entered are within the limit. Its variable runs between them,
-- or, with a step above 1, from 0 to the quotient of their difference by the step, which is within the limit as well. A
-- guard adds no variable. So each turn adds a value within the limit to values within it. The size of the nest says that
-- each loop that is entered has such bounds; of loops that aren't entered nothing is said.
use Rattle.std.proofs.Common.{◌≡◌, ◌+◌, ◌≤◌, ℕ, ℤ, pos, negsuc, ◌-ℤ◌, ◌≤ℤ◌, List, [], ◌∷◌, ◌++◌, map, Bool, true, false, cond}
use Rattle.std.proofs.Common.{refl, sym, ap, ◌∙◌, subst, arith, lt-ltb}
use Rattle.std.specs.Prelude.{IsTrue, Some, slice_get, unsigned_abs}
use Rattle.std.specs.Int.{int_div_euclid}
use Rattle.std.proofs.lemmas.Bool.{and_parts, leb-true}
use Rattle.std.proofs.lemmas.Int.{by_lt_z, ints}
use Rattle.affine_core.specs.Within.{fits_64_bits}
use Rattle.affine_core.specs.declared.form.Form.{Form}
use Rattle.affine_core.specs.Affine.{form_at}
use Rattle.loop_walk.specs.EnteredLoops.{parts_within, turns_within}
use Rattle.loop_walk.proofs.LoopEntries.{between_within, loop_fits, loop_turns_within}
use Rattle.loop_walk.proofs.LoopRange.{greatest_within, least_within, quotient_within, range_of_turns}
use Rattle.sanlp.specs.declared.nest.Nest.{Nest}
use Rattle.sanlp.specs.declared.nest.Node.{Node}
use Rattle.sanlp.specs.declared.nest.Node.TheVariants.{Assign}
use Rattle.sanlp.specs.declared.nest.Node.TheViews.{Loop, Guard}
use Rattle.sanlp.specs.declared.nest.Point.{Point}
use Rattle.sanlp.specs.Loops.{all_hold, greatest, interval, least, loop_values}
use Rattle.sanlp.specs.Size.{SizeIsOk, all_within, is_loop_value, loop_within, node_within, within_step}
use Rattle.sanlp.specs.Trace.{all_points, trace, trace_node, trace_step, turn_points}
use Rattle.sanlp.specs.WellFormed.{all_forms_fit, forms_fit, forms_fit_step}
use Rattle.sanlp.proofs.Each.{Each, each_append, each_of}
use Rattle.sanlp.proofs.Folds.{by_parts, fold_assign_at, fold_guard, fold_guard_at, fold_loop, fold_loop_at}
use Rattle.sanlp.proofs.Intervals.{in_interval}
use Rattle.sanlp.proofs.Members.{at_in, each_from_in, each_in}

abbrev pub AreLoopValues : List ℤ → Type 0
AreLoopValues at = Each (λ v. IsTrue (is_loop_value v)) at

abbrev HasLoopValues : Point → Type 0
HasLoopValues point = AreLoopValues point.at

abbrev AreKept : Node → Type 0
AreKept node = (at : List ℤ) (depth : ℕ) → IsTrue (forms_fit node depth) → IsTrue (node_within node at)
    → AreLoopValues at → Each HasLoopValues (trace_node node at)

-- Bodies

parts_kept : (parts : List Node) → Each AreKept parts → (at : List ℤ) (depth : ℕ) → IsTrue (all_forms_fit parts depth)
    → IsTrue (parts_within parts at) → AreLoopValues at → Each HasLoopValues (all_points (map trace_node parts) at)
parts_kept [] each at depth fit within values = tt
parts_kept (node ∷ parts) each at depth fit within values =
    let fits = and_parts (forms_fit node depth) (all_forms_fit parts depth) fit in
    let both = and_parts (node_within node at) (parts_within parts at) within in
    each_append HasLoopValues (trace_node node at) (all_points (map trace_node parts) at)
    (each.0 at depth fits.0 both.0 values) (parts_kept parts each.1 at depth fits.1 both.1 values)

turns_kept : (body : List Node) → Each AreKept body → (at : List ℤ) (depth : ℕ) (values : List ℤ)
    → IsTrue (all_forms_fit body (depth + 1)) → IsTrue (turns_within body at values) → AreLoopValues at
    → AreLoopValues values → Each HasLoopValues (turn_points (all_points (map trace_node body)) values at)
turns_kept body each at depth [] fit within outer inner = tt
turns_kept body each at depth (v ∷ values) fit within outer inner =
    let both = and_parts (parts_within body (at ++ v ∷ [])) (turns_within body at values) within in
    each_append HasLoopValues (all_points (map trace_node body) (at ++ v ∷ []))
    (turn_points (all_points (map trace_node body)) values at)
    (parts_kept body each (at ++ v ∷ []) (depth + 1) fit both.0
    (each_append (λ v. IsTrue (is_loop_value v)) at (v ∷ []) outer (inner.0, tt)))
    (turns_kept body each at depth values fit both.1 outer inner.1)

-- The values of a loop

interval_kept : (first last : ℤ) → IsTrue (is_loop_value first) → IsTrue (is_loop_value last)
    → AreLoopValues (interval first last)
interval_kept first last f l =
    each_from_in (λ v. IsTrue (is_loop_value v)) (interval first last)
    (λ v h. let between = in_interval first last v h in between_within first v last f l between.0 between.1)

values_kept : (lower upper : List Form) (step : ℤ) (at : List ℤ) → pos 1 ≤ℤ step → IsTrue (loop_within lower upper at)
    → AreLoopValues (loop_values lower upper step at)
values_kept lower upper step at counts within =
    let both = and_parts (all_within lower at) (all_within upper at) within in
    let first = greatest (map (λ form. form_at form at) lower) in
    let last = least (map (λ form. form_at form at) upper) in
    let f = greatest_within lower at (all_within lower at) first refl both.0 refl in
    let l = least_within upper at (all_within upper at) last refl both.1 refl in
    by_lt_z (pos 1) step
    (λ lt.
    let two : pos 2 ≤ℤ step = omega (arith, ints) in
    subst AreLoopValues (sym (range_of_turns first last step (int_div_euclid (last -ℤ first) step) two refl))
    (interval_kept (pos 0) (int_div_euclid (last -ℤ first) step) refl (quotient_within first last step f l two)))
    (λ le.
    let one : pos 1 ≡ step = omega (arith, ints) in
    subst (λ s. AreLoopValues (loop_values lower upper s at)) one (interval_kept first last f l))

-- Nodes

loop_kept : (id : ℕ) (lower upper : List Form) (step : ℤ) (body : List Node) → Each AreKept body
    → AreKept (Loop id lower upper step body)
loop_kept id lower upper step body each at depth fits within outer =
    let fit = loop_fits id lower upper step body depth fits in
    let turns = loop_turns_within id lower upper step body at within in
    let bounds = and_parts (loop_within lower upper at) (turns_within body at (loop_values lower upper step at))
    (sym (ap (λ f. f at) (fold_loop (List ℤ → Bool) within_step id lower upper step body)) ∙ within) in
    subst (Each HasLoopValues) (sym (fold_loop_at (List ℤ) (List Point) trace_step id lower upper step body at))
    (turns_kept body each at depth (loop_values lower upper step at) fit.2 turns outer
    (values_kept lower upper step at fit.1 bounds.0))

guard_kept : (rows : List Form) (body : List Node) → Each AreKept body → AreKept (Guard rows body)
guard_kept rows body each at depth fits within outer =
    let fit = and_parts _ (all_forms_fit body depth)
    (sym (ap (λ f. f depth) (fold_guard (ℕ → Bool) forms_fit_step rows body)) ∙ fits) in
    subst (Each HasLoopValues) (sym (fold_guard_at (List ℤ) (List Point) trace_step rows body at))
    (go (all_hold rows at)
    (sym (ap (λ f. f at) (fold_guard (List ℤ → Bool) within_step rows body)) ∙ within) fit.1) where
      go : (holds : Bool) → IsTrue (cond holds (parts_within body at) true) → IsTrue (all_forms_fit body depth)
          → Each HasLoopValues (cond holds (all_points (map trace_node body) at) [])
      go true within fit = parts_kept body each at depth fit within outer
      go false within fit = tt

assign_kept : (s : ℕ) → AreKept (Assign s)
assign_kept s at depth fits within outer =
    subst (Each HasLoopValues) (sym (fold_assign_at (List ℤ) (List Point) trace_step s at)) (outer, tt)

all_kept : (node : Node) → AreKept node
all_kept = by_parts AreKept loop_kept guard_kept assign_kept

trace_kept : (n : Nest) → SizeIsOk n → Each HasLoopValues (trace n)
unfolding trace
trace_kept n ok =
    parts_kept n.body (each_of AreKept n.body all_kept) [] 0 n.well_formed.forms_fit ok.loops_within tt

-- the loop values of an entry of the trace
pub entry_values : (n : Nest) → SizeIsOk n → (t : ℕ) (point : Point) → slice_get (trace n) t ≡ Some point
    → AreLoopValues point.at
entry_values n ok t point is = each_in HasLoopValues point (trace n) (trace_kept n ok) (at_in point (trace n) t is)

pub value_size : (v : ℤ) → IsTrue (is_loop_value v) → unsigned_abs v ≤ 4611686018427387904
value_size v small = leb-true (unsigned_abs v) 4611686018427387904 small

pub value_fits : (v : ℤ) → unsigned_abs v ≤ 4611686018427387904 → IsTrue (fits_64_bits v)
value_fits (pos n) le = lt-ltb n 9223372036854775808 (omega (arith, le))
value_fits (negsuc n) le = lt-ltb n 9223372036854775808 (omega (arith, le))
