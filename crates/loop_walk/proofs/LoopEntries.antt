-- What a loop that fits and is within its limit says of its body, and its turns one by one.
use Rattle.std.proofs.Common.{◌<◌, ◌+◌, ℕ, ℤ, pos, ◌+ℤ◌, ◌≤ℤ◌, List, [], ◌∷◌, ◌++◌, length, arith, sym, ap, ◌∙◌}
use Rattle.std.specs.Prelude.{Bool, ◌||◌, ◌==◌, IsTrue, int_le, nat_lt}
use Rattle.std.specs.List.{list_all}
use Rattle.std.specs.Ordering.{int_eq}
use Rattle.std.proofs.lemmas.Bool.{and_parts, ltb-true}
use Rattle.std.proofs.lemmas.Bool.Decides.{nat_tests}
use Rattle.std.proofs.lemmas.Int.{ints}
use Rattle.affine_core.specs.declared.form.Form.{Form}
use Rattle.affine_core.proofs.Integers.{int_le-true}
use Rattle.sanlp.specs.declared.nest.Node.{Node}
use Rattle.sanlp.specs.declared.nest.Node.TheViews.{Loop}
use Rattle.sanlp.specs.Loops.{interval, loop_values}
use Rattle.sanlp.specs.Size.{is_loop_value, loop_within, node_within, within_step}
use Rattle.sanlp.specs.WellFormed.{all_forms_fit, forms_fit, forms_fit_step, form_fits, step_fits}
use Rattle.loop_walk.specs.EnteredLoops.{parts_within, turns_within}
use Rattle.sanlp.proofs.Folds.{fold_loop}
use Rattle.sanlp.proofs.Intervals.{interval_step}

module _ (id : ℕ) (lower upper : List Form) (step : ℤ) (body : List Node) where
  -- the bounds, the step and the body of a loop that fits
  pub loop_fits : (depth : ℕ) → IsTrue (forms_fit (Loop id lower upper step body) depth)
      → (depth < 6) × (pos 1 ≤ℤ step) × IsTrue (all_forms_fit body (depth + 1))
  loop_fits depth h =
      let all =
      and_parts _ (all_forms_fit body (depth + 1))
      (sym (ap (λ f. f depth) (fold_loop (ℕ → Bool) forms_fit_step id lower upper step body)) ∙ h) in
      let stepped = and_parts _ (step_fits lower step) all.0 in
      let ups = and_parts _ (list_all (form_fits depth) upper) stepped.0 in
      let lows = and_parts _ (list_all (form_fits depth) lower) ups.0 in
      let some_up = and_parts _ (nat_lt 0 (length upper)) lows.0 in
      let some_low = and_parts (nat_lt depth 6) (nat_lt 0 (length lower)) some_up.0 in
      let within = and_parts _ (int_eq step (pos 1) || (length lower == 1)) stepped.1 in
      let counts = and_parts (int_le (pos 1) step) (int_le step (pos 2147483647)) within.0 in
      (ltb-true depth 6 some_low.0, int_le-true (pos 1) step counts.0, all.1)

  pub loop_turns_within : (at : List ℤ) → IsTrue (node_within (Loop id lower upper step body) at)
      → IsTrue (turns_within body at (loop_values lower upper step at))
  loop_turns_within at h =
      (and_parts (loop_within lower upper at) (turns_within body at (loop_values lower upper step at))
      (sym (ap (λ f. f at) (fold_loop (List ℤ → Bool) within_step id lower upper step body)) ∙ h)).1

-- a value between two loop values
pub between_within : (first value last : ℤ) → IsTrue (is_loop_value first) → IsTrue (is_loop_value last)
    → first ≤ℤ value → value ≤ℤ last → IsTrue (is_loop_value value)
between_within first value last f l low high = grind (arith, ints, nat_tests)

module _ (parts : List Node) (at : List ℤ) (value last : ℤ) (le : value ≤ℤ last) where
  -- the first of the turns that are left, and the others
  pub turn_within : IsTrue (turns_within parts at (interval value last))
      → IsTrue (parts_within parts (at ++ value ∷ [])) × IsTrue (turns_within parts at (interval (value +ℤ pos 1) last))
  turn_within h =
      and_parts (parts_within parts (at ++ value ∷ [])) (turns_within parts at (interval (value +ℤ pos 1) last))
      (sym (ap (turns_within parts at) (interval_step value last le)) ∙ h)
