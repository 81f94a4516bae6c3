-- More variables change nothing of what rows show.
--
-- A widened row has zeros behind its coefficients, so its parts are those that it had, and so are the weighted sums of
-- any terms. Of the new variables every row has the coefficient 0, and so has the sum; so what is shown must have it
-- there too, which is asked.
use Rattle.std.proofs.Common.{◌≡◌, ◌<◌, ◌≤◌, ℕ, ℤ, pos, ◌*ℤ◌, List, [], ◌∷◌, length, map, refl, sym, ap, ◌∙◌, inl, inr}
use Rattle.std.proofs.Common.{arith}
use Rattle.std.specs.Prelude.{Option, Some, None, slice_get}
use Rattle.std.specs.Option.{option_map, option_map_or}
use Rattle.std.proofs.lemmas.Int.{ints}
use Rattle.std.proofs.lemmas.Bool.{cases_lt}
use Rattle.std.proofs.lemmas.List.{length-map, get_or_past}
use Rattle.std.proofs.lemmas.List.Elements.{All-weaker}
use Rattle.std.proofs.lemmas.Option.{slice_get-map}
use Rattle.affine_core.specs.declared.form.Form.{Form}
use Rattle.affine_core.specs.Affine.{widened_form}
use Rattle.int_polyhedra.specs.declared.system.Term.{Term}
use Rattle.int_polyhedra.specs.Systems.{AreOver}
use Rattle.int_polyhedra.proofs.Variables.{over_at}
use Rattle.tree_sums.specs.Parts.{Part, the_constant, the_coefficient, part_of, row_part, weighted_sum}
use Rattle.tree_sums.proofs.MadeLaws.{Widens}
use Rattle.tree_sums.proofs.Within.{widened_part}

mapped_part : (more : ℕ) (part : Part) (row : Option Form) → option_map_or (part_of part)
    (option_map (widened_form more) row) (pos 0) ≡ option_map_or (part_of part) row (pos 0)
mapped_part more part None = refl
mapped_part more part (Some row) = widened_part more row part

pub row_part-widened : (more : ℕ) (rows : List Form) (part : Part) (k : ℕ)
    → row_part (map (widened_form more) rows) part k ≡ row_part rows part k
row_part-widened more rows part k =
    ap (λ o. option_map_or (part_of part) o (pos 0)) (slice_get-map (widened_form more) rows k)
    ∙ mapped_part more part (slice_get rows k)

weighted_same : (more : ℕ) (rows : List Form) (part : Part) (ts : List Term)
    → weighted_sum (row_part (map (widened_form more) rows) part) ts ≡ weighted_sum (row_part rows part) ts
weighted_same more rows part ts = λ i. weighted_sum (λ k. row_part-widened more rows part k i) ts

none_there : (vars : ℕ) (rows : List Form) (i k : ℕ) → AreOver vars rows → vars ≤ i
    → row_part rows (the_coefficient i) k ≡ pos 0
none_there vars rows i k over le = go (slice_get rows k) refl where
  go : (o : Option Form) → slice_get rows k ≡ o → option_map_or (part_of (the_coefficient i)) o (pos 0) ≡ pos 0
  go None e = refl
  go (Some row) e = get_or_past row.coefs i (pos 0) (omega (arith, le, over_at vars rows k row over e))

none_weighted : (number : ℕ → ℤ) (ts : List Term) → ((k : ℕ) → number k ≡ pos 0) → weighted_sum number ts ≡ pos 0
none_weighted number [] h = refl
none_weighted number (t ∷ ts) h =
    let here : number t.row *ℤ t.times ≡ pos 0 *ℤ t.times = ap (λ z. z *ℤ t.times) (h t.row) in
    omega (arith, ints, here, none_weighted number ts h)

pub shown_widens : Widens
shown_widens vars more rows ts a over zeros s = record {
  name_rows = All-weaker (λ (t : Term). t.row < length rows)
      (λ (t : Term). t.row < length (map (widened_form more) rows))
      (λ t h. omega (arith, h, length-map rows (widened_form more))) ts s.name_rows;
  not_negative = s.not_negative;
  at_most = omega (arith, ints, weighted_same more rows the_constant ts, s.at_most);
  same = λ i l. weighted_same more rows (the_coefficient i) ts ∙ elim (cases_lt i vars) [
    | inl inside ↦ s.same i inside
    | inr outside ↦ none_weighted (row_part rows (the_coefficient i)) ts (λ k. none_there vars rows i k over outside)
        ∙ sym (zeros i outside)
  ];
}
