-- A candidate's proofs in a joined context.
--
-- Each row of the candidate's own context is shown in the joined one by the terms in its place, and each row behind it
-- by terms of the joined system: by itself, or by an order row and what the context shows. So the proof with these
-- terms in the places of its rows refutes the joined system, within 128 bits where the multipliers are small.
use Rattle.std.proofs.Common.{◌≡◌, ◌+◌, ◌-◌, ◌*◌, ◌^◌, ◌≤◌, ◌<◌, ℕ, zero, suc, pos, ◌⊎◌, inl, inr, List, [], ◌∷◌}
use Rattle.std.proofs.Common.{◌++◌, length, map, refl, sym, ap, ◌∙◌, subst, arith}
use Rattle.std.specs.Prelude.{Some, None, All, slice_get}
use Rattle.std.specs.Option.{option_map_or}
use Rattle.std.proofs.lemmas.Bool.{cases_order}
use Rattle.std.proofs.lemmas.Int.{ints}
use Rattle.std.proofs.lemmas.List.{length-append, length-map}
use Rattle.std.proofs.lemmas.List.Elements.{All-append}
use Rattle.std.proofs.lemmas.Option.{same_Some}
use Rattle.affine_core.specs.declared.form.Form.{Form}
use Rattle.affine_core.specs.Affine.{widened_form}
use Rattle.int_polyhedra.specs.declared.system.Proof.TheVariants.{Sum}
use Rattle.int_polyhedra.specs.declared.system.Term.{Term}
use Rattle.int_polyhedra.specs.Rules.{Refutes}
use Rattle.int_polyhedra.specs.Systems.{AreOver}
use Rattle.tree_graphs.specs.Facts.{form_parts}
use Rattle.tree_graphs.proofs.EdgeSums.{over_append, over_widened, within_widened}
use Rattle.tree_graphs.proofs.RowBounds.{forms_append}
use Rattle.plain_data.proofs.Lists.{slice_get-append_right}
use Rattle.tree_sums.specs.Carried.{carried_terms, sum_in_place}
use Rattle.tree_sums.specs.Parts.{Part, the_constant, the_coefficient, part_of, row_part, weight, IsWithin}
use Rattle.tree_sums.specs.Shown.{RowParts, Shows}
use Rattle.tree_sums.proofs.SumAlgebra.{combines}
use Rattle.tree_sums.proofs.SmallRows.{widened_part}
use Rattle.tree_sums.proofs.NegativeSums.{refutations_carry}
use Rattle.tree_sums.proofs.RowParts.{made_widens}
use Rattle.tree_sums.proofs.MoreVariables.{shown_widens}
use Rattle.source_tree.specs.Checked.{IsRefuted}
use Rattle.source_tree.specs.Rows.{RowExpr, row_forms}

-- a row that is there
record IsRowAt (rows : List Form) (k : ℕ) : Type 0 where
  pub row : Form
  pub is : slice_get rows k ≡ Some row

row_at_number : (rows : List Form) (k : ℕ) → k < length rows → IsRowAt rows k
row_at_number [] k lt = absurd (omega (arith, lt))
row_at_number (f ∷ rows) zero lt = record { row = f; is = refl }
row_at_number (f ∷ rows) (suc k) lt =
    let r : IsRowAt rows k = row_at_number rows k (omega (arith, lt)) in
    record { row = r.row; is = r.is }

-- a widened row has the parts of the row
wide_part : (more : ℕ) (rows back : List Form) (k : ℕ) (f : Form) (part : Part) → slice_get rows k ≡ Some f
    → row_part (map (widened_form more) rows ++ back) part k ≡ form_parts f part
wide_part more [] back k f part is = absurd (let e : None ≡ Some f = is in cc)
wide_part more (g ∷ rows) back zero f part is =
    let same : g ≡ f = same_Some g f is in
    widened_part more g part ∙ ap (part_of part) same
wide_part more (g ∷ rows) back (suc k) f part is = wide_part more rows back k f part is

-- a number below a sum
pub split_number : (k m n : ℕ) → k < m + n → (k < m) ⊎ ((j : ℕ) × (k ≡ m + j) × (j < n))
split_number k m n lt = elim (cases_order k m) [
  | inl same ↦ inr (0, omega (arith, same), omega (arith, lt, same))
  | inr other ↦ elim other [
    | inl below ↦ inl below
    | inr above ↦ inr (k - m, omega (arith, above), omega (arith, lt, above))
  ]
]

-- Two systems: a context's rows over some variables, and further rows over more.
pub record AreSystems (vars more : ℕ) (own joined extra further : List RowExpr)
    (made rows back behind : List Form) : Type 0 where
  pub wider : vars ≤ more
  pub own_made : row_forms vars own ≡ Some made
  pub joined_made : row_forms vars joined ≡ Some rows
  pub extra_made : row_forms more extra ≡ Some back
  pub further_made : row_forms more further ≡ Some behind
  pub made_over : AreOver vars made
  pub rows_over : AreOver vars rows
  pub back_over : AreOver more back
  pub behind_over : AreOver more behind
  pub rows_within : All (IsWithin (2 ^ 51)) rows
  pub behind_within : All (IsWithin (2 ^ 51)) behind

module _ (vars more : ℕ) (own joined extra further : List RowExpr) (made rows back behind : List Form)
    (s : AreSystems vars more own joined extra further made rows back behind) where
  abbrev whole : List Form
  whole = map (widened_form more) made ++ back

  abbrev other : List Form
  other = map (widened_form more) rows ++ behind

  -- what stands for the rows of the candidate's system
  pub record StandsIn (most : ℕ) (sums : List (List Term)) : Type 0 where
    pub of_context : (k : ℕ) (f : Form) → slice_get made k ≡ Some f
        → Shows vars rows (sum_in_place sums k) (form_parts f)
    pub narrow : (f : Form) (k i : ℕ) → slice_get made k ≡ Some f → vars ≤ i → form_parts f (the_coefficient i) ≡ pos 0
    pub of_others : (j : ℕ) → j < length back
        → Shows more other (sum_in_place sums (length made + j)) (λ part. row_part back part j)
    pub light : (k : ℕ) → weight (sum_in_place sums k) ≤ most

  whole_length : length whole ≡ length made + length back
  whole_length = length-append (map (widened_form more) made) back
      ∙ ap (λ n. n + length back) (length-map made (widened_form more))

  shown_again : (ts : List Term) (a b : RowParts) → ((part : Part) → a part ≡ b part) → Shows more other ts a
      → Shows more other ts b
  shown_again ts a b same h = record {
    name_rows = h.name_rows;
    not_negative = h.not_negative;
    at_most = omega (arith, ints, h.at_most, same the_constant);
    same = λ i l. h.same i l ∙ same (the_coefficient i);
  }

  each_row : (most : ℕ) (sums : List (List Term)) → StandsIn most sums → (k : ℕ) → k < length whole
      → Shows more other (sum_in_place sums k) (λ part. row_part whole part k)
  each_row most sums h k lt = elim (split_number k (length made) (length back) (omega (arith, lt, whole_length))) [
    | inl below ↦
        let r : IsRowAt made k = row_at_number made k below in
        let wide : Shows more (map (widened_form more) rows) (sum_in_place sums k) (form_parts r.row)
        = shown_widens vars more rows (sum_in_place sums k) (form_parts r.row) s.rows_over
        (λ i l. h.narrow r.row k i r.is l) (h.of_context k r.row r.is) in
        shown_again (sum_in_place sums k) (form_parts r.row) (λ part. row_part whole part k)
        (λ part. sym (wide_part more made back k r.row part r.is))
        ((combines more (map (widened_form more) rows)).behind behind (sum_in_place sums k) (form_parts r.row) wide)
    | inr rest ↦
        let j : ℕ = rest.0 in
        let here : k ≡ length made + j = rest.1 in
        let back_part : (part : Part) → row_part whole part k ≡ row_part back part j
        = λ part. ap (λ o. option_map_or (part_of part) o (pos 0))
        (ap (slice_get whole) (here ∙ ap (λ n. n + j) (sym (length-map made (widened_form more))))
        ∙ slice_get-append_right (map (widened_form more) made) back j) in
        shown_again (sum_in_place sums k) (λ part. row_part back part j) (λ part. row_part whole part k)
        (λ part. sym (back_part part))
        (subst (λ n. Shows more other (sum_in_place sums n) (λ part. row_part back part j)) (sym here)
        (h.of_others j rest.2))
  ]

  pub carried_refuted : (most : ℕ) (sums : List (List Term)) (ts : List Term) → StandsIn most sums
      → weight ts * most * 2 ^ 51 < 2 ^ 127
      → IsRefuted (record { vars = more; rows = own ++ extra }) (Sum ts)
      → IsRefuted (record { vars = more; rows = joined ++ further }) (Sum (carried_terms (sum_in_place sums) ts))
  carried_refuted most sums ts h small refuted =
      let own_rows : row_forms more (own ++ extra) ≡ Some whole = forms_append more own extra
      (map (widened_form more) made) back (made_widens vars more own made s.wider s.own_made) s.extra_made in
      let same : refuted.rows ≡ whole = same_Some refuted.rows whole (sym refuted.are_made ∙ own_rows) in
      record {
        rows = other;
        are_made = forms_append more joined further (map (widened_form more) rows) behind
            (made_widens vars more joined rows s.wider s.joined_made) s.further_made;
        refuted = refutations_carry more (2 ^ 51) most whole other (sum_in_place sums) ts
            (over_append more (map (widened_form more) made) back
            (over_widened vars more made s.wider s.made_over) s.back_over)
            (over_append more (map (widened_form more) rows) behind
            (over_widened vars more rows s.wider s.rows_over) s.behind_over)
            (All-append (IsWithin (2 ^ 51)) (map (widened_form more) rows) behind
            (within_widened more (2 ^ 51) (2 ^ 51) rows (omega arith) s.rows_within) s.behind_within)
            h.light small (each_row most sums h) (subst (λ rows. Refutes more rows (Sum ts)) same refuted.refuted);
      }
