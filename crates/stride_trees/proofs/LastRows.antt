-- Systems of a leaf with one row behind the context's, refuted in the statement's own terms.
--
-- That a place lies outside the domain, or writes another cell, is one row behind the rows of the context. The row over
-- quotients is that row itself, or what a Cut of it adds, for a subscript with the row of its test beside it. So a Sum
-- that refutes the context with the one refutes it with the other, as Cuts and a Sum.
use Rattle.std.proofs.Common.{◌≡◌, ◌==◌, ◌+◌, ◌^◌, ◌≤◌, ◌<◌, ◌||◌, ℕ, ℤ, pos, negsuc, ◌+ℤ◌, ◌*ℤ◌, ◌≤ℤ◌, List, []}
use Rattle.std.proofs.Common.{◌∷◌, ◌++◌, length, true, refl, sym, ap, ◌∙◌, subst, arith, length-append}
use Rattle.std.specs.Prelude.{Some, All, slice_get, unsigned_abs}
use Rattle.std.specs.Option.{option_and_then, option_map_or}
use Rattle.std.proofs.lemmas.Bool.{eq-eqb, and_from}
use Rattle.std.proofs.lemmas.Int.{ints}
use Rattle.std.proofs.lemmas.List.Elements.{All-nil, All-cons, All-append, All-weaker}
use Rattle.std.proofs.lemmas.Option.{same_Some, slice_get_within}
use Rattle.affine_core.specs.declared.form.Form.{Form}
use Rattle.int_polyhedra.specs.declared.system.Proof.TheVariants.{Sum}
use Rattle.int_polyhedra.specs.declared.system.Term.{Term}
use Rattle.int_polyhedra.specs.Rules.{Refutes}
use Rattle.int_polyhedra.specs.Steps.{floor, quotient_row}
use Rattle.tree_graphs.proofs.EdgeSums.{over_append}
use Rattle.tree_graphs.proofs.RowBounds.{forms_append}
use Rattle.plain_data.proofs.Lists.{slice_get-append_left, slice_get-append_right}
use Rattle.tree_sums.specs.Made.{parts_of}
use Rattle.tree_sums.specs.Parts.{Part, the_constant, the_coefficient, part_of, row_part, weight, weighted_sum, IsWithin}
use Rattle.tree_sums.specs.Shown.{RowParts}
use Rattle.tree_sums.proofs.RowParts.{made_has_parts}
use Rattle.tree_sums.proofs.Within.{IsWithin-weaker}
use Rattle.source_tree.specs.Checked.{IsRefuted}
use Rattle.source_tree.specs.Places.{at_place}
use Rattle.source_tree.specs.Rows.{RowExpr, below_zero, row_forms}
use Rattle.source_tree.specs.Systems.{Context, with_rows}
use Rattle.tree_cuts.specs.Class.{is_pair, is_single}
use Rattle.stride_trees.specs.Candidates.{IsCutSumOf}
use Rattle.tree_cuts.specs.Cuts.{added_of, converted_sum, cuts_of, AreSources, IsCutSum}
use Rattle.tree_cuts.specs.Sources.{cut_of, divided_form, own_sources, row_source}
use Rattle.stride_trees.specs.Strides.{IsSmallContext}
use Rattle.tree_cuts.specs.declared.cuts.Source.{Source}
use Rattle.tree_cuts.specs.declared.cuts.Source.TheVariants.{Own}
use Rattle.tree_cuts.proofs.Behind.{cuts_behind}
use Rattle.stride_trees.proofs.SourceCuts.{added_all, added_behind, before_both, before_own, cuts_few, TakeBefore}
use Rattle.tree_cuts.proofs.CutRows.{converted_is_cut_sum, converted_refutes, IsMultipleOf}
use Rattle.tree_cuts.proofs.WriterCuts.{outside_multiple}
use Rattle.tree_cuts.proofs.Floors.{floor_shifted}
use Rattle.stride_trees.proofs.MadeRows.{made_both, AreMadeBoth}
use Rattle.tree_cuts.proofs.Indivisible.{below_one, number_part, once_row}
use Rattle.stride_trees.proofs.Lists.{made_first, IsMadeFirst}
use Rattle.stride_trees.proofs.RowReach.{made_within, IsMadeWithin, IsReached}
use Rattle.tree_cuts.proofs.RowSources.{cut_told, multiple_as, row_told, same_row, sources_append, stride_divides}
use Rattle.tree_cuts.proofs.RowSources.{IsSmallSystem}
use Rattle.tree_cuts.proofs.QuotientRows.{own_told, stride_positive}

-- the sum of two rows: so many times a row, and a number that comes through the division
pub two_multiple : (rows : List Form) (d a b : ℕ) (z : RowParts) (less : ℤ) → 0 < d → floor less d ≡ less
    → a < length rows → b < length rows
    → ((part : Part) → row_part rows part a +ℤ row_part rows part b ≡ number_part less part +ℤ (z part *ℤ pos d))
    → IsMultipleOf rows d (once_row a ∷ once_row b ∷ []) (λ part. z part +ℤ number_part less part)
two_multiple rows d a b z less positive less_is a_in b_in sum = record {
  name_rows = All-cons (λ (t : Term). t.row < length rows) (once_row a) (once_row b ∷ []) a_in
      (All-cons (λ (t : Term). t.row < length rows) (once_row b) [] b_in (All-nil _));
  not_negative = All-cons (λ (t : Term). pos 0 ≤ℤ t.times) (once_row a) (once_row b ∷ []) (omega (arith, ints))
      (All-cons (λ (t : Term). pos 0 ≤ℤ t.times) (once_row b) [] (omega (arith, ints)) (All-nil _));
  constant = ap (λ z. floor z d) (two (row_part rows the_constant) a b ∙ sum the_constant)
      ∙ floor_shifted less (z the_constant) d positive ∙ ap (λ y. y +ℤ z the_constant) less_is
      ∙ turned less (z the_constant);
  coefs = λ i. two (row_part rows (the_coefficient i)) a b ∙ sum (the_coefficient i) ∙ none (z (the_coefficient i));
} where
  two : (number : ℕ → ℤ) (a b : ℕ) → weighted_sum number (once_row a ∷ once_row b ∷ []) ≡ number a +ℤ number b
  two number a b = omega (arith, ints)

  turned : (a b : ℤ) → a +ℤ b ≡ b +ℤ a
  turned a b = omega (arith, ints)

  none : (z : ℤ) → pos 0 +ℤ (z *ℤ pos d) ≡ (z +ℤ pos 0) *ℤ pos d
  none z = let e : z +ℤ pos 0 ≡ z = omega (arith, ints) in omega (arith, ints, ap (λ z. z *ℤ pos d) e)

-- where a row comes from, in each system that ends with the statement's row
abbrev pub ComesFrom : ℕ → List Form → ℕ → Source → RowExpr → RowExpr → Type 0
ComesFrom vars context here source own told =
    (row last : Form) → IsSmallSystem vars (context ++ last ∷ []) → length row.coefs ≡ vars
    → ((part : Part) → part_of part last ≡ parts_of own part) → ((part : Part) → part_of part row ≡ parts_of told part)
    → AreSources vars (context ++ last ∷ []) (source ∷ []) (row ∷ [])

-- a context with one row more that is told, as it is made
pub record AreToldLast (vars : ℕ) (whole front : List Form) (sources : List Source) (told : RowExpr) (rows : List Form)
    : Type 0 where
  pub row : Form
  pub is : rows ≡ front ++ row ∷ []
  pub made : row_forms vars (told ∷ []) ≡ Some (row ∷ [])
  pub told_by : AreSources vars whole sources (front ++ row ∷ [])

module _ (c : Context) (here : ℕ) (small : IsSmallContext c here) (own told : RowExpr) (source : Source)
    (own_made : IsMadeWithin c.vars (2 ^ 90) own) (from : ComesFrom c.vars small.rows here source own told) where
  abbrev whole : List Form
  whole = small.rows ++ own_made.row ∷ []

  whole_small : IsSmallSystem c.vars whole
  whole_small = record {
    over = over_append c.vars small.rows (own_made.row ∷ []) small.over
        (and_from (length own_made.row.coefs == c.vars) true (eq-eqb (length own_made.row.coefs) c.vars own_made.over) refl);
    within = All-append (IsWithin (2 ^ 90)) small.rows (own_made.row ∷ []) (wider small.rows small.within)
        (All-cons (IsWithin (2 ^ 90)) own_made.row [] own_made.within (All-nil _));
  } where
    wider : (rows : List Form) → All (IsWithin (2 ^ 50)) rows → All (IsWithin (2 ^ 90)) rows
    wider rows h = All-weaker (IsWithin (2 ^ 50)) (IsWithin (2 ^ 90))
        (λ f k. IsWithin-weaker (2 ^ 50) (2 ^ 90) f (omega arith) k) rows h

  own_parts : (part : Part) → part_of part own_made.row ≡ parts_of own part
  own_parts = (made_has_parts c.vars own own_made.row own_made.is).1

  whole_made : row_forms c.vars (c.rows ++ own ∷ []) ≡ Some whole
  whole_made = forms_append c.vars c.rows (own ∷ []) small.rows (own_made.row ∷ []) small.made
      (ap (option_and_then (λ row. Some (row ∷ []))) own_made.is)

  whole_count : length whole ≡ here + 1
  whole_count = omega (arith, length-append small.rows (own_made.row ∷ []), small.count)

  abbrev sources : List Source
  sources = own_sources 0 here ++ source ∷ []

  pub told_last : (rows : List Form) → row_forms c.vars (c.rows ++ told ∷ []) ≡ Some rows → AreToldLast c.vars whole small.rows sources told rows
  told_last rows h =
      let a : AreMadeBoth c.vars c.rows (told ∷ []) rows = made_both c.vars c.rows (told ∷ []) rows h in
      let b : IsMadeFirst c.vars told [] a.back = made_first c.vars told [] a.back a.back_made in
      let front : a.front ≡ small.rows = same_Some a.front small.rows (sym a.front_made ∙ small.made) in
      let end : a.back ≡ b.first ∷ [] =
      b.is ∙ ap (λ rest. b.first ∷ rest) (sym (same_Some [] b.rest b.made)) in
      record {
        row = b.first;
        is = a.is ∙ ap (λ x. x ++ a.back) front ∙ ap (λ x. small.rows ++ x) end;
        made = a.back_made ∙ ap Some end;
        told_by = sources_append c.vars whole (own_sources 0 here) (source ∷ []) small.rows (b.first ∷ [])
            (subst (λ n. AreSources c.vars whole (own_sources 0 n) small.rows) small.count
            (own_told c.vars whole 0 small.rows
            (λ k row is. (let e : 0 + k ≡ k = omega arith in ap (slice_get whole) e)
            ∙ slice_get-append_left small.rows (own_made.row ∷ []) k (slice_get_within small.rows k row is) ∙ is)))
            (from b.first own_made.row whole_small b.over own_parts b.parts);
      }

  pub converted_last : (ts : List Term) → IsRefuted (with_rows c (told ∷ [])) (Sum ts)
      → IsRefuted (with_rows c (own ∷ [])) (converted_sum sources (here + 1) ts)
  converted_last ts h =
      let t : AreToldLast c.vars whole small.rows sources told h.rows = told_last h.rows h.are_made in
      record {
        rows = whole;
        are_made = whole_made;
        refuted = subst (λ n. Refutes c.vars whole (converted_sum sources n ts)) whole_count
            (converted_refutes c.vars whole sources (small.rows ++ t.row ∷ []) ts t.told_by
            (subst (λ rows. Refutes c.vars rows (Sum ts)) t.is h.refuted));
      }

  -- the Cut takes no row behind, and what it adds is small
  pub last_cut_sum : (ts : List Term) → TakeBefore (here + 1) (source ∷ [])
      → IsReached c.vars (2 ^ 40) (2 ^ 48) told → IsRefuted (with_rows c (told ∷ [])) (Sum ts) → weight ts ≤ 2 ^ 48
      → IsCutSumOf (here + 1) (with_rows c (own ∷ [])) (converted_sum sources (here + 1) ts)
  last_cut_sum ts before reached h light =
      let t : AreToldLast c.vars whole small.rows sources told h.rows = told_last h.rows h.are_made in
      let within : All (IsWithin (2 ^ 48)) (t.row ∷ []) =
      made_within c.vars (2 ^ 40) (2 ^ 48) (told ∷ []) (t.row ∷ []) (omega arith) (reached, tt) t.made in
      let some : length (cuts_of (source ∷ [])) ≤ 1 = cuts_few (source ∷ []) in
      record {
        rows = whole;
        are_made = whole_made;
        is_cut_sum = subst (λ n. IsCutSum c.vars whole (here + 1) (converted_sum sources n ts)) whole_count
            (converted_is_cut_sum c.vars whole (here + 1) sources (small.rows ++ t.row ∷ []) ts t.told_by
            (omega (arith, some, ap length (cuts_behind 0 here (source ∷ []))))
            (before_both (here + 1) (own_sources 0 here) (source ∷ []) (before_own (here + 1) 0 here) before)
            (subst (λ n. All (IsWithin (2 ^ 48)) (added_of (own_sources 0 n ++ source ∷ []) (small.rows ++ t.row ∷ [])))
            small.count
            (added_behind (IsWithin (2 ^ 48)) 0 small.rows (source ∷ []) (t.row ∷ [])
            (added_all (IsWithin (2 ^ 48)) (source ∷ []) (t.row ∷ []) within))) light);
      }

-- the row of the statement stands last
last_here : (context : List Form) (last : Form) (here : ℕ) → length context ≡ here
    → slice_get (context ++ last ∷ []) here ≡ Some last
last_here context last here e =
    let k : here ≡ length context + 0 = omega (arith, e) in
    ap (slice_get (context ++ last ∷ [])) k ∙ slice_get-append_right context (last ∷ []) 0

-- outside the domain
pub outside_comes : (vars here : ℕ) (context : List Form) (form : Form) (place : List Form) → length context ≡ here
    → (is_single form || is_pair form) ≡ true
    → ComesFrom vars context here (row_source form here) (below_zero (at_place form place))
    (below_zero (at_place (divided_form form) place))
outside_comes vars here context form place count class row last small over last_parts row_parts =
    let rows : List Form = context ++ last ∷ [] in
    let is : slice_get rows here ≡ Some last = last_here context last here count in
    row_told vars rows here form last row (parts_of (below_zero (at_place (divided_form form) place))) small is over
    row_parts
    (λ none part. ap (λ o. parts_of (below_zero
    (at_place (option_map_or (λ c. quotient_row (unsigned_abs c) form) o form) place)) part) none ∙ sym (last_parts part))
    (λ c e.
    (let positive : 0 < unsigned_abs c = stride_positive form c e in
    let at : (part : Part) → row_part rows part here ≡ parts_of (below_zero (at_place form place)) part =
    λ part. ap (λ o. option_map_or (part_of part) o (pos 0)) is ∙ last_parts part in (
      positive,
      multiple_as rows (unsigned_abs c) (once_row here ∷ [])
          (parts_of (below_zero (at_place (quotient_row (unsigned_abs c) form) place)))
          (parts_of (below_zero (at_place (divided_form form) place)))
          (λ part. sym (ap (λ o. parts_of (below_zero
          (at_place (option_map_or (λ c. quotient_row (unsigned_abs c) form) o form) place)) part) e))
          (outside_multiple rows (unsigned_abs c) here form place positive (slice_get_within rows here last is)
          (stride_divides form c positive class e) at),
    )))

-- the statement's own row
pub same_comes : (vars here : ℕ) (context : List Form) (own told : RowExpr) → length context ≡ here
    → ((part : Part) → parts_of told part ≡ parts_of own part) → ComesFrom vars context here (Own here) own told
same_comes vars here context own told count same row last small over last_parts row_parts = (
  same_row vars (context ++ last ∷ []) here last row small (last_here context last here count) over
      (λ part. row_parts part ∙ same part ∙ sym (last_parts part)),
  tt,
)

-- a row less 1 and the row of a test beside it, which add up to so many times a row less 1
pub pair_comes : (vars here : ℕ) (context : List Form) (c : ℤ) (test : ℕ) (own told : RowExpr) (a b z : RowParts)
    → length context ≡ here → 0 < unsigned_abs c → test < length context
    → ((part : Part) → parts_of own part ≡ a part +ℤ number_part (negsuc 0) part)
    → ((part : Part) → row_part context part test ≡ b part)
    → ((part : Part) → a part +ℤ b part ≡ z part *ℤ pos (unsigned_abs c))
    → ((part : Part) → parts_of told part ≡ z part +ℤ number_part (negsuc 0) part)
    → ComesFrom vars context here (cut_of c (here ∷ test ∷ [])) own told
pair_comes vars here context c test own told a b z count positive inside own_is test_is sum told_is row last small over
    last_parts row_parts =
    let rows : List Form = context ++ last ∷ [] in
    let d : ℕ = unsigned_abs c in
    let is : slice_get rows here ≡ Some last = last_here context last here count in
    let at_here : (part : Part) → row_part rows part here ≡ a part +ℤ number_part (negsuc 0) part =
    λ part. ap (λ o. option_map_or (part_of part) o (pos 0)) is ∙ last_parts part ∙ own_is part in
    let at_test : (part : Part) → row_part rows part test ≡ b part =
    λ part. ap (λ o. option_map_or (part_of part) o (pos 0)) (slice_get-append_left context (last ∷ []) test inside) ∙ test_is part
    in
    cut_told vars rows c (here ∷ test ∷ []) (once_row here ∷ once_row test ∷ []) row refl positive small (omega arith) over
    (multiple_as rows d (once_row here ∷ once_row test ∷ []) (λ part. z part +ℤ number_part (negsuc 0) part)
    (λ part. part_of part row) (λ part. sym (row_parts part ∙ told_is part))
    (two_multiple rows d here test z (negsuc 0) positive (below_one d positive) (slice_get_within rows here last is)
    (omega (arith, inside, length-append context (last ∷ [])))
    (λ part. omega (arith, ints, at_here part, at_test part, sum part))))
