-- The rows that Cuts add, and proofs that are Cuts and then a Sum.
--
-- A Cut takes rows of the system alone, so it adds the same row behind other Cuts. Where the rows with what all Cuts
-- add are refuted, the Cuts one after the other and then that proof refute the system, by induction over the Cuts. A
-- row that is told is one of the system, or one that a Cut adds, and stands in its place behind the Cuts: so a Sum of
-- rows that are told becomes one of the system's rows and the Cuts' rows, with the same multipliers.
use Rattle.std.proofs.Common.{◌≡◌, ◌+◌, ◌*◌, ◌^◌, ◌%◌, ◌≤◌, ◌<◌, ℕ, zero, suc, ℤ, pos, ◌*ℤ◌, ◌≤ℤ◌, List, [], ◌∷◌, ◌++◌}
use Rattle.std.proofs.Common.{length, map, refl, sym, ap, ◌∙◌, subst, arith, append_assoc, length-append}
use Rattle.std.specs.Prelude.{Some, All, slice_get, slice_index_or, unsigned_abs}
use Rattle.std.proofs.lemmas.Int.{ints}
use Rattle.std.proofs.lemmas.List.{append-nil, length-map}
use Rattle.std.proofs.lemmas.Option.{slice_get_within}
use Rattle.std.proofs.lemmas.List.Elements.{All-from_get_or, All-head, All-replicate, All-tail}
use Rattle.affine_core.specs.declared.form.Form.{Form}
use Rattle.int_polyhedra.specs.declared.system.Proof.{Proof}
use Rattle.int_polyhedra.specs.declared.system.Proof.TheVariants.{Sum}
use Rattle.int_polyhedra.specs.declared.system.Term.{Term}
use Rattle.int_polyhedra.specs.Rules.{by_cut, Refutes}
use Rattle.int_polyhedra.specs.Steps.{floor, quotient_row, sum_onto}
use Rattle.int_polyhedra.specs.Systems.{AreOver}
use Rattle.int_polyhedra.proofs.Variables.{length_zeros}
use Rattle.plain_data.proofs.Lists.{slice_get-append_left, slice_get-append_right}
use Rattle.tree_sums.specs.Parts.{Part, the_constant, the_coefficient, part_of, row_part, weight, weighted_sum, IsWithin}
use Rattle.tree_sums.specs.Shown.{RowParts}
use Rattle.tree_sums.proofs.Bound.{stays}
use Rattle.tree_sums.proofs.Ideal.{summed}
use Rattle.tree_sums.proofs.NegativeSums.{nothing, nothing_part}
use Rattle.tree_cuts.specs.Cuts.{added_of, after_cuts, converted_sum, cuts_of, numbers_from, renumbered, AddRows}
use Rattle.tree_cuts.specs.Cuts.{AddsRow, AreSources, IsCutSum}
use Rattle.tree_cuts.specs.declared.cuts.Cut.{Cut}
use Rattle.tree_cuts.specs.declared.cuts.Source.{Source}
use Rattle.tree_cuts.specs.declared.cuts.Source.TheVariants.{Own, Added}
use Rattle.tree_cuts.proofs.Floors.{divides_multiple, floor_multiple}
use Rattle.tree_cuts.proofs.Sums.{refuting, same_is_sum, same_refutes, AreSameTerms}

-- More rows behind

same_terms_behind : (rows more : List Form) (ts : List Term) → All (λ t. t.row < length rows) ts
    → AreSameTerms rows (rows ++ more) ts ts
same_terms_behind rows more [] h = tt
same_terms_behind rows more (t ∷ ts) h =
    let lt : t.row < length rows = All-head (λ (t : Term). t.row < length rows) t ts h in (
      record {
        inside = omega (arith, lt, length-append rows more);
        row = slice_get-append_left rows more t.row lt;
        times = refl;
      },
      same_terms_behind rows more ts (All-tail (λ (t : Term). t.row < length rows) t ts h),
    )

pub adds_behind : (vars : ℕ) (rows more : List Form) (cut : Cut) (row : Form) → AddsRow vars rows cut row
    → AddsRow vars (rows ++ more) cut row
adds_behind vars rows more cut row h = record {
  divisor = h.divisor;
  sum = h.sum;
  is_sum = same_is_sum vars rows (rows ++ more) cut.terms cut.terms h.sum
      (same_terms_behind rows more cut.terms h.is_sum.name_rows) h.is_sum;
  divisible = h.divisible;
  is = h.is;
}

pub add_behind : (vars : ℕ) (rows more : List Form) (cuts : List Cut) (added : List Form) → AddRows vars rows cuts added
    → AddRows vars (rows ++ more) cuts added
add_behind vars rows more [] [] h = tt
add_behind vars rows more [] (row ∷ added) h = absurd h
add_behind vars rows more (cut ∷ cuts) [] h = absurd h
add_behind vars rows more (cut ∷ cuts) (row ∷ added) h =
    (adds_behind vars rows more cut row h.0, add_behind vars rows more cuts added h.1)

pub cuts_refute : (vars : ℕ) (rows : List Form) (cuts : List Cut) (added : List Form) (rest : Proof)
    → AddRows vars rows cuts added → Refutes vars (rows ++ added) rest → Refutes vars rows (after_cuts cuts rest)
cuts_refute vars rows [] [] rest h r = subst (λ rows. Refutes vars rows rest) (append-nil rows) r
cuts_refute vars rows [] (row ∷ added) rest h r = absurd h
cuts_refute vars rows (cut ∷ cuts) [] rest h r = absurd h
cuts_refute vars rows (cut ∷ cuts) (row ∷ added) rest h r =
    let first : AddsRow vars rows cut row = h.0 in
    let later : Refutes vars (rows ++ row ∷ []) (after_cuts cuts rest)
    = cuts_refute vars (rows ++ row ∷ []) cuts added rest (add_behind vars rows (row ∷ []) cuts added h.1)
    (subst (λ rows. Refutes vars rows rest) (sym (append_assoc rows (row ∷ []) added)) r) in
    by_cut rows (after_cuts (cut ∷ cuts) rest) cut.divisor cut.terms (after_cuts cuts rest) first.sum refl first.divisor
    first.is_sum first.divisible
    (subst (λ row. Refutes vars (rows ++ row ∷ []) (after_cuts cuts rest)) first.is later)

-- The row that a Cut adds, part by part

-- the sum of terms whose coefficients are so many times those of a row, and its constant rounds down to that of the row
pub record IsMultipleOf (rows : List Form) (d : ℕ) (ts : List Term) (row : RowParts) : Type 0 where
  pub name_rows : All (λ t. t.row < length rows) ts
  pub not_negative : All (λ t. pos 0 ≤ℤ t.times) ts
  pub constant : floor (weighted_sum (row_part rows the_constant) ts) d ≡ row the_constant
  pub coefs : (i : ℕ) → weighted_sum (row_part rows (the_coefficient i)) ts ≡ row (the_coefficient i) *ℤ pos d

-- the row that the Cut adds, with its parts
pub record IsAdded (vars : ℕ) (rows : List Form) (cut : Cut) (parts : RowParts) : Type 0 where
  pub row : Form
  pub adds : AddsRow vars rows cut row
  pub over : length row.coefs ≡ vars
  pub are : (part : Part) → part_of part row ≡ parts part

pub get_or-map-floor : (d : ℕ) (cs : List ℤ) (i : ℕ) → 0 < d
    → slice_index_or (map (λ c. floor c d) cs) i (pos 0) ≡ floor (slice_index_or cs i (pos 0)) d
get_or-map-floor d [] i h =
    let none : floor (pos 0 *ℤ pos d) d ≡ pos 0 = floor_multiple (pos 0) d h in
    let zero_is : pos 0 *ℤ pos d ≡ pos 0 = omega (arith, ints) in
    sym none ∙ ap (λ z. floor z d) zero_is
get_or-map-floor d (c ∷ cs) zero h = refl
get_or-map-floor d (c ∷ cs) (suc i) h = get_or-map-floor d cs i h

pub cut_adds : (vars bound d : ℕ) (rows : List Form) (ts : List Term) (parts : RowParts) → 0 < d → AreOver vars rows
    → All (IsWithin bound) rows → weight ts * bound < 2 ^ 127 → IsMultipleOf rows d ts parts
    → IsAdded vars rows (record { divisor = pos d; terms = ts }) parts
cut_adds vars bound d rows ts parts positive over within small h =
    let sum = summed vars rows (nothing vars) ts over (length_zeros vars) h.name_rows in
    let total : Form = sum.0 in
    let kept : sum_onto rows (nothing vars) ts ≡ Some total =
    stays bound 0 rows (nothing vars) ts within nothing_small (omega (arith, small)) ∙ sum.1.is in
    let is : (part : Part) → part_of part total ≡ weighted_sum (row_part rows part) ts =
    λ part. omega (arith, ints, sum.1.parts part, nothing_part vars part) in
    let coef : (i : ℕ) → slice_index_or total.coefs i (pos 0) ≡ parts (the_coefficient i) *ℤ pos d =
    λ i. is (the_coefficient i) ∙ h.coefs i in
    record {
      row = quotient_row d total;
      adds = record {
        divisor = omega (arith, ints, positive);
        sum = total;
        is_sum = record { name_rows = h.name_rows; not_negative = h.not_negative; is_sum = kept };
        divisible = All-from_get_or (λ c. unsigned_abs c % d ≡ 0) total.coefs (pos 0)
            (λ i lt. ap (λ c. unsigned_abs c % d) (coef i) ∙ divides_multiple (parts (the_coefficient i)) d positive);
        is = refl;
      };
      over = length-map total.coefs (λ c. floor c d) ∙ sum.1.over;
      are = λ part. part_is total (is the_constant) coef part;
    } where
      nothing_small : IsWithin 0 (nothing vars)
      nothing_small =
          record { constant = omega arith; coefs = All-replicate (λ c. unsigned_abs c ≤ 0) vars (pos 0) (omega arith) }

      part_is : (total : Form) → total.constant ≡ weighted_sum (row_part rows the_constant) ts
          → ((i : ℕ) → slice_index_or total.coefs i (pos 0) ≡ parts (the_coefficient i) *ℤ pos d) → (part : Part)
          → part_of part (quotient_row d total) ≡ parts part
      part_is total constant coef the_constant = ap (λ z. floor z d) constant ∙ h.constant
      part_is total constant coef (the_coefficient i) =
          get_or-map-floor d total.coefs i positive ∙ ap (λ z. floor z d) (coef i)
          ∙ floor_multiple (parts (the_coefficient i)) d positive

-- Rows that are told

-- the rows that the Cuts among the sources add
pub added_are : (vars : ℕ) (rows : List Form) (sources : List Source) (told : List Form)
    → AreSources vars rows sources told → AddRows vars rows (cuts_of sources) (added_of sources told)
added_are vars rows [] [] h = tt
added_are vars rows [] (row ∷ told) h = absurd h
added_are vars rows (Own k ∷ sources) [] h = absurd h
added_are vars rows (Added cut ∷ sources) [] h = absurd h
added_are vars rows (Own k ∷ sources) (row ∷ told) h = added_are vars rows sources told h.1
added_are vars rows (Added cut ∷ sources) (row ∷ told) h = (h.0, added_are vars rows sources told h.1)

-- each row that is told stands at its number
abbrev AreAt : List Form → List ℕ → List Form → Type 0
AreAt whole [] [] = Unit {0}
AreAt whole [] (row ∷ told) = ⊥
AreAt whole (k ∷ numbers) [] = ⊥
AreAt whole (k ∷ numbers) (row ∷ told) = (slice_get whole k ≡ Some row) × AreAt whole numbers told

told_at : (vars : ℕ) (rows : List Form) (sources : List Source) (told front : List Form) (next : ℕ)
    → AreSources vars rows sources told → next ≡ length rows + length front
    → AreAt (rows ++ (front ++ added_of sources told)) (numbers_from next sources) told
told_at vars rows [] [] front next h e = tt
told_at vars rows [] (row ∷ told) front next h e = absurd h
told_at vars rows (Own k ∷ sources) [] front next h e = absurd h
told_at vars rows (Added cut ∷ sources) [] front next h e = absurd h
told_at vars rows (Own k ∷ sources) (row ∷ told) front next h e =
    let added : List Form = added_of sources told in
    let inside : k < length rows = slice_get_within rows k row h.0 in
    (slice_get-append_left rows (front ++ added) k inside ∙ h.0, told_at vars rows sources told front next h.1 e)
told_at vars rows (Added cut ∷ sources) (row ∷ told) front next h e =
    let added : List Form = added_of sources told in
    let here : slice_get (rows ++ (front ++ row ∷ added)) next ≡ Some row =
    ap (slice_get (rows ++ (front ++ row ∷ added))) e ∙ slice_get-append_right rows (front ++ row ∷ added) (length front)
    ∙ get_at front row added in
    let even : next + 1 ≡ length rows + length (front ++ row ∷ []) =
    omega (arith, e, length-append front (row ∷ [])) in
    let rest : AreAt (rows ++ ((front ++ row ∷ []) ++ added)) (numbers_from (next + 1) sources) told =
    told_at vars rows sources told (front ++ row ∷ []) (next + 1) h.1 even in (
      here,
      subst (λ more. AreAt (rows ++ more) (numbers_from (next + 1) sources) told)
          (append_assoc front (row ∷ []) added) rest,
    ) where
      get_at : (front : List Form) (row : Form) (more : List Form)
          → slice_get (front ++ row ∷ more) (length front) ≡ Some row
      get_at [] row more = refl
      get_at (f ∷ front) row more = get_at front row more

-- the row that is told with this number
pub record IsTold (whole : List Form) (numbers : List ℕ) (told : List Form) (k : ℕ) : Type 0 where
  pub row : Form
  pub is : slice_get told k ≡ Some row
  pub stands : slice_get whole (slice_index_or numbers k 0) ≡ Some row

told_here : (whole : List Form) (numbers : List ℕ) (told : List Form) (k : ℕ) → AreAt whole numbers told
    → k < length told → IsTold whole numbers told k
told_here whole [] [] k h lt = absurd (omega arith)
told_here whole [] (row ∷ told) k h lt = absurd h
told_here whole (n ∷ numbers) [] k h lt = absurd h
told_here whole (n ∷ numbers) (row ∷ told) zero h lt = record { row = row; is = refl; stands = h.0 }
told_here whole (n ∷ numbers) (row ∷ told) (suc k) h lt =
    let rest : IsTold whole numbers told k = told_here whole numbers told k h.1 (omega (arith, lt)) in
    record { row = rest.row; is = rest.is; stands = rest.stands }

same_renumbered : (whole : List Form) (numbers : List ℕ) (told : List Form) (ts : List Term) → AreAt whole numbers told
    → All (λ t. t.row < length told) ts → AreSameTerms told whole ts (renumbered numbers ts)
same_renumbered whole numbers told [] h inside = tt
same_renumbered whole numbers told (t ∷ ts) h inside =
    let own : IsTold whole numbers told t.row =
    told_here whole numbers told t.row h (All-head (λ (t : Term). t.row < length told) t ts inside) in (
      record {
        inside = slice_get_within whole (slice_index_or numbers t.row 0) own.row own.stands;
        row = own.stands ∙ sym own.is;
        times = refl;
      },
      same_renumbered whole numbers told ts h (All-tail (λ (t : Term). t.row < length told) t ts inside),
    )

pub converted_refutes : (vars : ℕ) (rows : List Form) (sources : List Source) (told : List Form) (ts : List Term)
    → AreSources vars rows sources told → Refutes vars told (Sum ts)
    → Refutes vars rows (converted_sum sources (length rows) ts)
converted_refutes vars rows sources told ts h r =
    let added : List Form = added_of sources told in
    let whole : List Form = rows ++ added in
    let numbers : List ℕ = numbers_from (length rows) sources in
    let at : AreAt whole numbers told = told_at vars rows sources told [] (length rows) h (omega arith) in
    let inside : All (λ t. t.row < length told) ts = (refuting vars told ts r).is_sum.name_rows in
    cuts_refute vars rows (cuts_of sources) added (Sum (renumbered numbers ts)) (added_are vars rows sources told h)
    (same_refutes vars told whole ts (renumbered numbers ts) (same_renumbered whole numbers told ts at inside) r)

pub renumbered_weight : (numbers : List ℕ) (ts : List Term) → weight (renumbered numbers ts) ≡ weight ts
renumbered_weight numbers [] = refl
renumbered_weight numbers (t ∷ ts) = ap (λ n. unsigned_abs t.times + n) (renumbered_weight numbers ts)

pub converted_is_cut_sum : (vars : ℕ) (rows : List Form) (order : ℕ) (sources : List Source) (told : List Form)
    (ts : List Term) → AreSources vars rows sources told → length (cuts_of sources) ≤ 65536
    → All (λ cut. All (λ t. t.row < order) cut.terms) (cuts_of sources) → All (IsWithin (2 ^ 48)) (added_of sources told)
    → weight ts ≤ 2 ^ 48 → IsCutSum vars rows order (converted_sum sources (length rows) ts)
converted_is_cut_sum vars rows order sources told ts h few below small light =
    let numbers : List ℕ = numbers_from (length rows) sources in
    record {
      cuts = cuts_of sources;
      added = added_of sources told;
      terms = renumbered numbers ts;
      is = refl;
      few = few;
      add = added_are vars rows sources told h;
      no_order = below;
      small = small;
      light = omega (arith, renumbered_weight numbers ts, light);
    }
