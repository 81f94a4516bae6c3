-- The rows of a write over quotients, as they are made, told by the statement's own rows.
--
-- Each row that was made has the parts of what it was made from. A domain row that is told has the parts of the divided
-- row at the same place. A subscript with a stride comes to its loop less the quotient, and its own rows to that many
-- times the loop less the form of its test; one with the coefficient -1 comes to the statement's own rows, exchanged.
use Rattle.std.proofs.Common.{◌≡◌, ◌+◌, ◌*◌, ◌<◌, ◌||◌, ℕ, suc, ℤ, pos, negsuc, ◌+ℤ◌, ◌-ℤ◌, ◌*ℤ◌, List, []}
use Rattle.std.proofs.Common.{◌∷◌, ◌++◌, length, Bool, true, false, cond, refl, sym, ap, ◌∙◌, subst, arith}
use Rattle.std.specs.Prelude.{Some, None, All, slice_get, unsigned_abs}
use Rattle.std.specs.List.{list_all}
use Rattle.std.specs.Option.{option_and_then}
use Rattle.std.specs.Int.RustNames.{int_lt}
use Rattle.std.proofs.lemmas.Int.{ints}
use Rattle.std.proofs.lemmas.List.Elements.{All-head, All-tail}
use Rattle.std.proofs.lemmas.Option.{same_Some, slice_get_within, option_and_then_some}
use Rattle.std.proofs.lemmas.Bool.{and_parts}
use Rattle.affine_core.specs.declared.form.Form.{Form}
use Rattle.affine_core.specs.Affine.{variable_form, widened_form}
use Rattle.int_polyhedra.specs.Steps.{floor}
use Rattle.tree_sums.specs.Made.{parts_of}
use Rattle.tree_sums.specs.Parts.{Part, part_of, row_part}
use Rattle.tree_sums.specs.Shown.{RowParts}
use Rattle.tree_sums.proofs.Within.{row_part-some}
use Rattle.source_tree.specs.Places.{at_place, cell_rows, domain_rows}
use Rattle.source_tree.specs.Rows.{RowExpr, Take, minus, row_form, row_forms}
use Rattle.tree_cuts.specs.Class.{is_pair, is_single, stride_of}
use Rattle.stride_trees.specs.Divisions.{division_of}
use Rattle.stride_trees.specs.Problem.{problem_read, problem_reads, problem_rows, problem_write, problem_writes}
use Rattle.tree_cuts.specs.Sources.{divided_form, falls, loop_of, next_place, places_behind}
use Rattle.tree_cuts.proofs.Floors.{floor_multiple}
use Rattle.tree_cuts.proofs.Indivisible.{number_part}
use Rattle.stride_trees.proofs.Lists.{made_first, IsMadeFirst}
use Rattle.stride_trees.proofs.NoSystems.{stride_rows, AreStrideRows}
use Rattle.stride_trees.proofs.Quotients.{told_less, told_same, told_stride, IsToldLess, IsToldSame, IsToldStride}
use Rattle.tree_cuts.proofs.Singles.{number_none}
use Rattle.tree_cuts.proofs.Subscripts.{AreStrideTold, IsSubscriptTold}
use Rattle.tree_cuts.proofs.QuotientRows.{stride_positive, AreCellsTold, AreRowsTold}

-- Rows as they are made

-- rows in two parts
pub record AreMadeBoth (vars : ℕ) (xs ys : List RowExpr) (forms : List Form) : Type 0 where
  pub front : List Form
  pub back : List Form
  pub is : forms ≡ front ++ back
  pub front_made : row_forms vars xs ≡ Some front
  pub back_made : row_forms vars ys ≡ Some back

pub made_both : (vars : ℕ) (xs ys : List RowExpr) (forms : List Form) → row_forms vars (xs ++ ys) ≡ Some forms
    → AreMadeBoth vars xs ys forms
made_both vars [] ys forms h = record { front = []; back = forms; is = refl; front_made = refl; back_made = h }
made_both vars (x ∷ xs) ys forms h =
    option_and_then_some (λ row. option_and_then (λ rest. Some (row ∷ rest)) (row_forms vars (xs ++ ys))) (row_form vars x)
    forms h
    (λ row is_row h'. option_and_then_some (λ rest. Some (row ∷ rest)) (row_forms vars (xs ++ ys)) forms h'
    (λ rest is_rest whole.
    (let b : AreMadeBoth vars xs ys rest = made_both vars xs ys rest is_rest in
    record {
      front = row ∷ b.front;
      back = b.back;
      is = sym (same_Some (row ∷ rest) forms whole) ∙ ap (λ rest. row ∷ rest) b.is;
      front_made = ap (option_and_then (λ row. option_and_then (λ rest. Some (row ∷ rest)) (row_forms vars xs))) is_row
          ∙ ap (option_and_then (λ rest. Some (row ∷ rest))) b.front_made;
      back_made = b.back_made;
    })))

-- Domain rows

-- these rows stand in a system from this number on
abbrev pub StandAt : List Form → ℕ → List Form → Type 0
StandAt rows k own = (i : ℕ) (row : Form) → slice_get own i ≡ Some row → slice_get rows (k + i) ≡ Some row

stand_first : (rows : List Form) (k : ℕ) (row : Form) (own : List Form) → StandAt rows k (row ∷ own)
    → slice_get rows k ≡ Some row
stand_first rows k row own h = (let e : k ≡ k + 0 = omega arith in ap (slice_get rows) e) ∙ h 0 row refl

stand_rest : (rows : List Form) (k : ℕ) (row : Form) (own : List Form) → StandAt rows k (row ∷ own)
    → StandAt rows (k + 1) own
stand_rest rows k row own h i other is =
    (let e : k + 1 + i ≡ k + suc i = omega arith in ap (slice_get rows) e) ∙ h (suc i) other is

pub rows_are_told : (vars : ℕ) (rows forms place : List Form) (k : ℕ) (own told : List Form)
    → row_forms vars (domain_rows forms place) ≡ Some own
    → row_forms vars (domain_rows (problem_rows forms) place) ≡ Some told → StandAt rows k own
    → list_all (λ row. is_single row || is_pair row) forms ≡ true → AreRowsTold vars rows place k forms told
rows_are_told vars rows [] place k own told h l stand class =
    subst (AreRowsTold vars rows place k []) (same_Some [] told l) tt
rows_are_told vars rows (form ∷ forms) place k own told h l stand class =
    let a : IsMadeFirst vars (at_place form place) (domain_rows forms place) own =
    made_first vars (at_place form place) (domain_rows forms place) own h in
    let b : IsMadeFirst vars (at_place (divided_form form) place) (domain_rows (problem_rows forms) place) told =
    made_first vars (at_place (divided_form form) place) (domain_rows (problem_rows forms) place) told l in
    let c = and_parts (is_single form || is_pair form) (list_all (λ row. is_single row || is_pair row) forms) class in
    let stand' : StandAt rows k (a.first ∷ a.rest) = subst (StandAt rows k) a.is stand in
    subst (AreRowsTold vars rows place k (form ∷ forms)) (sym b.is) (
      record {
        own = a.first;
        own_is = stand_first rows k a.first a.rest stand';
        of_class = c.0;
        own_parts = a.parts;
        over = b.over;
        parts = b.parts;
      },
      rows_are_told vars rows forms place (k + 1) a.rest b.rest a.made b.made
          (stand_rest rows k a.first a.rest stand') c.1,
    )

-- Subscripts

-- the rows `form - M q` and `M q - form` of a test
pub record IsTestRow (vars : ℕ) (rows : List Form) (test quotient : ℕ) (form : Form) (m : ℕ) : Type 0 where
  pub inside : test + 1 < length rows
  pub low : (part : Part) → row_part rows part test
      ≡ part_of part form +ℤ ((part_of part (variable_form vars quotient) *ℤ pos m) *ℤ negsuc 0)
  pub high : (part : Part) → row_part rows part (test + 1)
      ≡ (part_of part (variable_form vars quotient) *ℤ pos m) +ℤ (part_of part form *ℤ negsuc 0)

-- one for each subscript with a stride, at its place
abbrev pub AreTestRows : ℕ → List Form → ℕ → ℕ → List ℕ → List Form → List Form → Type 0
AreTestRows vars rows depth root places [] reads = Unit {0}
AreTestRows vars rows depth root places (write ∷ writes) [] = Unit {0}
AreTestRows vars rows depth root places (write ∷ writes) (read ∷ reads) =
    ((c : ℤ) → stride_of write ≡ Some c
    → IsTestRow vars rows (root + 2 * next_place places) (depth + next_place places)
    (widened_form vars (division_of 0 write read c).form) (unsigned_abs c))
    × AreTestRows vars rows depth root (places_behind write places) writes reads

-- what is known of a subscript, its own rows and those that are told
pub record IsMadeCell (vars context : ℕ) (rows : List Form) (write read : Form) (place : List Form) (k test quotient : ℕ)
    (one two high low : Form) : Type 0 where
  pub one_is : slice_get rows k ≡ Some one
  pub two_is : slice_get rows (k + 1) ≡ Some two
  pub even : length write.coefs ≡ length place
  pub single : is_single write ≡ true
  pub one_parts : (part : Part) → part_of part one ≡ parts_of (minus (at_place write place) (Take read)) part
  pub two_parts : (part : Part) → part_of part two ≡ parts_of (minus (Take read) (at_place write place)) part
  pub high_over : length high.coefs ≡ vars
  pub low_over : length low.coefs ≡ vars
  pub high_parts : (part : Part) → part_of part high
      ≡ parts_of (minus (at_place (problem_write write) place) (Take (problem_read context quotient write read))) part
  pub low_parts : (part : Part) → part_of part low
      ≡ parts_of (minus (Take (problem_read context quotient write read)) (at_place (problem_write write) place)) part

module _ (vars context : ℕ) (rows : List Form) (write read : Form) (place : List Form) (k test quotient : ℕ)
    (one two high low : Form)
    (h : IsMadeCell vars context rows write read place k test quotient one two high low) where
  abbrev v : RowParts
  v part = row_part place part (loop_of write.coefs)

  module _ (c : ℤ) (is : stride_of write ≡ Some c)
      (t : IsTestRow context rows test quotient (widened_form context (division_of 0 write read c).form)
      (unsigned_abs c)) where
    abbrev d : ℕ
    d = unsigned_abs c

    abbrev f : RowParts
    f part = part_of part (widened_form context (division_of 0 write read c).form)

    abbrev q : RowParts
    q part = part_of part (variable_form context quotient)

    told : IsToldStride context write read place quotient
    told = told_stride context write read place quotient h.even h.single c is

    high_is : (part : Part) → part_of part high ≡ (v part -ℤ q part) +ℤ number_part (pos 0) part
    high_is part = omega (arith, ints, h.high_parts part, told.write_at part, told.read_at part, number_none part)

    low_is : (part : Part) → part_of part low ≡ (q part -ℤ v part) +ℤ number_part (pos 0) part
    low_is part = omega (arith, ints, h.low_parts part, told.write_at part, told.read_at part, number_none part)

    positive : 0 < d
    positive = stride_positive write c is

    none : floor (pos 0) d ≡ pos 0
    none =
        let e : pos 0 *ℤ pos d ≡ pos 0 = omega (arith, ints) in
        ap (λ z. floor z d) (sym e) ∙ floor_multiple (pos 0) d positive

    one_at : (part : Part) → row_part rows part k ≡ parts_of (minus (at_place write place) (Take read)) part
    one_at part = row_part-some rows k one part h.one_is ∙ h.one_parts part

    two_at : (part : Part) → row_part rows part (k + 1) ≡ parts_of (minus (Take read) (at_place write place)) part
    two_at part = row_part-some rows (k + 1) two part h.two_is ∙ h.two_parts part

    one_in : k < length rows
    one_in = slice_get_within rows k one h.one_is

    two_in : k + 1 < length rows
    two_in = slice_get_within rows (k + 1) two h.two_is

    by_sign : (b : Bool) → AreStrideRows write read place d f v b
        → AreStrideTold vars rows c test (cond b k (k + 1)) (cond b (k + 1) k) f q v (pos 0) high low
    by_sign true own = record {
      divided = record {
        positive = positive;
        at_in = t.inside;
        up_in = one_in;
        down_in = two_in;
        low = t.low;
        high = t.high;
      };
      less_is = none;
      is_above = λ part. omega (arith, ints, one_at part, own.first part, number_none part);
      is_below = λ part. omega (arith, ints, two_at part, own.second part, number_none part);
      high_over = h.high_over;
      low_over = h.low_over;
      high_is = high_is;
      low_is = low_is;
    }
    by_sign false own = record {
      divided = record {
        positive = positive;
        at_in = t.inside;
        up_in = two_in;
        down_in = one_in;
        low = t.low;
        high = t.high;
      };
      less_is = none;
      is_above = λ part. omega (arith, ints, two_at part, own.second part, number_none part);
      is_below = λ part. omega (arith, ints, one_at part, own.first part, number_none part);
      high_over = h.high_over;
      low_over = h.low_over;
      high_is = high_is;
      low_is = low_is;
    }

    pub with_stride : (f q v : RowParts)
        × AreStrideTold vars rows c test (cond (int_lt (pos 0) c) k (k + 1)) (cond (int_lt (pos 0) c) (k + 1) k) f q v
        (pos 0) high low
    with_stride =
        (f, q, v, by_sign (int_lt (pos 0) c) (stride_rows context write read place c 0 h.even h.single is))

  pub turned : stride_of write ≡ None → falls write ≡ true
      → ((part : Part) → part_of part high ≡ part_of part two) × ((part : Part) → part_of part low ≡ part_of part one)
  turned plain less =
      let t : IsToldLess context write read place quotient =
      told_less context write read place quotient h.even h.single plain less in (
        λ part. omega (arith, ints, h.high_parts part, h.two_parts part, t.own_at part, t.write_at part, t.read_at part),
        λ part. omega (arith, ints, h.low_parts part, h.one_parts part, t.own_at part, t.write_at part, t.read_at part),
      )

  pub kept : stride_of write ≡ None → falls write ≡ false
      → ((part : Part) → part_of part high ≡ part_of part one) × ((part : Part) → part_of part low ≡ part_of part two)
  kept plain other =
      let t : IsToldSame context write read place quotient = told_same context write read place quotient plain other in (
        λ part. omega (arith, ints, h.high_parts part, h.one_parts part, t.write_at part, t.read_at part),
        λ part. omega (arith, ints, h.low_parts part, h.two_parts part, t.write_at part, t.read_at part),
      )

  pub subscript_is_told : ((c : ℤ) → stride_of write ≡ Some c
      → IsTestRow context rows test quotient (widened_form context (division_of 0 write read c).form) (unsigned_abs c))
      → IsSubscriptTold vars rows write k (k + 1) test one two high low
  subscript_is_told tests = record {
    one_is = h.one_is;
    two_is = h.two_is;
    high_over = h.high_over;
    low_over = h.low_over;
    strided = λ c is. with_stride c is (tests c is);
    turned = turned;
    same = kept;
  }

-- all subscripts
pub cells_are_told : (vars context : ℕ) (rows writes reads place : List Form) (k depth root : ℕ) (places : List ℕ)
    (own told : List Form) → row_forms vars (cell_rows writes reads place) ≡ Some own
    → row_forms vars (cell_rows (problem_writes writes) (problem_reads context depth places writes reads) place) ≡ Some told
    → StandAt rows k own → list_all is_single writes ≡ true → All (λ write. length write.coefs ≡ length place) writes
    → length writes ≡ length reads → AreTestRows context rows depth root places writes reads
    → AreCellsTold vars rows k root places writes told
cells_are_told vars context rows [] reads place k depth root places own told h l stand singles even same tests =
    subst (AreCellsTold vars rows k root places []) (same_Some [] told l) tt
cells_are_told vars context rows (write ∷ writes) [] place k depth root places own told h l stand singles even same tests
    = absurd (omega arith)
cells_are_told vars context rows (write ∷ writes) (read ∷ reads) place k depth root places own told h l stand singles even
    same tests =
    let test : ℕ = root + 2 * next_place places in
    let quotient : ℕ = depth + next_place places in
    let w : Form = problem_write write in
    let r : Form = problem_read context quotient write read in
    let behind : List ℕ = places_behind write places in
    let xs : List RowExpr = cell_rows writes reads place in
    let ys : List RowExpr = cell_rows (problem_writes writes) (problem_reads context depth behind writes reads) place in
    let a : IsMadeFirst vars (minus (at_place write place) (Take read)) (minus (Take read) (at_place write place) ∷ xs) own
    = made_first vars (minus (at_place write place) (Take read)) (minus (Take read) (at_place write place) ∷ xs) own h in
    let b : IsMadeFirst vars (minus (Take read) (at_place write place)) xs a.rest =
    made_first vars (minus (Take read) (at_place write place)) xs a.rest a.made in
    let c : IsMadeFirst vars (minus (at_place w place) (Take r)) (minus (Take r) (at_place w place) ∷ ys) told =
    made_first vars (minus (at_place w place) (Take r)) (minus (Take r) (at_place w place) ∷ ys) told l in
    let e : IsMadeFirst vars (minus (Take r) (at_place w place)) ys c.rest =
    made_first vars (minus (Take r) (at_place w place)) ys c.rest c.made in
    let s = and_parts (is_single write) (list_all is_single writes) singles in
    let stand1 : StandAt rows k (a.first ∷ a.rest) = subst (StandAt rows k) a.is stand in
    let stand2 : StandAt rows (k + 1) (b.first ∷ b.rest) =
    subst (StandAt rows (k + 1)) b.is (stand_rest rows k a.first a.rest stand1) in
    let stand3 : StandAt rows (k + 2) b.rest =
    subst (λ n. StandAt rows n b.rest) (two_more k) (stand_rest rows (k + 1) b.first b.rest stand2) in
    let cell : IsMadeCell vars context rows write read place k test quotient a.first b.first c.first e.first
    = record {
      one_is = stand_first rows k a.first a.rest stand1;
      two_is = stand_first rows (k + 1) b.first b.rest stand2;
      even = All-head (λ (write : Form). length write.coefs ≡ length place) write writes even;
      single = s.0;
      one_parts = a.parts;
      two_parts = b.parts;
      high_over = c.over;
      low_over = e.over;
      high_parts = c.parts;
      low_parts = e.parts;
    } in
    let told_is : told ≡ c.first ∷ (e.first ∷ e.rest) = c.is ∙ ap (λ rest. c.first ∷ rest) e.is in
    subst (AreCellsTold vars rows k root places (write ∷ writes)) (sym told_is) (
      (
        a.first,
        b.first,
        subscript_is_told vars context rows write read place k test quotient a.first b.first c.first e.first
            cell tests.0,
      ),
      cells_are_told vars context rows writes reads place (k + 2) depth root behind b.rest e.rest
          b.made e.made stand3 s.1 (All-tail (λ (write : Form). length write.coefs ≡ length place) write writes even)
          (omega (arith, same)) tests.1,
    )
  where
    two_more : (k : ℕ) → k + 1 + 1 ≡ k + 2
    two_more k = omega arith
