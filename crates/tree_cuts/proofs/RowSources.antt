-- Where the rows over quotients come from.
--
-- A domain row without a stride is the row itself. One with a stride has no other variable, so the stride's size
-- divides each of its coefficients, and the Cut of the row adds the row of the quotients, at any place; its opposite
-- less 1 comes to the opposite of that row less 1. A subscript's two rows are cut with the rows of its test. Lists of
-- rows are told part by part.
use Rattle.std.proofs.Common.{◌≡◌, ◌+◌, ◌*◌, ◌%◌, ◌^◌, ◌≤◌, ◌<◌, ◌||◌, ℕ, ℤ, pos, ◌*ℤ◌}
use Rattle.std.proofs.Common.{List, [], ◌∷◌, ◌++◌, length, map, Bool, true, false, cond, refl, sym, ap, ◌∙◌, subst, arith}
use Rattle.std.proofs.Common.{eqb-true}
use Rattle.std.specs.Prelude.{Option, Some, None, All, slice_get, unsigned_abs}
use Rattle.std.specs.List.{count_by, find}
use Rattle.std.specs.Option.{option_map_or}
use Rattle.std.proofs.lemmas.Bool.{leb-true, and_parts}
use Rattle.std.proofs.lemmas.Int.{ints}
use Rattle.std.proofs.lemmas.List.Elements.{All-nil, All-cons}
use Rattle.std.proofs.lemmas.Nat.{mod-mul-add}
use Rattle.std.proofs.lemmas.Option.{same_Some}
use Rattle.affine_core.specs.declared.form.Form.{Form}
use Rattle.int_polyhedra.specs.declared.system.Term.{Term}
use Rattle.int_polyhedra.specs.Systems.{AreOver}
use Rattle.int_polyhedra.proofs.Variables.{over_at}
use Rattle.tree_sums.specs.Parts.{Part, the_constant, the_coefficient, part_of, weight, IsWithin}
use Rattle.tree_sums.specs.Shown.{RowParts}
use Rattle.tree_cuts.specs.Class.{is_pair, is_single, stride_of}
use Rattle.tree_cuts.specs.Cuts.{AddsRow, AreSources}
use Rattle.tree_cuts.specs.Sources.{cut_of, row_source}
use Rattle.tree_cuts.specs.declared.cuts.Source.{Source}
use Rattle.tree_cuts.specs.declared.cuts.Source.TheVariants.{Own, Added}
use Rattle.tree_cuts.proofs.Coefficients.{how_many, how_many_is, is_less, is_one, is_other, is_outside, none_other, once}
use Rattle.tree_cuts.proofs.Coefficients.{outside_counts}
use Rattle.tree_cuts.proofs.CutRows.{IsMultipleOf}
use Rattle.tree_cuts.proofs.WriterCuts.{added_is}
use Rattle.tree_cuts.proofs.WriterCuts.{same_forms}
use Rattle.tree_cuts.proofs.Indivisible.{once_row}

-- A row with a stride has no other variable

-- each coefficient counts as no more than one of the three
counts_apart : (c : ℤ) → once (is_one c) + once (is_less c) ≤ once (is_other c)
counts_apart c = grind (arith, ints)

outside_apart : (c : ℤ) → is_outside c ≡ true → once (is_one c) + (once (is_less c) + 1) ≤ once (is_other c)
outside_apart c e = grind (arith, ints)

pub counts_all : (cs : List ℤ) → how_many is_one cs + how_many is_less cs ≤ how_many is_other cs
counts_all [] = omega arith
counts_all (c ∷ cs) = omega (arith, counts_apart c, counts_all cs)

pub outside_more : (cs : List ℤ) (c : ℤ) → find is_outside cs ≡ Some c
    → how_many is_one cs + (how_many is_less cs + 1) ≤ how_many is_other cs
outside_more [] c e = absurd (let no : None ≡ Some c = e in cc)
outside_more (d ∷ cs) c e = go (outside_more cs c) (counts_all cs) (is_outside d) refl e where
  go : (find is_outside cs ≡ Some c → how_many is_one cs + (how_many is_less cs + 1) ≤ how_many is_other cs)
      → how_many is_one cs + how_many is_less cs ≤ how_many is_other cs
      → (b : Bool) → is_outside d ≡ b → cond b (Some d) (find is_outside cs) ≡ Some c
      → (once (is_one d) + how_many is_one cs) + ((once (is_less d) + how_many is_less cs) + 1)
      ≤ once (is_other d) + how_many is_other cs
  go rest all true is e = omega (arith, outside_apart d is, all)
  go rest all false is e = omega (arith, counts_apart d, rest e)

pub single_where : (row : Form) (c : ℤ) → (is_single row || is_pair row) ≡ true → stride_of row ≡ Some c
    → is_single row ≡ true
single_where row c e is = go (is_single row) refl e where
  go : (b : Bool) → is_single row ≡ b → (b || is_pair row) ≡ true → b ≡ true
  go true s e = refl
  go false s e =
      let p = and_parts _ _ e in
      let q = and_parts _ _ p.1 in
      let all : count_by is_other row.coefs ≡ 2 = eqb-true (count_by is_other row.coefs) 2 p.0 in
      let one : count_by is_one row.coefs ≡ 1 = eqb-true (count_by is_one row.coefs) 1 q.0 in
      let less : count_by is_less row.coefs ≡ 1 = eqb-true (count_by is_less row.coefs) 1 q.1 in
      absurd (omega (
        arith,
        all,
        one,
        less,
        how_many_is is_other row.coefs,
        how_many_is is_one row.coefs,
        how_many_is is_less row.coefs,
        outside_more row.coefs c is,
      ))

none_left : (cs : List ℤ) (m : ℕ) → 0 < m → how_many is_other cs ≡ 0 → All (λ x. unsigned_abs x % m ≡ 0) cs
none_left [] m positive none = All-nil _
none_left (d ∷ cs) m positive none =
    let here : once (is_other d) + how_many is_other cs ≡ 0 = none in
    let d_is : d ≡ pos 0 = none_other d (omega (arith, here)) in
    All-cons (λ x. unsigned_abs x % m ≡ 0) d cs (ap (λ x. unsigned_abs x % m) d_is ∙ zero_divides m)
    (none_left cs m positive (omega (arith, here))) where
      zero_divides : (m : ℕ) → 0 % m ≡ 0
      zero_divides m = omega arith

pub single_divides : (cs : List ℤ) (c : ℤ) → 0 < unsigned_abs c → how_many is_other cs ≤ 1
    → find is_outside cs ≡ Some c → All (λ x. unsigned_abs x % unsigned_abs c ≡ 0) cs
single_divides [] c positive few e = All-nil _
single_divides (d ∷ cs) c positive few e =
    let count : once (is_other d) + how_many is_other cs ≤ 1 = few in
    go (λ few e. single_divides cs c positive few e) count (outside_counts (d ∷ cs) c e) (is_outside d) refl e where
      own_divides : (m : ℕ) → 0 < m → m % m ≡ 0
      own_divides m h =
          let e : m ≡ 1 * m + 0 = omega arith in
          ap (λ n. n % m) e ∙ mod-mul-add 1 m 0 h

      zero_divides : (m : ℕ) → 0 % m ≡ 0
      zero_divides m = omega arith

      alone_where : (d : ℤ) (cs : List ℤ) → is_outside d ≡ true → once (is_other d) + how_many is_other cs ≤ 1
          → how_many is_other cs ≡ 0
      alone_where d cs is few =
          let own : 1 ≤ how_many is_other (d ∷ []) =
          outside_counts (d ∷ []) d (ap (λ b. cond b (Some d) None) is) in
          let one : 1 ≤ once (is_other d) + 0 = own in
          omega (arith, one, few)

      go : (how_many is_other cs ≤ 1 → find is_outside cs ≡ Some c → All (λ x. unsigned_abs x % unsigned_abs c ≡ 0) cs)
          → once (is_other d) + how_many is_other cs ≤ 1 → 1 ≤ once (is_other d) + how_many is_other cs
          → (b : Bool) → is_outside d ≡ b → cond b (Some d) (find is_outside cs) ≡ Some c
          → All (λ x. unsigned_abs x % unsigned_abs c ≡ 0) (d ∷ cs)
      go rest few least true is e =
          let same : d ≡ c = same_Some d c e in
          All-cons (λ x. unsigned_abs x % unsigned_abs c ≡ 0) d cs
          (ap (λ x. unsigned_abs x % unsigned_abs c) same ∙ own_divides (unsigned_abs c) positive)
          (none_left cs (unsigned_abs c) positive (alone_where d cs is few))
      go rest few least false is e =
          let later : 1 ≤ how_many is_other cs = outside_counts cs c e in
          let d_is : d ≡ pos 0 = none_other d (omega (arith, few, later)) in
          All-cons (λ x. unsigned_abs x % unsigned_abs c ≡ 0) d cs
          (ap (λ x. unsigned_abs x % unsigned_abs c) d_is ∙ zero_divides (unsigned_abs c)) (rest (omega (arith, few)) e)

pub stride_divides : (row : Form) (c : ℤ) → 0 < unsigned_abs c → (is_single row || is_pair row) ≡ true
    → stride_of row ≡ Some c → All (λ x. unsigned_abs x % unsigned_abs c ≡ 0) row.coefs
stride_divides row c positive e is =
    let few : count_by is_other row.coefs ≤ 1 =
    leb-true (count_by is_other row.coefs) 1 (single_where row c e is) in
    single_divides row.coefs c positive (omega (arith, few, how_many_is is_other row.coefs)) is

-- Rows

-- the same row by its parts
pub multiple_as : (rows : List Form) (d : ℕ) (ts : List Term) (a b : RowParts) → ((part : Part) → a part ≡ b part)
    → IsMultipleOf rows d ts a → IsMultipleOf rows d ts b
multiple_as rows d ts a b same h = record {
  name_rows = h.name_rows;
  not_negative = h.not_negative;
  constant = h.constant ∙ same the_constant;
  coefs = λ i. h.coefs i ∙ ap (λ z. z *ℤ pos d) (same (the_coefficient i));
}

-- a system with small numbers
pub record IsSmallSystem (vars : ℕ) (rows : List Form) : Type 0 where
  pub over : AreOver vars rows
  pub within : All (IsWithin (2 ^ 90)) rows

-- the row of this number, by its parts
pub same_row : (vars : ℕ) (rows : List Form) (k : ℕ) (own row : Form) → IsSmallSystem vars rows
    → slice_get rows k ≡ Some own → length row.coefs ≡ vars → ((part : Part) → part_of part row ≡ part_of part own)
    → slice_get rows k ≡ Some row
same_row vars rows k own row h is long same =
    is ∙ ap Some (same_forms own row (over_at vars rows k own h.over is ∙ sym long) (λ part. sym (same part)))

-- a row that a Cut adds, of one row or two
pub cut_told : (vars : ℕ) (rows : List Form) (c : ℤ) (numbers : List ℕ) (ts : List Term) (row : Form)
    → ts ≡ map once_row numbers → 0 < unsigned_abs c → IsSmallSystem vars rows → weight ts ≤ 2 → length row.coefs ≡ vars
    → IsMultipleOf rows (unsigned_abs c) ts (λ part. part_of part row) → AreSources vars rows (cut_of c numbers ∷ []) (row ∷ [])
cut_told vars rows c numbers ts row e positive h light long m =
    let own : AddsRow vars rows (record { divisor = pos (unsigned_abs c); terms = ts }) row =
    added_is vars (2 ^ 90) (unsigned_abs c) rows ts row positive h.over h.within (omega (arith, light)) long m in
    (subst (λ ts. AddsRow vars rows (record { divisor = pos (unsigned_abs c); terms = ts }) row) e own, tt)

-- a domain row, or its opposite less 1: it is the row of this number, or what the Cut of that adds
pub row_told : (vars : ℕ) (rows : List Form) (k : ℕ) (form own row : Form) (told : RowParts) → IsSmallSystem vars rows
    → slice_get rows k ≡ Some own → length row.coefs ≡ vars → ((part : Part) → part_of part row ≡ told part)
    → (stride_of form ≡ None → (part : Part) → told part ≡ part_of part own)
    → ((c : ℤ) → stride_of form ≡ Some c → 0 < unsigned_abs c × IsMultipleOf rows (unsigned_abs c) (once_row k ∷ []) told)
    → AreSources vars rows (row_source form k ∷ []) (row ∷ [])
row_told vars rows k form own row told h is long parts same cut = go (stride_of form) refl where
  go : (o : Option ℤ) → stride_of form ≡ o
      → AreSources vars rows (option_map_or (λ c. cut_of c (k ∷ [])) o (Own k) ∷ []) (row ∷ [])
  go None e = (same_row vars rows k own row h is long (λ part. parts part ∙ same e part), tt)
  go (Some c) e =
      let m = cut c e in
      cut_told vars rows c (k ∷ []) (once_row k ∷ []) row refl m.0 h (omega arith) long
      (multiple_as rows (unsigned_abs c) (once_row k ∷ []) told (λ part. part_of part row) (λ part. sym (parts part)) m.1)

-- Lists of rows

pub sources_append : (vars : ℕ) (rows : List Form) (first second : List Source) (told more : List Form)
    → AreSources vars rows first told → AreSources vars rows second more
    → AreSources vars rows (first ++ second) (told ++ more)
sources_append vars rows [] second [] more h k = k
sources_append vars rows [] second (row ∷ told) more h k = absurd h
sources_append vars rows (Own n ∷ first) second [] more h k = absurd h
sources_append vars rows (Added cut ∷ first) second [] more h k = absurd h
sources_append vars rows (Own n ∷ first) second (row ∷ told) more h k =
    (h.0, sources_append vars rows first second told more h.1 k)
sources_append vars rows (Added cut ∷ first) second (row ∷ told) more h k =
    (h.0, sources_append vars rows first second told more h.1 k)
