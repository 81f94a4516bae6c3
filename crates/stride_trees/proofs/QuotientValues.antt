-- What the rows and subscripts over quotients mean.
--
-- A domain row over quotients has the value of the row divided and rounded down, so both are at least 0 at the same
-- points. A subscript has one loop, so with a stride it has the read's value where its loop is the quotient, if the
-- divisor times the quotient is the value of the test's form: the multiples of two numbers are equal where these are.
use Rattle.std.proofs.Common.{◌≡◌, ◌+◌, ◌%◌, ◌≤◌, ◌<◌, ◌||◌, ◌&&◌, ◌/◌, ℕ, suc, ℤ, pos, negsuc, ◌+ℤ◌, ◌-ℤ◌, ◌*ℤ◌}
use Rattle.std.proofs.Common.{List, [], ◌∷◌, ◌++◌, length, map, Bool, true, false, cond, refl, sym, ap, ◌∙◌, arith}
use Rattle.std.specs.Prelude.{Option, Some, None, All, int_le, is_some, not, slice_index_or, unsigned_abs}
use Rattle.std.specs.List.{list_all}
use Rattle.std.specs.Option.{option_map_or}
use Rattle.std.specs.Int.RustNames.{int_lt}
use Rattle.std.specs.Ordering.{int_eq}
use Rattle.std.proofs.lemmas.Int.{ints}
use Rattle.std.proofs.lemmas.List.Elements.{All-head, All-tail}
use Rattle.std.proofs.lemmas.Bool.{and_parts}
use Rattle.affine_core.proofs.Linear.{combined_is, dot, form_at_more, product_at, variable_at, widened_at}
use Rattle.affine_core.proofs.Ring.{sum_times, times_swap}
use Rattle.affine_core.specs.declared.form.Form.{Form}
use Rattle.affine_core.specs.Affine.{form_at, form_product, variable_form, widened_form}
use Rattle.affine_core.proofs.Integers.{int_eq-true}
use Rattle.int_polyhedra.specs.Steps.{floor, quotient_row}
use Rattle.int_polyhedra.proofs.Floor.{floor_exact}
use Rattle.sanlp.specs.Loops.{all_hold}
use Rattle.tree_cuts.specs.Class.{is_pair, is_single, stride_of}
use Rattle.stride_trees.specs.Divisions.{division_of}
use Rattle.stride_trees.specs.Problem.{problem_read, problem_rows, problem_write}
use Rattle.tree_cuts.specs.Sources.{divided_form, falls, loop_of}
use Rattle.tree_cuts.proofs.Coefficients.{how_many, is_other, none_other, once}
use Rattle.tree_cuts.proofs.Floors.{floor_multiple, floor_shifted}
use Rattle.stride_trees.proofs.NoSystems.{few_others, positive_sign, negative_sign, times_opposite}
use Rattle.stride_trees.proofs.Quotients.{read_is, write_is}
use Rattle.tree_cuts.proofs.Singles.{coefficient_of, less_coefficient, stride_coefficient}
use Rattle.tree_cuts.proofs.RowSources.{stride_divides}
use Rattle.tree_cuts.proofs.QuotientRows.{stride_positive}

-- Domain rows

dot_divided : (d : ℕ) (cs at : List ℤ) → 0 < d → All (λ c. unsigned_abs c % d ≡ 0) cs
    → dot cs at ≡ dot (map (λ c. floor c d) cs) at *ℤ pos d
dot_divided d [] at h e = omega (arith, ints)
dot_divided d (c ∷ cs) [] h e = omega (arith, ints)
dot_divided d (c ∷ cs) (v ∷ at) h e =
    let exact : c ≡ floor c d *ℤ pos d = floor_exact c d h (All-head (λ c. unsigned_abs c % d ≡ 0) c cs e) in
    let front : c *ℤ v ≡ (floor c d *ℤ v) *ℤ pos d = ap (λ z. z *ℤ v) exact ∙ times_swap (floor c d) (pos d) v in
    omega (
      arith,
      ints,
      front,
      dot_divided d cs at h (All-tail (λ c. unsigned_abs c % d ≡ 0) c cs e),
      sum_times (floor c d *ℤ v) (dot (map (λ c. floor c d) cs) at) (pos d),
    )

quotient_at : (d : ℕ) (row : Form) (at : List ℤ) → 0 < d → All (λ c. unsigned_abs c % d ≡ 0) row.coefs
    → form_at (quotient_row d row) at ≡ floor (form_at row at) d
quotient_at d row at h e =
    let cs : List ℤ = map (λ c. floor c d) row.coefs in
    let whole : form_at row at ≡ row.constant +ℤ (dot cs at *ℤ pos d) =
    combined_is row.constant row.coefs at ∙ ap (λ z. row.constant +ℤ z) (dot_divided d row.coefs at h e) in
    combined_is (floor row.constant d) cs at ∙ sym (floor_shifted row.constant (dot cs at) d h)
    ∙ ap (λ z. floor z d) (sym whole)

floor_sign : (z : ℤ) (d : ℕ) → int_le (pos 0) (floor z d) ≡ int_le (pos 0) z
floor_sign (pos n) d = not_below (n / d) ∙ sym (not_below n) where
  not_below : (m : ℕ) → int_le (pos 0) (pos m) ≡ true
  not_below m = grind (arith, ints)
floor_sign (negsuc n) d = below (n / d) ∙ sym (below n) where
  below : (m : ℕ) → int_le (pos 0) (negsuc m) ≡ false
  below m = grind (arith, ints)

row_holds : (row : Form) (at : List ℤ) → (is_single row || is_pair row) ≡ true
    → int_le (pos 0) (form_at (divided_form row) at) ≡ int_le (pos 0) (form_at row at)
row_holds row at class = go (stride_of row) refl where
  go : (o : Option ℤ) → stride_of row ≡ o
      → int_le (pos 0) (form_at (option_map_or (λ c. quotient_row (unsigned_abs c) row) o row) at)
      ≡ int_le (pos 0) (form_at row at)
  go None e = refl
  go (Some c) e =
      let positive : 0 < unsigned_abs c = stride_positive row c e in
      ap (int_le (pos 0)) (quotient_at (unsigned_abs c) row at positive (stride_divides row c positive class e))
      ∙ floor_sign (form_at row at) (unsigned_abs c)

pub rows_hold : (rows : List Form) (at : List ℤ) → list_all (λ row. is_single row || is_pair row) rows ≡ true
    → all_hold (problem_rows rows) at ≡ all_hold rows at
rows_hold [] at class = refl
rows_hold (row ∷ rows) at class =
    let b = and_parts (is_single row || is_pair row) (list_all (λ row. is_single row || is_pair row) rows) class in
    ap (λ x. x && all_hold (problem_rows rows) at) (row_holds row at b.0)
    ∙ ap (λ x. int_le (pos 0) (form_at row at) && x) (rows_hold rows at b.1)

-- Subscripts

none_dot : (cs at : List ℤ) → how_many is_other cs ≡ 0 → dot cs at ≡ pos 0
none_dot [] at e = refl
none_dot (c ∷ cs) [] e = refl
none_dot (c ∷ cs) (v ∷ at) e =
    let here : once (is_other c) + how_many is_other cs ≡ 0 = e in
    let c_is : c ≡ pos 0 = none_other c (omega (arith, here)) in
    omega (arith, ints, ap (λ c. c *ℤ v) c_is, none_dot cs at (omega (arith, here)))

-- at most one coefficient is other than 0
dot_single : (cs at : List ℤ) → how_many is_other cs ≤ 1
    → dot cs at ≡ slice_index_or at (loop_of cs) (pos 0) *ℤ coefficient_of cs
dot_single [] at few = times_zero (slice_index_or at 0 (pos 0)) where
  times_zero : (z : ℤ) → pos 0 ≡ z *ℤ pos 0
  times_zero z = omega (arith, ints)
dot_single (c ∷ cs) [] few = zero_times (coefficient_of (c ∷ cs)) where
  zero_times : (z : ℤ) → pos 0 ≡ pos 0 *ℤ z
  zero_times z = omega (arith, ints)
dot_single (c ∷ cs) (v ∷ at) few =
    let count : once (is_other c) + how_many is_other cs ≤ 1 = few in
    go (dot_single cs at) (none_dot cs at) count (int_eq c (pos 0)) refl where
      other_where : (c : ℤ) → int_eq c (pos 0) ≡ false → once (is_other c) ≡ 1
      other_where c e = ap (λ b. once (not b)) e

      go : (how_many is_other cs ≤ 1 → dot cs at ≡ slice_index_or at (loop_of cs) (pos 0) *ℤ coefficient_of cs)
          → (how_many is_other cs ≡ 0 → dot cs at ≡ pos 0) → once (is_other c) + how_many is_other cs ≤ 1 → (b : Bool)
          → int_eq c (pos 0) ≡ b
          → (c *ℤ v) +ℤ dot cs at ≡ slice_index_or (v ∷ at) (cond b (suc (loop_of cs)) 0) (pos 0)
          *ℤ slice_index_or (c ∷ cs) (cond b (suc (loop_of cs)) 0) (pos 0)
      go rest none count true is = omega (arith, ints, ap (λ c. c *ℤ v) (int_eq-true c (pos 0) is), rest (omega (arith, count)))
      go rest none count false is =
          omega (arith, ints, none (omega (arith, count, other_where c is)), swapped c v) where
            swapped : (a b : ℤ) → a *ℤ b ≡ b *ℤ a
            swapped a b = omega (arith, ints)

-- the value of a subscript
pub single_at : (write : Form) (at : List ℤ) → is_single write ≡ true
    → form_at write at ≡ write.constant +ℤ (slice_index_or at (loop_of write.coefs) (pos 0) *ℤ coefficient_of write.coefs)
single_at write at single =
    combined_is write.constant write.coefs at
    ∙ ap (λ z. write.constant +ℤ z) (dot_single write.coefs at (few_others write single))

-- equal multiples
pub same_multiples : (a b : ℤ) (d : ℕ) → 0 < d → a *ℤ pos d ≡ b *ℤ pos d → a ≡ b
same_multiples a b d h e =
    sym (floor_multiple a d h) ∙ ap (λ z. floor z d) e ∙ floor_multiple b d h

moved_at : (write read : Form) (at : List ℤ)
    → form_at (record read { constant = read.constant -ℤ write.constant }) at ≡ form_at read at -ℤ write.constant
moved_at write read at = omega (
  arith,
  ints,
  combined_is (read.constant -ℤ write.constant) read.coefs at,
  combined_is read.constant read.coefs at,
)

-- the form of a test, for the loop value v: that many times the divisor where the subscript has the read's value
pub test_value : (write read : Form) (j x : List ℤ) (c : ℤ) → is_single write ≡ true → stride_of write ≡ Some c
    → form_at write j ≡ form_at read x
    → form_at (division_of 0 write read c).form x
    ≡ slice_index_or j (loop_of write.coefs) (pos 0) *ℤ pos (unsigned_abs c)
test_value write read j x c single is same = go (int_lt (pos 0) c) refl where
  v : ℤ
  v = slice_index_or j (loop_of write.coefs) (pos 0)

  at : form_at write j ≡ write.constant +ℤ (v *ℤ c)
  at = single_at write j single
      ∙ ap (λ c. write.constant +ℤ (v *ℤ c)) (stride_coefficient write.coefs c (few_others write single) is)

  go : (b : Bool) → int_lt (pos 0) c ≡ b
      → form_at (cond b (record read { constant = read.constant -ℤ write.constant })
      (form_product (negsuc 0) (record read { constant = read.constant -ℤ write.constant }))) x ≡ v *ℤ pos (unsigned_abs c)
  go true sign = omega (arith, ints, moved_at write read x, at, same, ap (λ c. v *ℤ c) (positive_sign c sign))
  go false sign = omega (
    arith,
    ints,
    product_at (negsuc 0) (record read { constant = read.constant -ℤ write.constant }) x,
    moved_at write read x,
    at,
    same,
    ap (λ c. v *ℤ c) (negative_sign c sign),
    times_opposite v (unsigned_abs c),
  )

-- and the other way round
value_test : (write read : Form) (j x : List ℤ) (c : ℤ) → is_single write ≡ true → stride_of write ≡ Some c
    → form_at (division_of 0 write read c).form x
    ≡ slice_index_or j (loop_of write.coefs) (pos 0) *ℤ pos (unsigned_abs c)
    → form_at write j ≡ form_at read x
value_test write read j x c single is same = go (int_lt (pos 0) c) refl same where
  v : ℤ
  v = slice_index_or j (loop_of write.coefs) (pos 0)

  at : form_at write j ≡ write.constant +ℤ (v *ℤ c)
  at = single_at write j single
      ∙ ap (λ c. write.constant +ℤ (v *ℤ c)) (stride_coefficient write.coefs c (few_others write single) is)

  go : (b : Bool) → int_lt (pos 0) c ≡ b
      → form_at (cond b (record read { constant = read.constant -ℤ write.constant })
      (form_product (negsuc 0) (record read { constant = read.constant -ℤ write.constant }))) x ≡ v *ℤ pos (unsigned_abs c)
      → form_at write j ≡ form_at read x
  go true sign e = omega (arith, ints, moved_at write read x, at, e, ap (λ c. v *ℤ c) (positive_sign c sign))
  go false sign e = omega (
    arith,
    ints,
    product_at (negsuc 0) (record read { constant = read.constant -ℤ write.constant }) x,
    moved_at write read x,
    at,
    e,
    ap (λ c. v *ℤ c) (negative_sign c sign),
    times_opposite v (unsigned_abs c),
  )

-- One subscript has the read's value where the told one has the told read's
module _ (depth vars : ℕ) (write read : Form) (quotient : ℕ) (j x more : List ℤ) (single : is_single write ≡ true)
    (short : length read.coefs ≤ length x)
    (test : (c : ℤ) → stride_of write ≡ Some c → slice_index_or (x ++ more) quotient (pos 0) *ℤ pos (unsigned_abs c)
    ≡ form_at (division_of 0 write read c).form x) where
  abbrev v : ℤ
  v = slice_index_or j (loop_of write.coefs) (pos 0)

  abbrev lone : Form
  lone = variable_form (length write.coefs) (loop_of write.coefs)

  abbrev less : Form
  less = form_product (negsuc 0) (record read { constant = read.constant -ℤ write.constant })

  abbrev told : Form
  told = problem_write write

  abbrev told_of : Form
  told_of = problem_read vars quotient write read

  lone_at : form_at lone j ≡ v
  lone_at = variable_at (length write.coefs) (loop_of write.coefs) j

  less_at : form_at (widened_form vars less) (x ++ more) ≡ (form_at read x -ℤ write.constant) *ℤ negsuc 0
  less_at =
      widened_at vars less (x ++ more)
      ∙ product_at (negsuc 0) (record read { constant = read.constant -ℤ write.constant }) (x ++ more)
      ∙ ap (λ z. z *ℤ negsuc 0) (moved_at write read (x ++ more))
      ∙ ap (λ z. (z -ℤ write.constant) *ℤ negsuc 0) (form_at_more read x more short)

  own_less : falls write ≡ true → form_at write j ≡ write.constant +ℤ (v *ℤ negsuc 0)
  own_less falling =
      single_at write j single
      ∙ ap (λ c. write.constant +ℤ (v *ℤ c)) (less_coefficient write.coefs (few_others write single) falling)

  same_read : form_at (widened_form vars read) (x ++ more) ≡ form_at read x
  same_read = widened_at vars read (x ++ more) ∙ form_at_more read x more short

  abbrev Own : Type 0
  Own = form_at write j ≡ form_at read x

  abbrev Told : Type 0
  Told = form_at told j ≡ form_at told_of (x ++ more)

  with_stride : (c : ℤ) → stride_of write ≡ Some c → (Own → Told) × (Told → Own)
  with_stride c is =
      let d : ℕ = unsigned_abs c in
      let positive : 0 < d = stride_positive write c is in
      let q : ℤ = slice_index_or (x ++ more) quotient (pos 0) in
      let w : form_at told j ≡ v =
      ap (λ f. form_at f j) (write_is vars write read [] quotient true (falls write) (ap is_some is) refl) ∙ lone_at in
      let r : form_at told_of (x ++ more) ≡ q =
      ap (λ f. form_at f (x ++ more)) (read_is vars write read [] quotient true (falls write) (ap is_some is) refl)
      ∙ variable_at vars quotient (x ++ more) in (
        λ own. w ∙ same_multiples v q d positive (sym (test_value write read j x c single is own) ∙ sym (test c is)) ∙ sym r,
        λ h. value_test write read j x c single is
            (sym (test c is) ∙ ap (λ z. z *ℤ pos d) (sym (sym w ∙ h ∙ r))),
      )

  with_less : stride_of write ≡ None → falls write ≡ true → (Own → Told) × (Told → Own)
  with_less none falling =
      let w : form_at told j ≡ v =
      ap (λ f. form_at f j) (write_is vars write read [] quotient false true (ap is_some none) falling) ∙ lone_at in
      let r : form_at told_of (x ++ more) ≡ (form_at read x -ℤ write.constant) *ℤ negsuc 0 =
      ap (λ f. form_at f (x ++ more)) (read_is vars write read [] quotient false true (ap is_some none) falling) ∙ less_at
      in (
        λ own. omega (arith, ints, w, r, own_less falling, own),
        λ h. omega (arith, ints, w, r, own_less falling, h),
      )

  with_own : stride_of write ≡ None → falls write ≡ false → (Own → Told) × (Told → Own)
  with_own none other =
      let w : form_at told j ≡ form_at write j =
      ap (λ f. form_at f j) (write_is vars write read [] quotient false false (ap is_some none) other) in
      let r : form_at told_of (x ++ more) ≡ form_at read x =
      ap (λ f. form_at f (x ++ more)) (read_is vars write read [] quotient false false (ap is_some none) other) ∙ same_read
      in (λ own. w ∙ own ∙ sym r, λ h. sym w ∙ h ∙ r)

  pub subscript_means : (Own → Told) × (Told → Own)
  subscript_means = by_kind (stride_of write) (falls write) refl refl where
    by_kind : (o : Option ℤ) (b : Bool) → stride_of write ≡ o → falls write ≡ b → (Own → Told) × (Told → Own)
    by_kind (Some c) b is falling = with_stride c is
    by_kind None true is falling = with_less is falling
    by_kind None false is falling = with_own is falling
