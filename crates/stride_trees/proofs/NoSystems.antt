-- The system of a write before the read, below the no of a test of divisibility.
--
-- The system's rows are those of the context, widened, the two of the test, and those of the writer's point. All are
-- small, so all can be made. The rows of the test and of its subscript have the parts that refute them together, for
-- the form of the test, its quotient and the loop of the subscript.
use Rattle.std.proofs.Common.{◌≡◌, ◌≤◌, ℕ, zero, suc, ℤ, pos, negsuc, ◌+ℤ◌, ◌-ℤ◌, ◌*ℤ◌, List}
use Rattle.std.proofs.Common.{length, Bool, true, false, cond, refl, sym, ap, ◌∙◌, arith}
use Rattle.std.specs.Prelude.{Some, unsigned_abs}
use Rattle.std.specs.List.{count_by}
use Rattle.std.specs.Int.RustNames.{int_lt}
use Rattle.std.proofs.lemmas.Bool.{leb-true}
use Rattle.std.proofs.lemmas.Int.{ints}
use Rattle.affine_core.proofs.Ring.{times_assoc}
use Rattle.affine_core.specs.declared.form.Form.{Form}
use Rattle.affine_core.specs.Affine.{form_product, widened_form}
use Rattle.tree_sums.specs.Made.{parts_of}
use Rattle.tree_sums.specs.Parts.{Part, the_constant, the_coefficient, part_of, row_part}
use Rattle.tree_sums.specs.Shown.{RowParts}
use Rattle.tree_sums.proofs.Ideal.{product_part}
use Rattle.tree_sums.proofs.SmallRows.{widened_part}
use Rattle.source_tree.specs.Places.{at_place}
use Rattle.source_tree.specs.Rows.{Take, minus, number}
use Rattle.tree_cuts.specs.Class.{is_single, stride_of}
use Rattle.stride_trees.specs.Divisions.{division_of}
use Rattle.tree_cuts.specs.Sources.{loop_of}
use Rattle.tree_cuts.proofs.Coefficients.{how_many, how_many_is, is_other}
use Rattle.tree_cuts.proofs.Indivisible.{number_part}
use Rattle.tree_cuts.proofs.Singles.{single_terms, stride_coefficient}

-- Parts

-- the read's form less the write's constant
pub moved_part : (write read : Form) (part : Part)
    → part_of part (record read { constant = read.constant -ℤ write.constant })
    ≡ part_of part read -ℤ number_part write.constant part
moved_part write read the_constant = refl
moved_part write read (the_coefficient i) = omega (arith, ints)

-- a stride above 0 is its size, and one below 0 the opposite of its size
pub positive_sign : (c : ℤ) → int_lt (pos 0) c ≡ true → c ≡ pos (unsigned_abs c)
positive_sign (pos n) e = refl
positive_sign (negsuc n) e = absurd (grind (arith, ints))

pub negative_sign : (c : ℤ) → int_lt (pos 0) c ≡ false → c ≡ pos (unsigned_abs c) *ℤ negsuc 0
negative_sign (pos zero) e = omega (arith, ints)
negative_sign (pos (suc n)) e = absurd (grind (arith, ints))
negative_sign (negsuc n) e = omega (arith, ints)

-- the rows of a subscript with a stride, told by the form of its test
pub record AreStrideRows (write read : Form) (place : List Form) (d : ℕ) (f v : RowParts) (rises : Bool)
    : Type 0 where
  pub first : (part : Part) → parts_of (minus (at_place write place) (Take read)) part
      ≡ cond rises ((v part *ℤ pos d) -ℤ f part) (f part -ℤ (v part *ℤ pos d))
  pub second : (part : Part) → parts_of (minus (Take read) (at_place write place)) part
      ≡ cond rises (f part -ℤ (v part *ℤ pos d)) ((v part *ℤ pos d) -ℤ f part)

pub few_others : (write : Form) → is_single write ≡ true → how_many is_other write.coefs ≤ 1
few_others write e =
    let few : count_by is_other write.coefs ≤ 1 = leb-true (count_by is_other write.coefs) 1 e in
    omega (arith, how_many_is is_other write.coefs, few)

at_stride : (write : Form) (place : List Form) (part : Part) (c : ℤ) → length write.coefs ≡ length place
    → is_single write ≡ true → stride_of write ≡ Some c
    → parts_of (at_place write place) part
    ≡ number_part write.constant part +ℤ (row_part place part (loop_of write.coefs) *ℤ c)
at_stride write place part c even single is =
    single_terms (number write.constant) write.coefs place part even (few_others write single)
    ∙ ap (λ c. number_part write.constant part +ℤ (row_part place part (loop_of write.coefs) *ℤ c))
    (stride_coefficient write.coefs c (few_others write single) is)

pub times_opposite : (v : ℤ) (d : ℕ) → v *ℤ (pos d *ℤ negsuc 0) ≡ (v *ℤ pos d) *ℤ negsuc 0
times_opposite v d = sym (times_assoc v (pos d) (negsuc 0))

module _ (vars : ℕ) (write read : Form) (place : List Form) (c : ℤ) (k : ℕ)
    (even : length write.coefs ≡ length place) (single : is_single write ≡ true) (is : stride_of write ≡ Some c) where
  abbrev moved : Form
  moved = record read { constant = read.constant -ℤ write.constant }

  abbrev v : RowParts
  v part = row_part place part (loop_of write.coefs)

  at : (part : Part) → parts_of (at_place write place) part ≡ number_part write.constant part +ℤ (v part *ℤ c)
  at part = at_stride write place part c even single is

  by_sign : (b : Bool) → int_lt (pos 0) c ≡ b
      → AreStrideRows write read place (unsigned_abs c)
      (λ part. part_of part (widened_form vars (cond b moved (form_product (negsuc 0) moved)))) v b
  by_sign true sign =
      let d : ℕ = unsigned_abs c in
      let f_is : (part : Part) → part_of part (widened_form vars moved)
      ≡ part_of part read -ℤ number_part write.constant part =
      λ part. widened_part vars moved part ∙ moved_part write read part in
      let times : (part : Part) → v part *ℤ c ≡ v part *ℤ pos d = λ part. ap (λ c. v part *ℤ c) (positive_sign c sign) in
      record {
        first = λ part. omega (arith, ints, at part, f_is part, times part);
        second = λ part. omega (arith, ints, at part, f_is part, times part);
      }
  by_sign false sign =
      let d : ℕ = unsigned_abs c in
      let f_is : (part : Part) → part_of part (widened_form vars (form_product (negsuc 0) moved))
      ≡ (part_of part read -ℤ number_part write.constant part) *ℤ negsuc 0 =
      λ part. widened_part vars (form_product (negsuc 0) moved) part ∙ product_part part (negsuc 0) moved
      ∙ ap (λ z. z *ℤ negsuc 0) (moved_part write read part) in
      let times : (part : Part) → v part *ℤ c ≡ (v part *ℤ pos d) *ℤ negsuc 0 =
      λ part. ap (λ c. v part *ℤ c) (negative_sign c sign) ∙ times_opposite (v part) d in
      record {
        first = λ part. omega (arith, ints, at part, f_is part, times part);
        second = λ part. omega (arith, ints, at part, f_is part, times part);
      }

  pub stride_rows : AreStrideRows write read place (unsigned_abs c)
      (λ part. part_of part (widened_form vars (division_of k write read c).form)) v (int_lt (pos 0) c)
  stride_rows = by_sign (int_lt (pos 0) c) refl
