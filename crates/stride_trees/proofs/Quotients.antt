-- A subscript and the read's, over quotients.
--
-- What is told of a subscript depends on its kind alone: with a stride it is the loop and the quotient, with the
-- coefficient -1 the loop and the write's constant less the read's, and else what they are themselves.
use Rattle.std.proofs.Common.{◌≡◌, ◌≤◌, ◌||◌, ℕ, ℤ, negsuc, ◌+ℤ◌, ◌-ℤ◌, ◌*ℤ◌, List, length}
use Rattle.std.proofs.Common.{Bool, true, false, cond, refl, ap, ◌∙◌}
use Rattle.std.specs.Prelude.{Some, None, is_some}
use Rattle.affine_core.specs.declared.form.Form.{Form}
use Rattle.affine_core.specs.Affine.{form_product, variable_form, widened_form}
use Rattle.tree_sums.specs.Made.{parts_of}
use Rattle.tree_sums.specs.Parts.{Part, part_of, row_part}
use Rattle.tree_sums.specs.Shown.{RowParts}
use Rattle.tree_sums.proofs.Ideal.{product_part}
use Rattle.tree_sums.proofs.SmallRows.{widened_part}
use Rattle.source_tree.specs.Places.{at_place}
use Rattle.source_tree.specs.Rows.{number}
use Rattle.tree_cuts.specs.Class.{is_single, is_stride, stride_of}
use Rattle.stride_trees.specs.Problem.{problem_read, problem_write}
use Rattle.tree_cuts.specs.Sources.{falls, loop_of}
use Rattle.tree_cuts.proofs.Coefficients.{how_many, is_other, outside_counts}
use Rattle.tree_cuts.proofs.Indivisible.{number_part}
use Rattle.stride_trees.proofs.NoSystems.{few_others, moved_part}
use Rattle.tree_cuts.proofs.Singles.{at_loop, less_coefficient, less_counts, loop_inside, single_terms}

abbrev pub loop_at : Form → List Form → RowParts
loop_at write place part = row_part place part (loop_of write.coefs)

-- with a stride
pub record IsToldStride (context : ℕ) (write read : Form) (place : List Form) (quotient : ℕ) : Type 0 where
  pub write_at : (part : Part) → parts_of (at_place (problem_write write) place) part ≡ loop_at write place part
  pub read_at : (part : Part)
      → part_of part (problem_read context quotient write read) ≡ part_of part (variable_form context quotient)

-- with the coefficient -1
pub record IsToldLess (context : ℕ) (write read : Form) (place : List Form) (quotient : ℕ) : Type 0 where
  pub own_at : (part : Part) → parts_of (at_place write place) part
      ≡ number_part write.constant part +ℤ (loop_at write place part *ℤ negsuc 0)
  pub write_at : (part : Part) → parts_of (at_place (problem_write write) place) part ≡ loop_at write place part
  pub read_at : (part : Part) → part_of part (problem_read context quotient write read)
      ≡ (part_of part read -ℤ number_part write.constant part) *ℤ negsuc 0

-- and else
pub record IsToldSame (context : ℕ) (write read : Form) (place : List Form) (quotient : ℕ) : Type 0 where
  pub write_at : (part : Part) → parts_of (at_place (problem_write write) place) part
      ≡ parts_of (at_place write place) part
  pub read_at : (part : Part) → part_of part (problem_read context quotient write read) ≡ part_of part read

module _ (context : ℕ) (write read : Form) (place : List Form) (quotient : ℕ) where
  abbrev lone : Form
  lone = variable_form (length write.coefs) (loop_of write.coefs)

  abbrev less : Form
  less = form_product (negsuc 0) (record read { constant = read.constant -ℤ write.constant })

  -- what is told, by the two tests of the kind
  abbrev write_by : Bool → Bool → Form
  write_by a b = cond (a || b) lone write

  abbrev read_by : Bool → Bool → Form
  read_by a b =
      cond a (variable_form context quotient) (cond b (widened_form context less) (widened_form context read))

  pub write_is : (a b : Bool) → is_stride write ≡ a → falls write ≡ b → problem_write write ≡ write_by a b
  write_is a b e f = ap (λ a. write_by a (falls write)) e ∙ ap (write_by a) f

  pub read_is : (a b : Bool) → is_stride write ≡ a → falls write ≡ b → problem_read context quotient write read ≡ read_by a b
  read_is a b e f = ap (λ a. read_by a (falls write)) e ∙ ap (read_by a) f

  module _ (even : length write.coefs ≡ length place) (single : is_single write ≡ true) where
    few : how_many is_other write.coefs ≤ 1
    few = few_others write single

    -- where the loop alone is told
    loop_part : (part : Part) → 1 ≤ how_many is_other write.coefs → parts_of (at_place lone place) part
        ≡ loop_at write place part
    loop_part part some =
        at_loop (length write.coefs) (loop_of write.coefs) place part (loop_inside write.coefs some) even

    pub told_stride : (c : ℤ) → stride_of write ≡ Some c → IsToldStride context write read place quotient
    told_stride c is = record {
      write_at = λ part. ap (λ f. parts_of (at_place f place) part) (write_is true (falls write) (ap is_some is) refl)
          ∙ loop_part part (outside_counts write.coefs c is);
      read_at = λ part. ap (part_of part) (read_is true (falls write) (ap is_some is) refl);
    }

    pub told_less : stride_of write ≡ None → falls write ≡ true → IsToldLess context write read place quotient
    told_less plain falling = record {
      own_at = λ part. single_terms (number write.constant) write.coefs place part even few
          ∙ ap (λ c. number_part write.constant part +ℤ (loop_at write place part *ℤ c))
          (less_coefficient write.coefs few falling);
      write_at = λ part. ap (λ f. parts_of (at_place f place) part) (write_is false true (ap is_some plain) falling)
          ∙ loop_part part (less_counts write.coefs falling);
      read_at = λ part. ap (part_of part) (read_is false true (ap is_some plain) falling)
          ∙ widened_part context less part
          ∙ product_part part (negsuc 0) (record read { constant = read.constant -ℤ write.constant })
          ∙ ap (λ z. z *ℤ negsuc 0) (moved_part write read part);
    }

  pub told_same : stride_of write ≡ None → falls write ≡ false → IsToldSame context write read place quotient
  told_same plain other = record {
    write_at = λ part. ap (λ f. parts_of (at_place f place) part) (write_is false false (ap is_some plain) other);
    read_at = λ part. ap (part_of part) (read_is false false (ap is_some plain) other) ∙ widened_part context read part;
  }
