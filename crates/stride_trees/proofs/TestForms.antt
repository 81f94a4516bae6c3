-- The form of a test of divisibility: its numbers, and those of its stride, are small.
--
-- A form of the nest has numbers of at most 2^32, so what a read's subscript is from a write's has numbers of at most
-- 2^33, taken with the sign of the stride or not.
use Rattle.std.proofs.Common.{◌≡◌, ◌+◌, ◌^◌, ◌≤◌, ◌<◌, ℕ, ℤ, pos, negsuc, ◌-ℤ◌, length, Bool, true, false, cond, ap, ◌∙◌}
use Rattle.std.proofs.Common.{arith}
use Rattle.std.specs.Prelude.{Some, nat_lt, unsigned_abs}
use Rattle.std.specs.Int.RustNames.{int_lt}
use Rattle.std.proofs.lemmas.Int.{ints}
use Rattle.std.proofs.lemmas.List.Elements.{All-weaker}
use Rattle.affine_core.specs.declared.form.Form.{Form}
use Rattle.affine_core.specs.Affine.{form_product, widened_form}
use Rattle.tree_graphs.proofs.ProblemBounds.{FormFits}
use Rattle.tree_graphs.proofs.Small.{negative_over, negative_within}
use Rattle.tree_sums.specs.Parts.{IsWithin}
use Rattle.tree_sums.proofs.SmallRows.{widened_length, widened_part}
use Rattle.tree_sums.proofs.Within.{IsWithin-from_parts, part_of-le}
use Rattle.tree_cuts.specs.Class.{stride_of}
use Rattle.stride_trees.specs.Divisions.{division_of}
use Rattle.tree_cuts.proofs.Coefficients.{found_passes, found_within}

-- a stride of a form with small numbers
pub record IsStrideOf (c : ℤ) : Type 0 where
  pub at_least : 1 < unsigned_abs c
  pub small : unsigned_abs c ≤ 2 ^ 32

pub stride_is : (depth : ℕ) (write : Form) (c : ℤ) → FormFits depth write → stride_of write ≡ Some c → IsStrideOf c
stride_is depth write c fits e = record {
  at_least = size_above (unsigned_abs c) (found_passes write.coefs c e);
  small = found_within (2 ^ 32) write.coefs c fits.within.coefs e;
} where
  size_above : (m : ℕ) → nat_lt 1 m ≡ true → 1 < m
  size_above m e = grind arith

-- The form of a test

size_difference : (a b : ℤ) → unsigned_abs (a -ℤ b) ≤ unsigned_abs a + unsigned_abs b
size_difference (pos m) (pos n) = omega (arith, ints)
size_difference (pos m) (negsuc n) = omega (arith, ints)
size_difference (negsuc m) (pos n) = omega (arith, ints)
size_difference (negsuc m) (negsuc n) = omega (arith, ints)

pub moved_within : (write read : Form) → IsWithin (2 ^ 32) write → IsWithin (2 ^ 32) read
    → IsWithin (2 ^ 33) (record read { constant = read.constant -ℤ write.constant })
moved_within write read h k = record {
  constant = omega (arith, size_difference read.constant write.constant, h.constant, k.constant);
  coefs = All-weaker (λ c. unsigned_abs c ≤ 2 ^ 32) (λ c. unsigned_abs c ≤ 2 ^ 33) (λ c l. omega (arith, l)) read.coefs
      k.coefs;
}

pub record IsTestForm (vars : ℕ) (form : Form) : Type 0 where
  pub over : length form.coefs ≡ vars
  pub within : IsWithin (2 ^ 33) form

module _ (k depth vars : ℕ) (write read : Form) (c : ℤ) (h : FormFits depth write) (l : FormFits vars read) where
  abbrev moved : Form
  moved = record read { constant = read.constant -ℤ write.constant }

  by_sign : (b : Bool) → IsTestForm vars (cond b moved (form_product (negsuc 0) moved))
  by_sign true = record { over = l.over; within = moved_within write read h.within l.within }
  by_sign false = record {
    over = negative_over moved ∙ l.over;
    within =
        negative_within (2 ^ 33) moved (moved_within write read h.within l.within);
  }

  pub test_form : IsTestForm vars (division_of k write read c).form
  test_form = by_sign (int_lt (pos 0) c)

pub widened_test : (vars more : ℕ) (form : Form) → vars ≤ more → IsTestForm vars form
    → IsTestForm more (widened_form more form)
widened_test vars more form le h = record {
  over = widened_length form.coefs more (omega (arith, h.over, le));
  within = IsWithin-from_parts (2 ^ 33) (widened_form more form)
      (λ part. omega (arith, ap unsigned_abs (widened_part more form part), part_of-le (2 ^ 33) form part h.within));
}
