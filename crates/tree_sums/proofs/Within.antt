-- Forms none of whose numbers is greater than a bound, by their parts and within a greater bound.
--
-- A form's parts are its constant and its coefficients, and past its last coefficient each part is 0. So a bound on all
-- parts is a bound on all numbers and the other way round, and zeros behind the coefficients keep it: how many
-- variables a form has doesn't matter. A part of a row is that of the form at the row's number, if there is one; past
-- the last row it is 0 too, and that isn't told here.
use Rattle.std.proofs.Common.{◌≡◌, ◌-◌, ◌≤◌, ℕ, zero, suc, ℤ, pos, List, [], ◌∷◌, ◌++◌, length, replicate, Some}
use Rattle.std.proofs.Common.{slice_get, refl, ap, arith}
use Rattle.std.specs.Prelude.{All, slice_index_or, unsigned_abs}
use Rattle.std.specs.Option.{option_map_or}
use Rattle.std.proofs.lemmas.List.Elements.{All-append, All-from_get_or, All-head, All-replicate, All-tail, All-weaker}
use Rattle.std.proofs.lemmas.List.{length-append, length-replicate}
use Rattle.plain_data.proofs.Lists.{get_or-append_replicate}
use Rattle.affine_core.specs.declared.form.Form.{Form}
use Rattle.affine_core.specs.Affine.{widened_form}
use Rattle.tree_sums.specs.Parts.{Part, the_constant, the_coefficient, part_of, row_part, IsWithin}

pub IsWithin-weaker : (a b : ℕ) (f : Form) → a ≤ b → IsWithin a f → IsWithin b f
IsWithin-weaker a b f le h = record {
  constant = omega (arith, h.constant, le);
  coefs = All-weaker (λ c. unsigned_abs c ≤ a) (λ c. unsigned_abs c ≤ b) (λ c k. omega (arith, k, le)) f.coefs h.coefs;
}

pub IsWithin-widened_form : (vars bound : ℕ) (f : Form) → IsWithin bound f → IsWithin bound (widened_form vars f)
IsWithin-widened_form vars bound f h = record {
  constant = h.constant;
  coefs = All-append (λ c. unsigned_abs c ≤ bound) f.coefs (replicate (vars - length f.coefs) (pos 0)) h.coefs
      (All-replicate (λ c. unsigned_abs c ≤ bound) (vars - length f.coefs) (pos 0) (omega arith));
}

pub IsWithin-from_parts : (bound : ℕ) (f : Form) → ((part : Part) → unsigned_abs (part_of part f) ≤ bound)
    → IsWithin bound f
IsWithin-from_parts bound f h = record {
  constant = h the_constant;
  coefs = All-from_get_or (λ c. unsigned_abs c ≤ bound) f.coefs (pos 0) (λ i lt. h (the_coefficient i));
}

pub part_of-le : (bound : ℕ) (f : Form) (part : Part) → IsWithin bound f → unsigned_abs (part_of part f) ≤ bound
part_of-le bound f the_constant h = h.constant
part_of-le bound f (the_coefficient i) h = coefficient f.coefs i h.coefs where
  coefficient : (cs : List ℤ) (i : ℕ) → All (λ c. unsigned_abs c ≤ bound) cs
      → unsigned_abs (slice_index_or cs i (pos 0)) ≤ bound
  coefficient [] i h = omega arith
  coefficient (c ∷ cs) zero h = All-head (λ c. unsigned_abs c ≤ bound) c cs h
  coefficient (c ∷ cs) (suc i) h = coefficient cs i (All-tail (λ c. unsigned_abs c ≤ bound) c cs h)

pub widened_length : (cs : List ℤ) (n : ℕ) → length cs ≤ n → length (cs ++ replicate (n - length cs) (pos 0)) ≡ n
widened_length cs n le =
    omega (arith, length-append cs (replicate (n - length cs) (pos 0)), length-replicate (n - length cs) (pos 0))

pub widened_part : (vars : ℕ) (f : Form) (part : Part) → part_of part (widened_form vars f) ≡ part_of part f
widened_part vars f the_constant = refl
widened_part vars f (the_coefficient i) = get_or-append_replicate f.coefs (vars - length f.coefs) i (pos 0)

-- a part of a row, by the row at its number
pub row_part-some : (rows : List Form) (k : ℕ) (row : Form) (part : Part) → slice_get rows k ≡ Some row
    → row_part rows part k ≡ part_of part row
row_part-some rows k row part is = ap (λ o. option_map_or (part_of part) o (pos 0)) is
