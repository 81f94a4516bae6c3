-- Limited numbers are moderate, and so are their differences, less 1. So are bounds of loops, and how far they reach
-- above a lower form.
--
-- Limited numbers have a magnitude below 2^31, a loop's bound may be 1 lower, and moderate numbers have a magnitude of
-- 2^32 at most. Each fact is arithmetic on a number between two others, and is then carried through the constant and
-- the coefficients of a form. Not every difference of moderate numbers is moderate: the facts are of forms as they are
-- written and of what is made of them once.
use Rattle.std.proofs.Common.{ℕ, zero, suc, replicate, ℤ, pos, negsuc, ◌-ℤ◌, ◌≤ℤ◌, List, []}
use Rattle.std.proofs.Common.{◌∷◌, refl, arith}
use Rattle.std.specs.Prelude.{IsTrue, slice_set}
use Rattle.std.specs.Int.RustNames.{int_le}
use Rattle.std.specs.List.{list_all}
use Rattle.std.specs.Cmp.Derive.{both_true}
use Rattle.std.proofs.lemmas.Bool.{and_parts}
use Rattle.std.proofs.lemmas.Int.{ints}
use Rattle.affine_core.proofs.Integers.{int_le-true, le-int_le}
use Rattle.sanlp.specs.Cells.{natural}
use Rattle.sanlp.specs.WellFormed.{is_moderate}
use Rattle.loop_bind.specs.declared.affine.Affine.{Affine}
use Rattle.loop_bind.specs.Forms.{constant_form, multiple_form, is_limited_number, is_limited, difference_form}
use Rattle.loop_bind.specs.Forms.{lowered_form, termwise}
use Rattle.loop_bind.specs.Ranges.{is_moderate_form, is_bound_number, is_bound_form}

-- a number between these two
abbrev Between : ℤ → ℤ → ℤ → Type 0
Between low high v = (low ≤ℤ v) × (v ≤ℤ high)

limited_between : (v : ℤ) → IsTrue (is_limited_number v) → Between (negsuc 2147483646) (pos 2147483647) v
limited_between v h =
    let parts = and_parts (int_le (negsuc 2147483646) v) (int_le v (pos 2147483647)) h in
    (int_le-true (negsuc 2147483646) v parts.0, int_le-true v (pos 2147483647) parts.1)

moderate_from : (v : ℤ) → Between (negsuc 4294967295) (pos 4294967296) v → IsTrue (is_moderate v)
moderate_from v h = both_true (le-int_le (negsuc 4294967295) v h.0) (le-int_le v (pos 4294967296) h.1)

pub moderate_number : (v : ℤ) → IsTrue (is_limited_number v) → IsTrue (is_moderate v)
moderate_number v h = let b = limited_between v h in moderate_from v (omega (arith, ints), omega (arith, ints))

bound_between : (v : ℤ) → IsTrue (is_bound_number v) → Between (negsuc 2147483647) (pos 2147483647) v
bound_between v h =
    let parts = and_parts (int_le (negsuc 2147483647) v) (int_le v (pos 2147483647)) h in
    (int_le-true (negsuc 2147483647) v parts.0, int_le-true v (pos 2147483647) parts.1)

bound_from : (v : ℤ) → Between (negsuc 2147483647) (pos 2147483647) v → IsTrue (is_bound_number v)
bound_from v h = both_true (le-int_le (negsuc 2147483647) v h.0) (le-int_le v (pos 2147483647) h.1)

bound_number : (v : ℤ) → IsTrue (is_limited_number v) → IsTrue (is_bound_number v)
bound_number v h = let b = limited_between v h in bound_from v (omega (arith, ints), omega (arith, ints))

bound_less : (v : ℤ) → IsTrue (is_limited_number v) → IsTrue (is_bound_number (v -ℤ pos 1))
bound_less v h = let b = limited_between v h in bound_from (v -ℤ pos 1) (omega (arith, ints), omega (arith, ints))

pub moderate_bound_number : (v : ℤ) → IsTrue (is_bound_number v) → IsTrue (is_moderate v)
moderate_bound_number v h = let b = bound_between v h in moderate_from v (omega (arith, ints), omega (arith, ints))

pub moderate_reach_number : (v w : ℤ) → IsTrue (is_bound_number v) → IsTrue (is_limited_number w)
    → IsTrue (is_moderate (v -ℤ w))
moderate_reach_number v w h k =
    let b = bound_between v h in
    let c = limited_between w k in
    moderate_from (v -ℤ w) (omega (arith, ints), omega (arith, ints))

-- a number that is taken from none is moderate too
pub moderate_negated : (v : ℤ) → IsTrue (is_limited_number v) → IsTrue (is_moderate ((pos 0 -ℤ pos 0) -ℤ v))
moderate_negated v h =
    let b = limited_between v h in moderate_from ((pos 0 -ℤ pos 0) -ℤ v) (omega (arith, ints), omega (arith, ints))

pub moderate_gap : (v w : ℤ) → IsTrue (is_limited_number v) → IsTrue (is_limited_number w)
    → IsTrue (is_moderate (v -ℤ w))
moderate_gap v w h k =
    let b = limited_between v h in
    let c = limited_between w k in
    moderate_from (v -ℤ w) (omega (arith, ints), omega (arith, ints))

moderate_gap_less : (v w : ℤ) → IsTrue (is_limited_number v) → IsTrue (is_limited_number w)
    → IsTrue (is_moderate ((v -ℤ w) -ℤ pos 1))
moderate_gap_less v w h k =
    let b = limited_between v h in
    let c = limited_between w k in
    moderate_from ((v -ℤ w) -ℤ pos 1) (omega (arith, ints), omega (arith, ints))

pub moderate_numbers : (vs : List ℤ) → IsTrue (list_all is_limited_number vs) → IsTrue (list_all is_moderate vs)
moderate_numbers [] h = refl
moderate_numbers (v ∷ vs) h =
    let parts = and_parts (is_limited_number v) (list_all is_limited_number vs) h in
    both_true (moderate_number v parts.0) (moderate_numbers vs parts.1)

pub moderate_gaps : (vs ws : List ℤ) → IsTrue (list_all is_limited_number vs) → IsTrue (list_all is_limited_number ws)
    → IsTrue (list_all is_moderate (termwise ◌-ℤ◌ vs ws))
moderate_gaps [] ws h k = refl
moderate_gaps (v ∷ vs) [] h k = refl
moderate_gaps (v ∷ vs) (w ∷ ws) h k =
    let p = and_parts (is_limited_number v) (list_all is_limited_number vs) h in
    let q = and_parts (is_limited_number w) (list_all is_limited_number ws) k in
    both_true (moderate_gap v w p.0 q.0) (moderate_gaps vs ws p.1 q.1)

module _ (f : Affine) (h : IsTrue (is_limited f)) where
  constant_limited : IsTrue (is_limited_number f.constant)
  constant_limited = (and_parts (is_limited_number f.constant) (list_all is_limited_number f.coefs) h).0

  coefs_limited : IsTrue (list_all is_limited_number f.coefs)
  coefs_limited = (and_parts (is_limited_number f.constant) (list_all is_limited_number f.coefs) h).1

  pub moderate_form : IsTrue (is_moderate_form f)
  moderate_form = both_true (moderate_number f.constant constant_limited) (moderate_numbers f.coefs coefs_limited)

  pub bound_form : IsTrue (is_bound_form f)
  bound_form = both_true (bound_number f.constant constant_limited) coefs_limited

  pub bound_lowered : IsTrue (is_bound_form (lowered_form f))
  bound_lowered = both_true (bound_less f.constant constant_limited) coefs_limited

module _ (f g : Affine) (h : IsTrue (is_limited f)) (k : IsTrue (is_limited g)) where
  pub moderate_difference : IsTrue (is_moderate_form (difference_form f g))
  moderate_difference =
      both_true (moderate_gap f.constant g.constant (constant_limited f h) (constant_limited g k))
      (moderate_gaps f.coefs g.coefs (coefs_limited f h) (coefs_limited g k))

  -- so is a difference with 1 taken off
  pub moderate_lowered_difference : IsTrue (is_moderate_form (lowered_form (difference_form f g)))
  moderate_lowered_difference =
      both_true (moderate_gap_less f.constant g.constant (constant_limited f h) (constant_limited g k))
      (moderate_gaps f.coefs g.coefs (coefs_limited f h) (coefs_limited g k))

module _ (f : Affine) (h : IsTrue (is_bound_form f)) where
  pub bound_constant : IsTrue (is_bound_number f.constant)
  bound_constant = (and_parts (is_bound_number f.constant) (list_all is_limited_number f.coefs) h).0

  bound_coefs : IsTrue (list_all is_limited_number f.coefs)
  bound_coefs = (and_parts (is_bound_number f.constant) (list_all is_limited_number f.coefs) h).1

  pub moderate_bound : IsTrue (is_moderate_form f)
  moderate_bound = both_true (moderate_bound_number f.constant bound_constant) (moderate_numbers f.coefs bound_coefs)

  -- how far an upper form reaches above a lower one
  pub moderate_reach : (g : Affine) → IsTrue (is_limited g) → IsTrue (is_moderate_form (difference_form f g))
  moderate_reach g k =
      both_true (moderate_reach_number f.constant g.constant bound_constant (constant_limited g k))
      (moderate_gaps f.coefs g.coefs bound_coefs (coefs_limited g k))

pub bound_forms : (fs : List Affine) → IsTrue (list_all is_limited fs) → IsTrue (list_all is_bound_form fs)
bound_forms [] h = refl
bound_forms (f ∷ fs) h =
    let parts = and_parts (is_limited f) (list_all is_limited fs) h in
    both_true (bound_form f parts.0) (bound_forms fs parts.1)

-- a multiple of a loop's variable
limited_zeros : (room : ℕ) → IsTrue (list_all is_limited_number (replicate room (pos 0)))
limited_zeros zero = refl
limited_zeros (suc room) = limited_zeros room

pub limited_multiples : (room : ℕ) (k : ℤ) (v : ℕ) → IsTrue (is_limited_number k)
    → IsTrue (list_all is_limited_number (slice_set (replicate room (pos 0)) v k))
limited_multiples zero k v h = refl
limited_multiples (suc room) k zero h = both_true h (limited_zeros room)
limited_multiples (suc room) k (suc v) h = limited_multiples room k v h

pub limited_multiple : (k : ℤ) (v : ℕ) → IsTrue (is_limited_number k) → IsTrue (is_limited (multiple_form k v))
limited_multiple k v h = limited_multiples 6 k v h

-- the last value of a loop up to a limited extent
last_between : (e : ℤ) → IsTrue (is_limited_number e)
    → Between (negsuc 2147483647) (pos 2147483647) (pos (natural e) -ℤ pos 1)
last_between (pos n) h = let b = limited_between (pos n) h in (omega (arith, ints), omega (arith, ints))
last_between (negsuc n) h = (omega (arith, ints), omega (arith, ints))

pub bound_last_number : (e : ℤ) → IsTrue (is_limited_number e) → IsTrue (is_bound_number (pos (natural e) -ℤ pos 1))
bound_last_number e h = bound_from (pos (natural e) -ℤ pos 1) (last_between e h)

pub bound_last : (e : ℤ) → IsTrue (is_limited_number e)
    → IsTrue (is_bound_form (constant_form (pos (natural e) -ℤ pos 1)))
bound_last e h = both_true (bound_last_number e h) refl
