-- How far from 0 the values of forms are, and what that says of a tree.
use Rattle.std.specs.Prelude.{◌≡◌, ◌≤◌, ◌+◌, ◌*◌, ℕ, ℤ, List, None, Some, All, IsTrue, sum_by, unsigned_abs}
use Rattle.affine_core.specs.declared.form.Form.{Form}
use Rattle.affine_core.specs.Within.{fits_64_bits, value_in_128_bits}
use Rattle.sanlp.specs.declared.nest.Point.{Point}
use Rattle.source_tree.specs.declared.tree.Found.TheVariants.{At}
use Rattle.source_tree.specs.declared.tree.Tree.{Tree}
use Rattle.source_tree.specs.Gives.{gives}
use Rattle.source_tree.specs.Walk.{outcome_of}

-- no value is further from 0 than the limit
abbrev pub AreWithin : ℕ → List ℤ → Type 0
AreWithin limit at = All (λ v. unsigned_abs v ≤ limit) at

-- How far from 0 a sum comes at most that is no further than `size` from it, when the products of these coefficients and
-- of values within the limit are added.
abbrev pub greatest_sum : ℕ → ℕ → List ℤ → ℕ
greatest_sum limit size coefs = size + limit * sum_by unsigned_abs coefs

-- how far from 0 the form's value is at most, at values within the limit
abbrev pub greatest_size : ℕ → Form → ℕ
greatest_size limit form = greatest_sum limit (unsigned_abs form.constant) form.coefs

-- At values within the limit the form's value stays within 128 bits, and is no further from 0 than the bound.
abbrev pub IsValueBound : ℕ → Form → ℕ → Type 0
IsValueBound limit form bound =
    (at : List ℤ) → AreWithin limit at
    → (v : ℤ) × (value_in_128_bits form at ≡ Some v) × (unsigned_abs v ≤ bound)

-- at values within the limit the form's value stays within 128 bits
abbrev pub HasValues : ℕ → Form → Type 0
HasValues limit form =
    (at : List ℤ) → AreWithin limit at → (v : ℤ) × (value_in_128_bits form at ≡ Some v)

-- At loop values within the limit the tree doesn't overflow, unless the point that it gives leaves 64 bits.
abbrev pub NeverOverflows : ℕ → Tree → Type 0
NeverOverflows limit tree =
    (at : List ℤ) → AreWithin limit at
    → ((point : Point) → gives tree at ≡ At point → All (λ v. IsTrue (fits_64_bits v)) point.at)
    → outcome_of tree at ≡ None → ⊥
