-- Where a divisor divides all coefficients of a form and not its constant, no loop value is what is asked.
--
-- A Cut by the divisor M of the row `M v - form` is `v - form / M`, its constant rounded down. M times that row lies below
-- `M v - form` by what was rounded off, and that is something, since M doesn't divide the constant. So M times the Cut's
-- row and the row `form - M v` add up to a negative number. No row of a test is asked for: it holds in every context.
use Rattle.std.proofs.Common.{◌≡◌, ◌%◌, ◌^◌, ◌≤◌, ◌<◌, ℕ, ℤ, pos, ◌+ℤ◌, ◌-ℤ◌, ◌*ℤ◌, ◌≤ℤ◌, ◌<ℤ◌}
use Rattle.std.proofs.Common.{List, length, ap, ◌∙◌, arith}
use Rattle.std.specs.Prelude.{All, unsigned_abs}
use Rattle.std.proofs.lemmas.Int.{ints}
use Rattle.affine_core.proofs.Ring.{sum_times}
use Rattle.affine_core.specs.declared.form.Form.{Form}
use Rattle.int_polyhedra.specs.Rules.{Refutes}
use Rattle.int_polyhedra.specs.Steps.{floor}
use Rattle.int_polyhedra.specs.Systems.{AreOver}
use Rattle.int_polyhedra.proofs.Floor.{floor_exact}
use Rattle.tree_sums.specs.Parts.{Part, the_constant, the_coefficient, row_part, IsWithin}
use Rattle.tree_sums.specs.Shown.{RowParts}
use Rattle.tree_cuts.proofs.Floors.{divides_multiple, floor_below}
use Rattle.stride_trees.proofs.RoundedRows.{rounded_proof, rounded_refutes}

-- the rows of a cell whose form is never a multiple
pub record AreNever (rows : List Form) (d up down : ℕ) (f v : RowParts) : Type 0 where
  pub positive : 0 < d
  pub small : d ≤ 2 ^ 32
  pub up_small : (part : Part) → unsigned_abs (row_part rows part up) ≤ 2 ^ 90
  pub up_in : up < length rows
  pub down_in : down < length rows
  pub above : (part : Part) → row_part rows part up ≡ (v part *ℤ pos d) -ℤ f part
  pub below : (part : Part) → row_part rows part down ≡ f part -ℤ (v part *ℤ pos d)
  pub coefficients : (i : ℕ) → unsigned_abs (f (the_coefficient i)) % d ≡ 0
  pub constant : unsigned_abs (f the_constant) % d ≡ 0 → ⊥

less : (a b : ℤ) → a ≤ℤ b → (a ≡ b → ⊥) → a <ℤ b
less a b low differs = omega (arith, ints, low, differs)

module _ (vars : ℕ) (rows : List Form) (d up down : ℕ) (f v : RowParts) (over : AreOver vars rows)
    (within : All (IsWithin (2 ^ 90)) rows) (h : AreNever rows d up down f v) where
  abbrev up_row : RowParts
  up_row part = (v part *ℤ pos d) -ℤ f part

  abbrev down_row : RowParts
  down_row part = f part -ℤ (v part *ℤ pos d)

  abbrev quotient : ℕ → ℤ
  quotient i = v (the_coefficient i) -ℤ floor (f (the_coefficient i)) d

  exact : (i : ℕ) → up_row (the_coefficient i) ≡ quotient i *ℤ pos d
  exact i =
      let a : ℤ = v (the_coefficient i) in
      let g : ℤ = floor (f (the_coefficient i)) d in
      let whole : ((a -ℤ g) +ℤ g) *ℤ pos d ≡ ((a -ℤ g) *ℤ pos d) +ℤ (g *ℤ pos d) = sum_times (a -ℤ g) g (pos d) in
      let same : (a -ℤ g) +ℤ g ≡ a = omega (arith, ints) in
      let multiple : f (the_coefficient i) ≡ g *ℤ pos d =
      floor_exact (f (the_coefficient i)) d h.positive (h.coefficients i) in
      omega (arith, ints, whole, ap (λ z. z *ℤ pos d) same, multiple)

  -- what was rounded off is something
  rounded : floor (up_row the_constant) d *ℤ pos d ≡ up_row the_constant → ⊥
  rounded e =
      let a : ℤ = v the_constant in
      let g : ℤ = floor (up_row the_constant) d in
      let sum : ((a -ℤ g) +ℤ g) *ℤ pos d ≡ ((a -ℤ g) *ℤ pos d) +ℤ (g *ℤ pos d) = sum_times (a -ℤ g) g (pos d) in
      let same : (a -ℤ g) +ℤ g ≡ a = omega (arith, ints) in
      let multiple_is : f the_constant ≡ (a -ℤ g) *ℤ pos d =
      omega (arith, ints, sum, ap (λ z. z *ℤ pos d) same, e) in
      h.constant (ap (λ z. unsigned_abs z % d) multiple_is ∙ divides_multiple (a -ℤ g) d h.positive)

  negative : ((floor (up_row the_constant) d *ℤ pos d) +ℤ down_row the_constant) <ℤ pos 0
  negative =
      let low : (floor (up_row the_constant) d *ℤ pos d) <ℤ up_row the_constant =
      less (floor (up_row the_constant) d *ℤ pos d) (up_row the_constant)
      (floor_below (up_row the_constant) d h.positive) rounded in
      omega (arith, ints, low)

  pub never_refutes : Refutes vars rows (rounded_proof (pos d) up down (length rows))
  never_refutes =
      rounded_refutes vars rows d up down up_row down_row quotient over within
      (record {
        positive = h.positive;
        small = h.small;
        up_small = h.up_small;
        up_in = h.up_in;
        down_in = h.down_in;
        above = h.above;
        below = h.below;
        exact = exact;
        opposite = λ i. omega (arith, ints);
        less = negative;
      })
