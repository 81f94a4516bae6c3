-- A write is none where one of its tests of divisibility says no by its form alone.
--
-- The greatest common divisor of the stride and of the coefficients of the test's form doesn't divide the form's constant. Two
-- rows of the write's subscript say that the form is a multiple of the stride, taken with its sign, and so that it is one of
-- that divisor. These two are refuted together: no row of the context is asked for, so this holds wherever the write is asked
-- for. Where the divisor is less than the stride, the form may still be a multiple of the one and not of the other.
use Rattle.std.proofs.Common.{◌≡◌, ◌+◌, ◌*◌, ◌%◌, ◌^◌, ◌≤◌, ◌<◌, ℕ, zero, suc, ℤ, pos, ◌*ℤ◌, ◌-ℤ◌, List, [], ◌∷◌}
use Rattle.std.proofs.Common.{length, slice_index_or, true, cond, sym, ap, ◌∙◌, subst, arith, eqb-true}
use Rattle.std.specs.Prelude.{All, IsTrue, unsigned_abs}
use Rattle.std.specs.List.{list_all}
use Rattle.std.proofs.lemmas.Bool.{and_parts}
use Rattle.std.proofs.lemmas.List.Elements.{All-head, All-tail}
use Rattle.std.proofs.lemmas.Nat.{mod-mul-add}
use Rattle.std.proofs.lemmas.Nat.Gcd.{le_of_dvd, mod-eq-zero_of_dvd}
use Rattle.affine_core.proofs.Ring.{times_assoc}
use Rattle.affine_core.specs.declared.form.Form.{Form}
use Rattle.affine_core.specs.Affine.{widened_form}
use Rattle.int_polyhedra.specs.declared.system.Proof.{Proof}
use Rattle.int_polyhedra.specs.Rules.{Refutes}
use Rattle.int_polyhedra.specs.Steps.{floor}
use Rattle.int_polyhedra.proofs.Floor.{floor_exact}
use Rattle.tree_sums.specs.Parts.{Part, the_constant, the_coefficient, part_of, row_part, IsWithin}
use Rattle.tree_sums.specs.Shown.{RowParts}
use Rattle.tree_sums.proofs.SmallRows.{widened_part}
use Rattle.source_tree.specs.Checked.{IsRefuted}
use Rattle.source_tree.specs.Rows.{RowExpr}
use Rattle.source_tree.specs.Systems.{Context}
use Rattle.source_tree.specs.Walk.{divides}
use Rattle.stride_trees.proofs.CommonDivisors.{coefficient_common, never_tells}
use Rattle.stride_trees.proofs.NeverMultiple.{never_refutes}
use Rattle.stride_trees.proofs.RoundedRows.{rounded_proof}
use Rattle.stride_trees.specs.CommonDivisors.{IsGreatestCommonDivisor}
use Rattle.stride_trees.specs.Contexts.{own_system, AreMadeSmall}
use Rattle.stride_trees.specs.Divisions.{division_of, never_divides}
use Rattle.stride_trees.specs.Strides.{depth_of_read, depth_of_write, read_of, write_of, IsSmallContext, IsStrided}
use Rattle.stride_trees.specs.Strides.{IsTestOf}
use Rattle.stride_trees.specs.declared.divisions.Division.{Division}
use Rattle.stride_trees.specs.declared.strides.Strides.{Strides}
use Rattle.tree_sums.proofs.Within.{part_of-le}
use Rattle.stride_trees.proofs.WriteSystems as standing
use Rattle.stride_trees.proofs.Subscript as subscript
use Rattle.stride_trees.proofs.Subscript.{AreLoopRows}

pub row_size : (bound : ℕ) (rows : List Form) (k : ℕ) (part : Part) → All (IsWithin bound) rows
    → unsigned_abs (row_part rows part k) ≤ bound
row_size bound [] k part h = omega arith
row_size bound (f ∷ rows) zero part h = part_of-le bound f part (All-head (IsWithin bound) f rows h)
row_size bound (f ∷ rows) (suc k) part h = row_size bound rows k part (All-tail (IsWithin bound) f rows h)

-- the divisor divides each coefficient, and those that aren't there are 0
pub coefficient_divided : (d : ℕ) (cs : List ℤ) (i : ℕ) → 0 < d → list_all (λ c. divides c (pos d)) cs ≡ true
    → unsigned_abs (slice_index_or cs i (pos 0)) % d ≡ 0
coefficient_divided d [] i positive h =
    let nothing : 0 ≡ 0 * d + 0 = omega arith in ap (λ n. n % d) nothing ∙ mod-mul-add 0 d 0 positive
coefficient_divided d (c ∷ cs) zero positive h =
    eqb-true (unsigned_abs c % d) 0 (and_parts (divides c (pos d)) (list_all (λ c. divides c (pos d)) cs) h).0
coefficient_divided d (c ∷ cs) (suc i) positive h =
    coefficient_divided d cs i positive (and_parts (divides c (pos d)) (list_all (λ c. divides c (pos d)) cs) h).1

module _ (s : Strides) (d : Division) (strided : IsStrided s) (test : IsTestOf s d)
    (never : IsTrue (never_divides d)) (here more : ℕ) (c : Context) (small : IsSmallContext c here)
    (reader : depth_of_read s ≤ c.vars) (order : List RowExpr)
    (order_made : AreMadeSmall (c.vars + depth_of_write s) order) (count : length order ≡ more) (proof : Proof)
    (row above below all : ℕ) (row_is : row ≡ here + (length s.write.statement.now.rows + 2 * d.subscript))
    (above_is : above ≡ cond d.rises row (row + 1)) (below_is : below ≡ cond d.rises (row + 1) row)
    (all_is : all
    ≡ here + (length s.write.statement.now.rows + (2 * length s.write.access.now.subscripts + more)))
    (common : ℕ) (some : 0 < common)
    (greatest : IsGreatestCommonDivisor (unsigned_abs d.divisor) d.form.coefs common)
    (proof_is : proof ≡ rounded_proof (pos common) above below all) where
  abbrev m : ℕ
  m = unsigned_abs test.stride

  abbrev of_subscript : Division
  of_subscript = division_of d.subscript test.write test.read test.stride

  abbrev form : Form
  form = of_subscript.form

  abbrev own : ℕ
  own = here + (length s.write.statement.now.rows + 2 * d.subscript)

  abbrev up : ℕ
  up = cond d.rises own (own + 1)

  abbrev down : ℕ
  down = cond d.rises (own + 1) own

  abbrev number_of_rows : ℕ → ℕ
  number_of_rows k = here + (length s.write.statement.now.rows + (2 * length s.write.access.now.subscripts + k))

  abbrev whole : List Form
  whole = standing.whole s.nest.now (read_of s) (write_of s) s.level c here strided.strided small reader order order_made

  abbrev f : RowParts
  f part = part_of part (widened_form 0 form)

  abbrev quotient : RowParts
  quotient = subscript.v s.nest.now (read_of s) (write_of s) s.level c here d.subscript test.write test.read test.stride
      strided.strided small reader test.write_is test.read_is test.stride_is 0 order order_made

  -- the stride is so many times the divisor
  abbrev times : ℤ
  times = floor (pos m) common

  abbrev v : RowParts
  v part = quotient part *ℤ times

  rows : AreLoopRows whole m up down f quotient
  rows = subscript.subscript_rows s.nest.now (read_of s) (write_of s) s.level c here d.subscript test.write test.read
      test.stride strided.strided small reader test.write_is test.read_is test.stride_is 0 order order_made d.rises
      (sym (ap (λ (t : Division). t.rises) test.is))

  of_form : IsGreatestCommonDivisor m form.coefs common
  of_form = subst (λ (t : Division). IsGreatestCommonDivisor (unsigned_abs t.divisor) t.form.coefs common) test.is greatest

  over_stride : pos m ≡ times *ℤ pos common
  over_stride = floor_exact (pos m) common some (mod-eq-zero_of_dvd common of_form.0.0)

  multiple : (part : Part) → v part *ℤ pos common ≡ quotient part *ℤ pos m
  multiple part =
      times_assoc (quotient part) times (pos common) ∙ ap (λ z. quotient part *ℤ z) (sym over_stride)

  small_divisor : common ≤ 2 ^ 32
  small_divisor = let le : common ≤ m = le_of_dvd rows.positive of_form.0.0 in omega (arith, le, rows.small)

  not_constant : unsigned_abs form.constant % common ≡ 0 → ⊥
  not_constant e =
      never_tells of_subscript common rows.positive of_form some (ap never_divides (sym test.is) ∙ never) e

  own_proof : proof ≡ rounded_proof (pos common) up down (number_of_rows (length order))
  own_proof =
      proof_is
      ∙ ap (λ up. rounded_proof (pos common) up below all) (above_is ∙ ap (λ row. cond d.rises row (row + 1)) row_is)
      ∙ ap (λ down. rounded_proof (pos common) up down all) (below_is ∙ ap (λ row. cond d.rises (row + 1) row) row_is)
      ∙ ap (rounded_proof (pos common) up down) (all_is ∙ ap number_of_rows (sym count))

  pub never_refuted : IsRefuted (own_system s c order) proof
  never_refuted =
      let small_whole =
      standing.whole_small s.nest.now (read_of s) (write_of s) s.level c here strided.strided small reader order
      order_made in
      let whole_count =
      standing.whole_count s.nest.now (read_of s) (write_of s) s.level c here strided.strided small reader order
      order_made in
      let vars : ℕ = c.vars + depth_of_write s in
      record {
        rows = whole;
        are_made = standing.own_made s.nest.now (read_of s) (write_of s) s.level c here strided.strided small reader
            order order_made;
        refuted = subst (Refutes vars whole) (sym own_proof)
            (subst (λ k. Refutes vars whole (rounded_proof (pos common) up down k)) whole_count
            (never_refutes vars whole common up down f v small_whole.over small_whole.within
            (record {
              positive = some;
              small = small_divisor;
              up_small = λ part. row_size (2 ^ 90) whole up part small_whole.within;
              up_in = rows.up_in;
              down_in = rows.down_in;
              above = λ part. rows.above part ∙ ap (λ z. z -ℤ f part) (sym (multiple part));
              below = λ part. rows.below part ∙ ap (λ z. f part -ℤ z) (sym (multiple part));
              coefficients = λ i. ap (λ z. unsigned_abs z % common) (widened_part 0 form (the_coefficient i))
                  ∙ coefficient_common common form.coefs i of_form.0.1;
              constant = λ e. not_constant
                  (ap (λ z. unsigned_abs z % common) (sym (widened_part 0 form the_constant)) ∙ e);
            })));
      }
