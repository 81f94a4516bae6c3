-- No point comes to the no of a test that says yes by its form alone.
--
-- The divisor divides each coefficient of the test's form, and its constant. The two rows of the test's no say that the form
-- lies strictly between two next multiples of the divisor. These two are refuted together, in any context that has them.
use Rattle.std.proofs.Common.{◌≡◌, ◌+◌, ◌%◌, ◌^◌, ◌≤◌, ◌<◌, ℕ, pos, negsuc, ◌+ℤ◌, ◌*ℤ◌, List, [], ◌∷◌}
use Rattle.std.proofs.Common.{true, ap, ◌∙◌, subst, arith, eqb-true}
use Rattle.std.specs.Prelude.{Some, All, IsTrue, ◌&&◌, slice_get, unsigned_abs}
use Rattle.std.specs.List.{list_all}
use Rattle.std.proofs.lemmas.Bool.{and_parts}
use Rattle.std.proofs.lemmas.List.Elements.{All-weaker}
use Rattle.std.proofs.lemmas.Option.{slice_get_within}
use Rattle.affine_core.specs.declared.form.Form.{Form}
use Rattle.affine_core.specs.Affine.{variable_form, widened_form}
use Rattle.int_polyhedra.specs.Rules.{Refutes}
use Rattle.tree_sums.specs.Parts.{Part, the_constant, the_coefficient, part_of, row_part, IsWithin}
use Rattle.tree_sums.specs.Shown.{RowParts}
use Rattle.tree_sums.proofs.SmallRows.{widened_part}
use Rattle.tree_sums.proofs.Within.{IsWithin-weaker}
use Rattle.source_tree.specs.Checked.{AreRefuted}
use Rattle.source_tree.specs.Rows.{RowExpr, Take, Plus, minus, number, one_less}
use Rattle.source_tree.specs.Systems.{Context, dead_systems, multiple}
use Rattle.source_tree.specs.Walk.{divides}
use Rattle.stride_trees.proofs.AlwaysMultiple.{always_refutes}
use Rattle.tree_cuts.proofs.Indivisible.{number_part}
use Rattle.stride_trees.proofs.RoundedRows.{rounded_proof}
use Rattle.stride_trees.specs.Contexts.{IsNoIn}
use Rattle.stride_trees.specs.Divisions.{always_divides}
use Rattle.stride_trees.specs.declared.divisions.Division.{Division}
use Rattle.stride_trees.proofs.Lists.{forms_count, row_made}
use Rattle.stride_trees.proofs.NeverDivided.{coefficient_divided, row_size}

module _ (test : Division) (m : ℕ) (divisor : test.divisor ≡ pos m) (positive : 0 < m) (small : m ≤ 2 ^ 32)
    (always : IsTrue (always_divides test)) (row here quotient : ℕ) (c : Context) (h : IsNoIn test row quotient here c) where
  abbrev form : Form
  form = widened_form quotient test.form

  abbrev low : RowExpr
  low = one_less (minus (Take form) (multiple (pos m) quotient))

  abbrev high : RowExpr
  high = minus (one_less (Plus (multiple (pos m) quotient) (number (pos m)))) (Take form)

  abbrev rows : List Form
  rows = h.small.rows

  abbrev f : RowParts
  f part = part_of part form

  abbrev q : RowParts
  q part = part_of part (variable_form (quotient + 1) quotient)

  first : slice_get c.rows row ≡ Some low
  first = h.first ∙ ap (λ d. Some (one_less (minus (Take form) (multiple d quotient)))) divisor

  second : slice_get c.rows (row + 1) ≡ Some high
  second =
      h.second ∙ ap (λ d. Some (minus (one_less (Plus (multiple d quotient) (number d))) (Take form))) divisor

  low_row : (part : Part) → row_part rows part row
      ≡ (f part +ℤ ((q part *ℤ pos m) *ℤ negsuc 0)) +ℤ number_part (negsuc 0) part
  low_row part = row_made c.vars c.rows rows row low part h.small.made first

  high_row : (part : Part) → row_part rows part (row + 1)
      ≡ (((q part *ℤ pos m) +ℤ number_part (pos m) part) +ℤ number_part (negsuc 0) part) +ℤ (f part *ℤ negsuc 0)
  high_row part = row_made c.vars c.rows rows (row + 1) high part h.small.made second

  within : All (IsWithin (2 ^ 90)) rows
  within =
      All-weaker (IsWithin (2 ^ 50)) (IsWithin (2 ^ 90)) (λ f k. IsWithin-weaker (2 ^ 50) (2 ^ 90) f (omega arith) k) rows
      h.small.within

  says : (list_all (λ c. divides c (pos m)) test.form.coefs ≡ true) × (divides test.form.constant (pos m) ≡ true)
  says = and_parts (list_all (λ c. divides c (pos m)) test.form.coefs) (divides test.form.constant (pos m))
      (subst (λ d. IsTrue (list_all (λ c. divides c d) test.form.coefs && divides test.form.constant d)) divisor always)

  divided : (part : Part) → unsigned_abs (f part) % m ≡ 0
  divided the_constant =
      ap (λ z. unsigned_abs z % m) (widened_part quotient test.form the_constant)
      ∙ eqb-true (unsigned_abs test.form.constant % m) 0 says.1
  divided (the_coefficient i) =
      ap (λ z. unsigned_abs z % m) (widened_part quotient test.form (the_coefficient i))
      ∙ coefficient_divided m test.form.coefs i positive says.0

  pub nowhere : AreRefuted (dead_systems c) (rounded_proof (pos m) row (row + 1) here ∷ [])
  nowhere = (
    record {
      rows = rows;
      are_made = h.small.made;
      refuted = subst (λ k. Refutes c.vars rows (rounded_proof (pos m) row (row + 1) k)) h.small.count
          (always_refutes c.vars rows m row f q h.small.over within
          (record {
            positive = positive;
            small = small;
            low_small = λ part. row_size (2 ^ 90) rows row part within;
            here_in = omega (
              arith,
              slice_get_within c.rows (row + 1) high second,
              forms_count c.vars c.rows rows h.small.made,
            );
            low = low_row;
            high = high_row;
            divided = divided;
          }));
    },
    tt,
  )
