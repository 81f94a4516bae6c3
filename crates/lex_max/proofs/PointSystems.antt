-- The systems of a Writer leaf over the context alone: its point is in the domain, writes the cell and stands before
-- the read.
--
-- Each system adds rows of which one says that a row of the point is below 0. The terms that show that row and this one
-- add up to a negative number.
use Rattle.std.proofs.Common.{◌≡◌, ◌+◌, ◌^◌, ◌<◌, ℕ, pos, ◌+ℤ◌, ◌<ℤ◌, List}
use Rattle.std.proofs.Common.{[], ◌∷◌, ◌++◌, length, ap, ◌∙◌, subst, arith, length-append}
use Rattle.std.specs.Prelude.{Some, All, slice_get}
use Rattle.std.specs.Option.{option_map_or}
use Rattle.std.proofs.lemmas.Int.{ints}
use Rattle.std.proofs.lemmas.List.Elements.{All-append, All-weaker}
use Rattle.std.proofs.lemmas.Option.{slice_get_within}
use Rattle.affine_core.specs.declared.form.Form.{Form}
use Rattle.int_polyhedra.specs.declared.system.Proof.TheVariants.{Sum}
use Rattle.int_polyhedra.specs.declared.system.System.{System}
use Rattle.int_polyhedra.specs.declared.system.Term.{Term}
use Rattle.int_polyhedra.specs.Systems.{AreOver}
use Rattle.tree_graphs.specs.Facts.{IsFact}
use Rattle.lex_max.specs.Leaves.{IsMadeFrom}
use Rattle.tree_graphs.specs.Paths.{term_of}
use Rattle.tree_graphs.proofs.EdgeSums.{over_append, weight_few}
use Rattle.tree_graphs.proofs.RowBounds.{are_made, forms_append, most_made, AreMade, AreSmall}
use Rattle.plain_data.proofs.Lists.{slice_get-append_right}
use Rattle.tree_sums.specs.Made.{parts_of}
use Rattle.tree_sums.specs.Parts.{Part, the_constant, the_coefficient, part_of, row_part, weight, IsWithin}
use Rattle.tree_sums.specs.Shown.{RowParts, Shows}
use Rattle.tree_sums.proofs.SumAlgebra.{combines}
use Rattle.tree_sums.proofs.NegativeSums.{shown_refutes}
use Rattle.tree_sums.proofs.Weights.{weight_sum}
use Rattle.tree_sums.proofs.Within.{IsWithin-weaker}
use Rattle.source_tree.specs.Checked.{IsRefuted}
use Rattle.source_tree.specs.Rows.{RowExpr}
use Rattle.source_tree.specs.Systems.{Context, with_rows}

-- Proofs one after the other

-- two rows of which one says that the other is below 0
pub record Opposes (a b : RowParts) : Type 0 where
  pub negative : (a the_constant +ℤ b the_constant) <ℤ pos 0
  pub no_variable : (i : ℕ) → a (the_coefficient i) +ℤ b (the_coefficient i) ≡ pos 0

-- terms that show a row, and the added row that opposes it
pub added_refuted : (c : Context) (context : System) (extra : List RowExpr) (j : ℕ) (last : RowExpr) (ts : List Term)
    (a : RowParts) → IsMadeFrom c context → AreSmall c.vars extra
    → slice_get extra j ≡ Some last → IsFact context (2 ^ 24) a ts → Opposes a (parts_of last)
    → IsRefuted (with_rows c extra) (Sum (ts ++ term_of (length context.rows + j) ∷ []))
added_refuted c context extra j last ts a made small is fact opposed =
    let m : AreMade c.vars extra = are_made c.vars extra small in
    let whole : List Form = context.rows ++ m.forms in
    let row : ℕ = length context.rows + j in
    let inside : j < length extra = slice_get_within extra j last is in
    let here : row < length whole = omega (arith, length-append context.rows m.forms, m.count, inside) in
    let over : AreOver c.vars whole = over_append c.vars context.rows m.forms made.over m.over in
    let within : All (IsWithin most_made) whole
    = All-append (IsWithin most_made) context.rows m.forms
    (All-weaker (IsWithin (2 ^ 41)) (IsWithin most_made)
    (λ f h. IsWithin-weaker (2 ^ 41) most_made f (omega arith) h) context.rows made.within) m.within in
    let part_is : (part : Part) → row_part whole part row ≡ parts_of last part
    = λ part. ap (λ o. option_map_or (part_of part) o (pos 0)) (slice_get-append_right context.rows m.forms j) ∙ m.parts j part
    ∙ ap (λ o. option_map_or (λ e. parts_of e part) o (pos 0)) is in
    let front : Shows c.vars whole ts a = (combines c.vars context.rows).behind m.forms ts a
    (subst (λ v. Shows v context.rows ts a) made.vars fact.shows) in
    let both = (combines c.vars whole).sum ts (term_of row ∷ []) a (λ part. row_part whole part row) front
    ((combines c.vars whole).own row here) in
    record {
      rows = whole;
      are_made = forms_append c.vars c.rows extra context.rows m.forms made.rows m.are;
      refuted = shown_refutes c.vars most_made whole (ts ++ term_of row ∷ [])
          (λ part. a part +ℤ row_part whole part row) over within
          (weight_few (weight (ts ++ term_of row ∷ [])) (omega (arith, weight_sum ts (term_of row ∷ []), fact.light)))
          both
          (record {
            negative = omega (arith, ints, part_is the_constant, opposed.negative);
            no_variable = λ i l. omega (arith, ints, part_is (the_coefficient i), opposed.no_variable i);
          });
    }
