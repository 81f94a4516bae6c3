-- Facts of a context, summed and weakened.
--
-- A fact is a list of terms whose sum is a row less a number that isn't below 0, with multipliers that add up to
-- so much. Two facts give that of the sum of their rows, with both lists one behind the other; a fact of a row is
-- one of any row with a greater constant; and it stays one where rows are added behind the context, since the
-- terms name the rows by their numbers. Nothing is said of rows that are taken away.
use Rattle.std.proofs.Common.{◌≡◌, ◌+◌, ◌<◌, ◌≤◌, ℕ, pos, ◌+ℤ◌, ◌≤ℤ◌, List, [], ◌∷◌, ◌++◌, length, sym, ap, ◌∙◌, subst, arith}
use Rattle.std.specs.Prelude.{Some, slice_get, slice_index_or}
use Rattle.std.specs.Option.{option_map_or}
use Rattle.std.proofs.lemmas.Int.{ints}
use Rattle.std.proofs.lemmas.Option.{slice_get_within}
use Rattle.affine_core.specs.declared.form.Form.{Form}
use Rattle.tree_graphs.specs.Facts.{form_parts, IsFact, RowTells}
use Rattle.tree_graphs.specs.Paths.{term_of}
use Rattle.int_polyhedra.specs.declared.system.System.{System}
use Rattle.int_polyhedra.specs.declared.system.Term.{Term}
use Rattle.tree_sums.specs.Parts.{Part, part_of, row_part, the_constant, the_coefficient}
use Rattle.tree_sums.specs.Shown.{RowParts}
use Rattle.tree_sums.proofs.SumAlgebra.{combines}
use Rattle.tree_sums.proofs.Weights.{weight_sum}

pub fact_sum : (context : System) (m n : ℕ) (a b : RowParts) (ts us : List Term) → IsFact context m a ts
    → IsFact context n b us → IsFact context (m + n) (λ part. a part +ℤ b part) (ts ++ us)
fact_sum context m n a b ts us h k = record {
  shows = (combines context.vars context.rows).sum ts us a b h.shows k.shows;
  light = omega (arith, weight_sum ts us, h.light, k.light);
}

pub fact_weaker : (context : System) (m n : ℕ) (a b : RowParts) (ts : List Term) → m ≤ n
    → a the_constant ≤ℤ b the_constant → ((i : ℕ) → a (the_coefficient i) ≡ b (the_coefficient i))
    → IsFact context m a ts → IsFact context n b ts
fact_weaker context m n a b ts le low same h = record {
  shows = (combines context.vars context.rows).weaker ts a b h.shows low (λ i l. same i);
  light = omega (arith, h.light, le);
}

pub fact_same : (context : System) (m : ℕ) (a b : RowParts) (ts : List Term) → ((part : Part) → a part ≡ b part)
    → IsFact context m a ts → IsFact context m b ts
fact_same context m a b ts same h = fact_weaker context m m a b ts (omega arith)
    (omega (arith, ints, same the_constant)) (λ i. same (the_coefficient i)) h

-- rows added behind change nothing
pub fact_behind : (context more : System) (m : ℕ) (a : RowParts) (ts : List Term) (row : Form) → more
    ≡ record context { rows = context.rows ++ row ∷ [] } → IsFact context m a ts → IsFact more m a ts
fact_behind context more m a ts row is h =
    subst (λ more. IsFact more m a ts) (sym is)
    (record { shows = (combines context.vars context.rows).behind (row ∷ []) ts a h.shows; light = h.light })

-- a row shows each form that it tells to be at least 0
pub row_fact : (context : System) (k : ℕ) (row form : Form) → slice_get context.rows k ≡ Some row → RowTells form row
    → IsFact context 65536 (form_parts form) (term_of k ∷ [])
row_fact context k row form is tells =
    let here : k < length context.rows = slice_get_within context.rows k row is in
    let part_is : (part : Part) → row_part context.rows part k ≡ part_of part row =
    λ part. ap (λ o. option_map_or (part_of part) o (pos 0)) is in
    fact_weaker context 65536 65536 (λ part. row_part context.rows part k) (form_parts form) (term_of k ∷ []) (omega arith)
    (omega (arith, ints, part_is the_constant, tells.1))
    (λ i. part_is (the_coefficient i) ∙ ap (λ cs. slice_index_or cs i (pos 0)) tells.0)
    (record { shows = (combines context.vars context.rows).own k here; light = omega arith })
