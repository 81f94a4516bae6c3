-- A subscript of a place that differs from the read's, refuted in the statement's own terms.
--
-- The row over the loop and the quotient, less 1, comes by a Cut from the statement's own row, less 1, and a row of the
-- subscript's test: `M v - form - 1` and `form - M q` add up to `v - q - 1`, M times. Without a stride it is the
-- statement's own row. With a stride below 0 or the coefficient -1 it is the other one of the statement's two rows.
use Rattle.std.proofs.Common.{◌≡◌, ◌+◌, ◌<◌, ℕ, ℤ, pos, negsuc, ◌+ℤ◌, ◌-ℤ◌, ◌*ℤ◌, List, [], ◌∷◌}
use Rattle.std.proofs.Common.{length, Bool, true, false, cond, refl, sym, subst, arith}
use Rattle.std.specs.Prelude.{Option, Some, None, unsigned_abs}
use Rattle.std.specs.Option.{option_map_or}
use Rattle.std.specs.Int.RustNames.{int_lt}
use Rattle.std.proofs.lemmas.Int.{ints}
use Rattle.affine_core.proofs.Ring.{difference_times}
use Rattle.affine_core.specs.declared.form.Form.{Form}
use Rattle.affine_core.specs.Affine.{variable_form, widened_form}
use Rattle.tree_sums.specs.Made.{parts_of}
use Rattle.tree_sums.specs.Parts.{Part, part_of}
use Rattle.tree_sums.specs.Shown.{RowParts}
use Rattle.source_tree.specs.Places.{at_place}
use Rattle.source_tree.specs.Rows.{RowExpr, Take, minus, one_less}
use Rattle.tree_cuts.specs.Class.{is_single, stride_of}
use Rattle.stride_trees.specs.Divisions.{division_of}
use Rattle.stride_trees.specs.Problem.{problem_read, problem_write}
use Rattle.tree_cuts.specs.Sources.{cell_source, cut_of, falls, is_turned}
use Rattle.tree_cuts.specs.declared.cuts.Source.TheVariants.{Own}
use Rattle.stride_trees.proofs.MadeRows.{IsTestRow}
use Rattle.tree_cuts.proofs.Indivisible.{number_part}
use Rattle.stride_trees.proofs.LastRows.{pair_comes, same_comes, ComesFrom}
use Rattle.stride_trees.proofs.NoSystems.{stride_rows, AreStrideRows}
use Rattle.stride_trees.proofs.Quotients.{loop_at, told_less, told_same, told_stride, IsToldLess, IsToldSame, IsToldStride}
use Rattle.tree_cuts.proofs.QuotientRows.{stride_positive}

sign_other : (c : ℤ) → 0 < unsigned_abs c → int_lt (pos 0) c ≡ false → int_lt c (pos 0) ≡ true
sign_other c some e = grind (arith, ints)

sign_same : (c : ℤ) → int_lt (pos 0) c ≡ true → int_lt c (pos 0) ≡ false
sign_same c e = grind (arith, ints)

module _ (vars here : ℕ) (context : List Form) (write read : Form) (place : List Form) (test quotient : ℕ)
    (count : length context ≡ here) (even : length write.coefs ≡ length place) (single : is_single write ≡ true)
    (tests : (c : ℤ) → stride_of write ≡ Some c
    → IsTestRow vars context test quotient (widened_form vars (division_of 0 write read c).form) (unsigned_abs c)) where
  abbrev at : RowExpr
  at = at_place write place

  abbrev told_at : RowExpr
  told_at = at_place (problem_write write) place

  abbrev told_of : Form
  told_of = problem_read vars quotient write read

  -- that the statement's subscript is above the read's, and below it; and the same over quotients
  abbrev pub own_above : RowExpr
  own_above = one_less (minus at (Take read))

  abbrev pub own_below : RowExpr
  own_below = one_less (minus (Take read) at)

  abbrev pub told_above : RowExpr
  told_above = one_less (minus told_at (Take told_of))

  abbrev pub told_below : RowExpr
  told_below = one_less (minus (Take told_of) told_at)

  abbrev Comes : Bool → Type 0
  Comes turned =
      ComesFrom vars context here (cell_source write here test) (cond turned own_below own_above) told_above
      × ComesFrom vars context here (cell_source write here (test + 1)) (cond turned own_above own_below) told_below

  module _ (c : ℤ) (is : stride_of write ≡ Some c) where
    abbrev d : ℕ
    d = unsigned_abs c

    abbrev f : RowParts
    f part = part_of part (widened_form vars (division_of 0 write read c).form)

    abbrev q : RowParts
    q part = part_of part (variable_form vars quotient)

    abbrev v : RowParts
    v = loop_at write place

    positive : 0 < d
    positive = stride_positive write c is

    told : IsToldStride vars write read place quotient
    told = told_stride vars write read place quotient even single c is

    t : IsTestRow vars context test quotient (widened_form vars (division_of 0 write read c).form) d
    t = tests c is

    -- `M v - form - 1` comes to `v - q - 1`
    above_comes : (own : RowExpr)
        → ((part : Part) → parts_of own part ≡ ((v part *ℤ pos d) -ℤ f part) +ℤ number_part (negsuc 0) part)
        → ComesFrom vars context here (cut_of c (here ∷ test ∷ [])) own told_above
    above_comes own own_is =
        pair_comes vars here context c test own told_above (λ part. (v part *ℤ pos d) -ℤ f part)
        (λ part. f part +ℤ ((q part *ℤ pos d) *ℤ negsuc 0)) (λ part. v part -ℤ q part) count positive
        (omega (arith, t.inside)) own_is t.low
        (λ part. omega (arith, ints, difference_times (v part) (q part) (pos d)))
        (λ part. omega (arith, ints, told.write_at part, told.read_at part))

    -- and `form - M v - 1` to `q - v - 1`
    below_comes : (own : RowExpr)
        → ((part : Part) → parts_of own part ≡ (f part -ℤ (v part *ℤ pos d)) +ℤ number_part (negsuc 0) part)
        → ComesFrom vars context here (cut_of c (here ∷ (test + 1) ∷ [])) own told_below
    below_comes own own_is =
        pair_comes vars here context c (test + 1) own told_below (λ part. f part -ℤ (v part *ℤ pos d))
        (λ part. (q part *ℤ pos d) +ℤ (f part *ℤ negsuc 0)) (λ part. q part -ℤ v part) count positive t.inside own_is
        t.high
        (λ part. omega (arith, ints, difference_times (q part) (v part) (pos d)))
        (λ part. omega (arith, ints, told.write_at part, told.read_at part))

    abbrev Cuts : Bool → Type 0
    Cuts turned =
        ComesFrom vars context here (cut_of c (here ∷ test ∷ [])) (cond turned own_below own_above) told_above
        × ComesFrom vars context here (cut_of c (here ∷ (test + 1) ∷ [])) (cond turned own_above own_below) told_below

    by_sign : (b : Bool) → int_lt (pos 0) c ≡ b → AreStrideRows write read place d f v b → Cuts (int_lt c (pos 0))
    by_sign true sign own = subst Cuts (sym (sign_same c sign)) (
      above_comes own_above (λ part. omega (arith, ints, own.first part)),
      below_comes own_below (λ part. omega (arith, ints, own.second part)),
    )
    by_sign false sign own = subst Cuts (sym (sign_other c positive sign)) (
      above_comes own_below (λ part. omega (arith, ints, own.second part)),
      below_comes own_above (λ part. omega (arith, ints, own.first part)),
    )

    with_stride : Cuts (int_lt c (pos 0))
    with_stride = by_sign (int_lt (pos 0) c) refl (stride_rows vars write read place c 0 even single is)

  abbrev Owns : Bool → Type 0
  Owns turned =
      ComesFrom vars context here (Own here) (cond turned own_below own_above) told_above
      × ComesFrom vars context here (Own here) (cond turned own_above own_below) told_below

  plain : stride_of write ≡ None → (b : Bool) → falls write ≡ b → Owns b
  plain none true e =
      let t : IsToldLess vars write read place quotient = told_less vars write read place quotient even single none e in (
        same_comes vars here context own_below told_above count
            (λ part. omega (arith, ints, t.own_at part, t.write_at part, t.read_at part)),
        same_comes vars here context own_above told_below count
            (λ part. omega (arith, ints, t.own_at part, t.write_at part, t.read_at part)),
      )
  plain none false e =
      let t : IsToldSame vars write read place quotient = told_same vars write read place quotient none e in (
        same_comes vars here context own_above told_above count
            (λ part. omega (arith, ints, t.write_at part, t.read_at part)),
        same_comes vars here context own_below told_below count
            (λ part. omega (arith, ints, t.write_at part, t.read_at part)),
      )

  by_kind : (o : Option ℤ) → stride_of write ≡ o
      → ComesFrom vars context here (option_map_or (λ c. cut_of c (here ∷ test ∷ [])) o (Own here))
      (cond (option_map_or (λ c. int_lt c (pos 0)) o (falls write)) own_below own_above) told_above
      × ComesFrom vars context here (option_map_or (λ c. cut_of c (here ∷ (test + 1) ∷ [])) o (Own here))
      (cond (option_map_or (λ c. int_lt c (pos 0)) o (falls write)) own_above own_below) told_below
  by_kind None e = plain e (falls write) refl
  by_kind (Some c) e = with_stride c e

  pub subscript_comes : Comes (is_turned write)
  subscript_comes = by_kind (stride_of write) refl
