-- Sums of rows of which the first so many are rows of the system itself.
--
-- No Cut adds one of these: they keep their numbers, and the Cuts and the numbers of the sources behind them are as they would
-- be without them. It isn't said that a Cut takes none of them.
use Rattle.std.proofs.Common.{◌≡◌, ◌+◌, ◌-◌, ◌<◌, ◌≤◌, ℕ, zero, suc, List, ◌∷◌, ◌++◌, get_or, refl, ap, ◌∙◌, arith}
use Rattle.std.specs.List.{range_with_len}
use Rattle.std.proofs.lemmas.List.{get_or_append_left, get_or-append_right}
use Rattle.std.proofs.lemmas.List.FromFn.{length-range_with_len}
use Rattle.int_polyhedra.specs.declared.system.Proof.TheVariants.{Sum}
use Rattle.int_polyhedra.specs.declared.system.Term.{Term}
use Rattle.plain_data.proofs.Lists.{get_or-range_with_len_zero}
use Rattle.tree_cuts.specs.Cuts.{after_cuts, converted_sum, cuts_of, numbers_from, renumbered}
use Rattle.tree_cuts.specs.Sources.{own_sources}
use Rattle.tree_cuts.specs.declared.cuts.Source.{Source}

pub cuts_behind : (first n : ℕ) (more : List Source) → cuts_of (own_sources first n ++ more) ≡ cuts_of more
cuts_behind first zero more = refl
cuts_behind first (suc n) more = cuts_behind (first + 1) n more

numbers_behind : (next first n : ℕ) (more : List Source)
    → numbers_from next (own_sources first n ++ more) ≡ range_with_len first n ++ numbers_from next more
numbers_behind next first zero more = refl
numbers_behind next first (suc n) more = ap (λ numbers. first ∷ numbers) (numbers_behind next (first + 1) n more)

pub converted_behind : (here rows : ℕ) (sources : List Source) (ts : List Term)
    → converted_sum (own_sources 0 here ++ sources) rows ts
    ≡ after_cuts (cuts_of sources) (Sum (renumbered (range_with_len 0 here ++ numbers_from rows sources) ts))
converted_behind here rows sources ts =
    ap (λ cuts. after_cuts cuts (Sum (renumbered (numbers_from rows (own_sources 0 here ++ sources)) ts)))
    (cuts_behind 0 here sources)
    ∙ ap (λ numbers. after_cuts (cuts_of sources) (Sum (renumbered numbers ts))) (numbers_behind rows 0 here sources)

pub number_kept : (here row : ℕ) (numbers : List ℕ) → row < here → get_or (range_with_len 0 here ++ numbers) row 0 ≡ row
number_kept here row numbers below =
    get_or_append_left (range_with_len 0 here) numbers 0 row (omega (arith, below, length-range_with_len 0 here))
    ∙ get_or-range_with_len_zero here row below

pub number_behind : (here row : ℕ) (numbers : List ℕ) → here ≤ row
    → get_or (range_with_len 0 here ++ numbers) row 0 ≡ get_or numbers (row - here) 0
number_behind here row numbers past =
    get_or-append_right (range_with_len 0 here) numbers here row 0 (length-range_with_len 0 here) past
