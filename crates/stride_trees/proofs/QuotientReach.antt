-- How far the rows over quotients reach.
--
-- Their coefficients at a place are 0, 1 and -1, their numbers small: so at six loops a row reaches no farther than
-- some times as far as the forms of the place.
use Rattle.std.proofs.Common.{◌≡◌, ◌-◌, ◌+◌, ◌*◌, ◌^◌, ◌≤◌, ◌||◌, ℕ, zero, suc, ℤ, pos, negsuc, List, [], ◌∷◌, length}
use Rattle.std.proofs.Common.{true, arith}
use Rattle.std.specs.Prelude.{All, unsigned_abs, ◌&&◌, nat_le}
use Rattle.std.specs.List.{list_all}
use Rattle.std.proofs.lemmas.Int.{ints}
use Rattle.std.proofs.lemmas.List.Elements.{All-nil, All-cons}
use Rattle.std.proofs.Math.Nat.{mul-le-mul_right}
use Rattle.std.proofs.lemmas.Bool.{and_parts}
use Rattle.affine_core.specs.declared.form.Form.{Form}
use Rattle.affine_core.specs.Affine.{variable_form}
use Rattle.tree_graphs.specs.Problems.{AreCells, IsCell}
use Rattle.tree_graphs.specs.Class.{count_of}
use Rattle.tree_graphs.proofs.ProblemBounds.{form_is, FormFits}
use Rattle.tree_graphs.proofs.OrderEdges.{variable_over, variable_within}
use Rattle.tree_sums.proofs.Within.{IsWithin-weaker}
use Rattle.sanlp.specs.WellFormed.{form_fits}
use Rattle.source_tree.specs.Places.{at_place, cell_rows, domain_rows, variables}
use Rattle.source_tree.specs.Rows.{Take, minus}
use Rattle.tree_cuts.specs.Class.{is_pair, is_single}
use Rattle.stride_trees.specs.Problem.{problem_rows}
use Rattle.tree_cuts.specs.Sources.{divided_form}
use Rattle.tree_cuts.proofs.Coefficients.{is_bit, is_trit}
use Rattle.stride_trees.proofs.DomainDifferences.{divided_difference, divided_fits}
use Rattle.stride_trees.proofs.RowReach.{minus_reached, placed_reached, reached_farther, taken_reached, AreBounded}
use Rattle.stride_trees.proofs.RowReach.{AreReached, IsBounded, IsReached}

trit_small : (c : ℤ) → is_trit c ≡ true → unsigned_abs c ≤ 1
trit_small c e = grind (arith, ints)

bit_small : (c : ℤ) → is_bit c ≡ true → unsigned_abs c ≤ 1
bit_small c e = grind (arith, ints)

trits_small : (cs : List ℤ) → list_all is_trit cs ≡ true → All (λ c. unsigned_abs c ≤ 1) cs
trits_small [] e = All-nil _
trits_small (c ∷ cs) e =
    let b = and_parts (is_trit c) (list_all is_trit cs) e in
    All-cons (λ c. unsigned_abs c ≤ 1) c cs (trit_small c b.0) (trits_small cs b.1)

bits_small : (cs : List ℤ) → list_all is_bit cs ≡ true → All (λ c. unsigned_abs c ≤ 1) cs
bits_small [] e = All-nil _
bits_small (c ∷ cs) e =
    let b = and_parts (is_bit c) (list_all is_bit cs) e in
    All-cons (λ c. unsigned_abs c ≤ 1) c cs (bit_small c b.0) (bits_small cs b.1)

-- so many variables are small forms
pub variables_bounded : (vars i k : ℕ) → i + k ≤ vars → AreBounded vars (2 ^ 40) (variables i k)
variables_bounded vars i zero le = All-nil _
variables_bounded vars i (suc k) le =
    let long : length (variable_form (i + 1) i).coefs ≡ i + 1 = variable_over (i + 1) i (omega arith) in
    All-cons (IsBounded vars (2 ^ 40)) (variable_form (i + 1) i) (variables (i + 1) k)
    (record {
      short = omega (arith, long, le);
      within = IsWithin-weaker 1 (2 ^ 40) (variable_form (i + 1) i) (omega arith) (variable_within (i + 1) i);
    })
    (variables_bounded vars (i + 1) k (omega (arith, le)))

-- a form with coefficients -1 to 1, at a place
small_placed : (vars bound depth : ℕ) (form : Form) (place : List Form) → 2 ^ 32 ≤ bound → depth ≤ 6 → FormFits depth form
    → All (λ c. unsigned_abs c ≤ 1) form.coefs → AreBounded vars bound place
    → IsReached vars bound (13 * bound) (at_place form place)
small_placed vars bound depth form place least few fits small taken =
    reached_farther vars bound (bound + length form.coefs * (1 * bound + bound)) (13 * bound) (at_place form place)
    (count (length form.coefs) (omega (arith, fits.over, few)))
    (placed_reached vars bound 1 form place (omega (arith, fits.within.constant, least)) small taken) where
      count : (n : ℕ) → n ≤ 6 → bound + n * (1 * bound + bound) ≤ 13 * bound
      count n h =
          let le : n * (1 * bound + bound) ≤ 6 * (1 * bound + bound) = mul-le-mul_right (1 * bound + bound) h in
          omega (arith, le)

pub told_row_reached : (vars bound depth : ℕ) (form : Form) (place : List Form) → 2 ^ 32 ≤ bound → depth ≤ 6
    → form_fits depth form ≡ true → (is_single form || is_pair form) ≡ true → AreBounded vars bound place
    → IsReached vars bound (13 * bound) (at_place (divided_form form) place)
told_row_reached vars bound depth form place least few fits class taken =
    let b = and_parts (list_all is_trit (divided_form form).coefs)
    (nat_le (count_of (pos 1) (divided_form form)) 1 && nat_le (count_of (negsuc 0) (divided_form form)) 1)
    (divided_difference form class) in
    small_placed vars bound depth (divided_form form) place least few
    (form_is depth (divided_form form) (divided_fits depth form fits))
    (trits_small (divided_form form).coefs b.0) taken

pub told_domain_reached : (vars bound depth : ℕ) (forms place : List Form) → 2 ^ 32 ≤ bound → depth ≤ 6
    → list_all (form_fits depth) forms ≡ true → list_all (λ row. is_single row || is_pair row) forms ≡ true
    → AreBounded vars bound place → AreReached vars bound (2 ^ 8 * bound) (domain_rows (problem_rows forms) place)
told_domain_reached vars bound depth [] place least few fits class taken = tt
told_domain_reached vars bound depth (form ∷ forms) place least few fits class taken =
    let f = and_parts (form_fits depth form) (list_all (form_fits depth) forms) fits in
    let k = and_parts (is_single form || is_pair form) (list_all (λ row. is_single row || is_pair row) forms) class in (
      reached_farther vars bound (13 * bound) (2 ^ 8 * bound) (at_place (divided_form form) place) (omega arith)
          (told_row_reached vars bound depth form place least few f.0 k.0 taken),
      told_domain_reached vars bound depth forms place least few f.1 k.1 taken,
    )

pub told_write_reached : (vars bound depth context : ℕ) (write read : Form) (place : List Form) → 2 ^ 40 ≤ bound → depth ≤ 6
    → IsCell context depth write read → AreBounded vars bound place
    → IsReached vars bound (13 * bound) (at_place write place)
told_write_reached vars bound depth context write read place least few cell taken =
    let b = and_parts (list_all is_bit write.coefs) (nat_le (count_of (pos 1) write) 1) cell.shift in
    small_placed vars bound depth write place (omega (arith, least)) few (form_is depth write cell.fits)
    (bits_small write.coefs b.0) taken

pub told_read_reached : (vars bound depth context : ℕ) (write read : Form) → 2 ^ 40 ≤ bound → context ≤ vars
    → IsCell context depth write read → IsReached vars bound bound (Take read)
told_read_reached vars bound depth context write read least le cell =
    taken_reached vars bound read
    (record {
      short = omega (arith, cell.over, le);
      within = IsWithin-weaker (2 ^ 33 - unsigned_abs write.constant) bound read (omega (arith, least)) cell.within;
    })

pub told_cells_reached : (vars bound depth context : ℕ) (writes reads place : List Form) → 2 ^ 40 ≤ bound → depth ≤ 6
    → context ≤ vars → AreCells context depth writes reads → AreBounded vars bound place
    → AreReached vars bound (2 ^ 8 * bound) (cell_rows writes reads place)
told_cells_reached vars bound depth context [] reads place least few le cells taken = tt
told_cells_reached vars bound depth context (write ∷ writes) [] place least few le cells taken = tt
told_cells_reached vars bound depth context (write ∷ writes) (read ∷ reads) place least few le cells taken =
    let at : IsReached vars bound (13 * bound) (at_place write place) =
    told_write_reached vars bound depth context write read place least few cells.0 taken in
    let of : IsReached vars bound bound (Take read) =
    told_read_reached vars bound depth context write read least le cells.0 in (
      reached_farther vars bound (13 * bound + (bound + bound)) (2 ^ 8 * bound) (minus (at_place write place) (Take read))
          (omega arith) (minus_reached vars bound (13 * bound) bound (at_place write place) (Take read) at of),
      (
        reached_farther vars bound (bound + (13 * bound + 13 * bound)) (2 ^ 8 * bound)
            (minus (Take read) (at_place write place)) (omega arith)
            (minus_reached vars bound bound (13 * bound) (Take read) (at_place write place) of at),
        told_cells_reached vars bound depth context writes reads place least few le cells.1 taken,
      ),
    )
