-- What rows show holds where they are met.
--
-- At a point that meets the rows each term adds a product of two numbers that are not negative, so the value of the
-- sum grows from term to term. It begins at 0, so the value of the whole sum is not negative, and a form with the same
-- coefficients and a constant that is no less is not negative either. The sum is the one without bounds, since nothing
-- here keeps it within 128 bits.
use Rattle.std.proofs.Common.{◌≡◌, ◌<◌, ℕ, zero, suc, ℤ, pos, ◌+ℤ◌, ◌*ℤ◌, ◌≤ℤ◌, List, [], ◌∷◌, length, slice_index_or}
use Rattle.std.proofs.Common.{slice_get, refl, sym, ap, ◌∙◌, arith}
use Rattle.std.specs.Prelude.{Some, All}
use Rattle.std.proofs.lemmas.Int.{ints}
use Rattle.std.proofs.lemmas.List.Elements.{All-head, All-tail}
use Rattle.std.proofs.lemmas.Option.{option_and_then_some, same_Some, get_or_from_slice_get, slice_get_within}
use Rattle.std.proofs.lemmas.List.{length-map}
use Rattle.affine_core.specs.declared.form.Form.{Form}
use Rattle.affine_core.specs.Affine.{form_at, form_sum, form_product}
use Rattle.affine_core.proofs.Linear.{combined_is, constant_at, dot, product_at, sum_at, length-sums}
use Rattle.affine_core.proofs.Ring.{times_not_negative}
use Rattle.int_polyhedra.specs.declared.system.Term.{Term}
use Rattle.int_polyhedra.specs.Systems.{AreOver, Meets}
use Rattle.int_polyhedra.proofs.Variables.{length_zeros, over_at}
use Rattle.tree_sums.specs.Parts.{the_constant, the_coefficient}
use Rattle.tree_sums.proofs.Laws.{ShownHolds}
use Rattle.tree_sums.proofs.Bound.{ideal}
use Rattle.tree_sums.proofs.Ideal.{summed}
use Rattle.tree_sums.proofs.NegativeSums.{nothing, nothing_part}

met_at : (rows : List Form) (at : List ℤ) (k : ℕ) (row : Form) → Meets rows at → slice_get rows k ≡ Some row
    → pos 0 ≤ℤ form_at row at
met_at rows at k row meets is =
    rw (← get_or_from_slice_get rows k row row is) (meets k row (slice_get_within rows k row is))

-- sums of rows that are met are no less
grows : (vars : ℕ) (rows : List Form) (at : List ℤ) (sum : Form) (ts : List Term) (f : Form) → AreOver vars rows
    → length sum.coefs ≡ vars
    → All (λ t. pos 0 ≤ℤ t.times) ts → Meets rows at → ideal rows sum ts ≡ Some f → form_at sum at ≤ℤ form_at f at
grows vars rows at sum [] f over wide above meets e = let same : sum ≡ f = same_Some sum f e
    in omega (arith, ints, ap (λ (g : Form). form_at g at) same)
grows vars rows at sum (t ∷ ts) f over wide above meets e =
    option_and_then_some (λ row. ideal rows (form_sum sum (form_product t.times row)) ts) (slice_get rows t.row) f e
    (λ row is e'.
    let over_row : length row.coefs ≡ vars = over_at vars rows t.row row over is in
    let more : length (form_product t.times row).coefs ≡ vars = length-map row.coefs (λ c. c *ℤ t.times) ∙ over_row in
    let next : Form = form_sum sum (form_product t.times row) in
    let next_over : length next.coefs ≡ vars = length-sums sum.coefs (form_product t.times row).coefs (wide ∙ sym more)
    ∙ wide in
    let step : form_at next at ≡ form_at sum at +ℤ form_at (form_product t.times row) at =
    sum_at sum (form_product t.times row) at (wide ∙ sym more) in
    let product : form_at (form_product t.times row) at ≡ form_at row at *ℤ t.times = product_at t.times row at in
    let positive : pos 0 ≤ℤ (form_at row at *ℤ t.times) = times_not_negative (form_at row at) t.times
    (met_at rows at t.row row meets is) (All-head (λ (t : Term). pos 0 ≤ℤ t.times) t ts above) in
    omega (
      arith,
      ints,
      step,
      product,
      positive,
      grows vars rows at next ts f over next_over (All-tail (λ (t : Term). pos 0 ≤ℤ t.times) t ts above) meets e',
    ))

-- the same coefficients give the same sum of products
same_dot : (cs ds at : List ℤ) → length cs ≡ length ds
    → ((i : ℕ) → i < length cs → slice_index_or cs i (pos 0) ≡ slice_index_or ds i (pos 0)) → dot cs at ≡ dot ds at
same_dot [] [] at e h = refl
same_dot [] (d ∷ ds) at e h = absurd (omega arith)
same_dot (c ∷ cs) [] at e h = absurd (omega arith)
same_dot (c ∷ cs) (d ∷ ds) [] e h = refl
same_dot (c ∷ cs) (d ∷ ds) (v ∷ at) e h =
    let first : c ≡ d = h zero (omega arith) in
    ap (λ z. (z *ℤ v) +ℤ dot cs at) first
    ∙ ap (λ z. (d *ℤ v) +ℤ z) (same_dot cs ds at (omega (arith, e)) (λ i l. h (suc i) (omega (arith, l))))

pub shown_holds : ShownHolds
shown_holds vars rows ts f at over wide s meets =
    let sum = summed vars rows (nothing vars) ts over (length_zeros vars) s.name_rows in
    let total : Form = sum.0 in
    let grown : form_at (nothing vars) at ≤ℤ form_at total at =
    grows vars rows at (nothing vars) ts total over (length_zeros vars) s.not_negative meets sum.1.is in
    let zero_at : form_at (nothing vars) at ≡ pos 0 = constant_at vars (pos 0) at in
    let same : dot total.coefs at ≡ dot f.coefs at =
    same_dot total.coefs f.coefs at (sum.1.over ∙ sym wide)
    (λ i l. (let here : i < vars = omega (arith, l, sum.1.over) in
    let part : slice_index_or total.coefs i (pos 0) ≡ slice_index_or f.coefs i (pos 0) =
    sum.1.parts (the_coefficient i) ∙ omega (arith, ints, nothing_part vars (the_coefficient i), s.same i here)
    in part)) in
    omega (
      arith,
      ints,
      grown,
      zero_at,
      combined_is total.constant total.coefs at,
      combined_is f.constant f.coefs at,
      same,
      sum.1.parts the_constant,
      s.at_most,
    )
