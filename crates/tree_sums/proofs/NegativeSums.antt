-- Terms that show a negative number refute, and terms that refute show one.
--
-- Where the multipliers are small the sum of the terms stays within 128 bits, and its parts are the weighted sums: no
-- variable is left, and the constant is negative, which is what the check of a Sum asks. The other way round the check
-- has added the same rows within 128 bits, so its sum has the weighted parts too, without any bound on the
-- multipliers. Together both carry a refutation to other rows: it shows a negative number, this is carried, and
-- refutes there.
use Rattle.std.proofs.Common.{◌≡◌, ◌*◌, ◌^◌, ◌≤◌, ℕ, ◌<◌, ◌≤◌, zero, suc, ℤ, pos, ◌+ℤ◌, ◌≤ℤ◌, ◌<ℤ◌, List, [], ◌∷◌}
use Rattle.std.proofs.Common.{length, Bool, true, false, not, cond, refl, sym, ap, ◌∙◌, arith, ltb-true}
use Rattle.std.specs.Prelude.{Some, None, All, slice_index_or, nat_lt, unsigned_abs}
use Rattle.std.specs.List.{list_all}
use Rattle.std.specs.Option.{ok_or, option_or}
use Rattle.std.specs.Ordering.{int_eq}
use Rattle.std.specs.Int.RustNames.{int_lt}
use Rattle.std.proofs.lemmas.Int.{ints}
use Rattle.std.proofs.lemmas.List.Elements.{All-from_get_or, All-replicate}
use Rattle.std.proofs.lemmas.Option.{same_Some}
use Rattle.affine_core.specs.declared.form.Form.{Form}
use Rattle.affine_core.specs.Affine.{constant_form}
use Rattle.affine_core.proofs.Integers.{int_eq-true, int_lt-true, int_lt-false}
use Rattle.int_polyhedra.specs.declared.system.Proof.TheVariants.{Sum}
use Rattle.int_polyhedra.specs.declared.system.Reason.TheVariants.{NotContradictory, Overflow}
use Rattle.int_polyhedra.specs.declared.system.Term.{Term}
use Rattle.int_polyhedra.specs.Rules.{Refutes, by_sum}
use Rattle.int_polyhedra.specs.Steps.{sum_onto, sum_of, sum_refusal, is_contradictory, bad_row_number}
use Rattle.int_polyhedra.specs.Steps.{negative_multiplier}
use Rattle.int_polyhedra.specs.Systems.{AreOver}
use Rattle.int_polyhedra.proofs.Cases.{refusal_sum}
use Rattle.int_polyhedra.proofs.ProofRules.{follows_refuted, All-find_none}
use Rattle.int_polyhedra.proofs.ListSearch.{mapped_none}
use Rattle.int_polyhedra.proofs.SumInvariants.{option_or_none, row_unless_ok, refusal_or_none, ok_or_ok}
use Rattle.int_polyhedra.proofs.Variables.{length_zeros}
use Rattle.plain_data.proofs.Lists.{get_or-replicate_same}
use Rattle.tree_sums.specs.Parts.{Part, weight, the_constant, the_coefficient, part_of, row_part, weighted_sum, IsWithin}
use Rattle.tree_sums.specs.Shown.{Shows, IsNegative}
use Rattle.tree_sums.specs.Carried.{carried_terms}
use Rattle.tree_sums.proofs.Laws.{ShownRefutes, RefutationsCarry, RefutedIsShown}
use Rattle.tree_sums.proofs.Bound.{stays}
use Rattle.tree_sums.proofs.SumAlgebra.{carries}
use Rattle.tree_sums.proofs.Weights.{weight_carry}
use Rattle.std.proofs.Math.Nat.{mul-le-mul_left}
use Rattle.std.proofs.lemmas.Bool.{and_parts, not-false}
use Rattle.tree_sums.proofs.Ideal.{summed, within_is_ideal}

abbrev pub nothing : ℕ → Form
nothing vars = constant_form vars (pos 0)

nothing_within : (vars : ℕ) → IsWithin 0 (nothing vars)
nothing_within vars =
    record { constant = omega arith; coefs = All-replicate (λ c. unsigned_abs c ≤ 0) vars (pos 0) (omega arith) }

pub nothing_part : (vars : ℕ) (part : Part) → part_of part (nothing vars) ≡ pos 0
nothing_part vars the_constant = refl
nothing_part vars (the_coefficient i) = get_or-replicate_same vars i (pos 0)

pub shown_refutes : ShownRefutes
shown_refutes vars bound rows ts a over within small s n =
    let sum = summed vars rows (nothing vars) ts over (length_zeros vars) s.name_rows in
    let total : Form = sum.0 in
    let kept : sum_onto rows (nothing vars) ts ≡ Some total =
    stays bound 0 rows (nothing vars) ts within (nothing_within vars) (omega (arith, small)) ∙ sum.1.is in
    let constant : total.constant ≡ pos 0 +ℤ weighted_sum (row_part rows the_constant) ts = sum.1.parts the_constant in
    let plain : (i : ℕ) → i < length total.coefs → slice_index_or total.coefs i (pos 0) ≡ pos 0 =
    λ i k. (let here : i < vars = omega (arith, k, sum.1.over) in
    let coef : slice_index_or total.coefs i (pos 0) ≡ part_of (the_coefficient i) (nothing vars) +ℤ weighted_sum
    (row_part rows (the_coefficient i)) ts = sum.1.parts (the_coefficient i) in
    omega (arith, ints, coef, nothing_part vars (the_coefficient i), s.same i here, n.no_variable i here)) in
    by_sum rows (Sum ts) ts total refl
    (record { name_rows = s.name_rows; not_negative = s.not_negative; is_sum = kept })
    (record {
      no_variable = All-from_get_or (λ c. c ≡ pos 0) total.coefs (pos 0) plain;
      negative =
          omega (arith, ints, constant, s.at_most, n.negative);
    })

-- What stands in a sum that refutes

all_zero : (cs : List ℤ) → list_all (λ c. int_eq c (pos 0)) cs ≡ true → (i : ℕ) → slice_index_or cs i (pos 0) ≡ pos 0
all_zero [] e i = refl
all_zero (c ∷ cs) e zero = int_eq-true c (pos 0) (and_parts (int_eq c (pos 0)) (list_all (λ c. int_eq c (pos 0)) cs) e).0
all_zero (c ∷ cs) e (suc i) = all_zero cs (and_parts (int_eq c (pos 0)) (list_all (λ c. int_eq c (pos 0)) cs) e).1 i

ended : (row : Form) → sum_refusal row ≡ None → is_contradictory row ≡ true
ended row e = go (is_contradictory row) refl e where
  go : (b : Bool) → is_contradictory row ≡ b → cond b None (Some (NotContradictory row)) ≡ None → is_contradictory row
      ≡ true
  go true is e = is
  go false is e = absurd (let k : Some (NotContradictory row) ≡ None = e in cc)

-- terms that refute show their sum, and it is negative
pub refuting : (vars : ℕ) (rows : List Form) (ts : List Term) → AreOver vars rows → Refutes vars rows (Sum ts)
    → Shows vars rows ts (λ part. weighted_sum (row_part rows part) ts)
    × IsNegative vars (λ part. weighted_sum (row_part rows part) ts)
refuting vars rows ts over h =
    refusal_or_none sum_refusal (sum_of vars rows None ts)
    (sym (refusal_sum vars rows ts) ∙ follows_refuted vars rows (Sum ts) h)
    (λ total is e.
    let u = row_unless_ok (option_or (bad_row_number (length rows) ts) (option_or None (negative_multiplier ts)))
    (ok_or (sum_onto rows (nothing vars) ts) Overflow) total is in
    let n = option_or_none (bad_row_number (length rows) ts) (option_or None (negative_multiplier ts)) u.0 in
    let range : All (λ (t : Term). t.row < length rows) ts =
    All-find_none (λ (t : Term). not (nat_lt t.row (length rows))) _ (λ t e. ltb-true t.row (length rows) (not-false (nat_lt t.row (length rows)) e)) ts
    (mapped_none _ _ n.0) in
    let above : All (λ (t : Term). pos 0 ≤ℤ t.times) ts = All-find_none (λ (t : Term). int_lt t.times (pos 0)) _
    (λ t. int_lt-false t.times (pos 0)) ts (mapped_none _ _ n.1) in
    let sum = summed vars rows (nothing vars) ts over (length_zeros vars) range in
    let same : sum.0 ≡ total = same_Some sum.0 total (sym sum.1.is ∙ within_is_ideal rows (nothing vars) ts total
    (ok_or_ok (sum_onto rows (nothing vars) ts) Overflow total u.1)) in
    let b = and_parts (int_lt total.constant (pos 0)) (list_all (λ c. int_eq c (pos 0)) total.coefs) (ended total e) in (
      record { name_rows = range; not_negative = above; at_most = omega (arith, ints); same = λ i l. refl },
      record {
        negative = omega
            (arith, ints, ap (λ (f : Form). f.constant) same, sum.1.parts the_constant, int_lt-true total.constant (pos 0) b.0);
        no_variable = λ i l. omega (
          arith,
          ints,
          ap (part_of (the_coefficient i)) same,
          sum.1.parts (the_coefficient i),
          nothing_part vars (the_coefficient i),
          all_zero total.coefs b.1 i,
        );
      },
    ))

pub refuted_is_shown : RefutedIsShown
refuted_is_shown vars rows ts over h =
    let r = refuting vars rows ts over h in (λ part. weighted_sum (row_part rows part) ts, r.0, r.1)

-- Refutations carry

lighter : (w c most bound limit : ℕ) → c ≤ w * most → w * most * bound < limit → c * bound < limit
lighter w c most bound limit le h =
    let turned : c * bound ≡ bound * c = omega arith in
    let turned' : w * most * bound ≡ bound * (w * most) = omega arith in
    omega (arith, mul-le-mul_left bound le, h, turned, turned')

pub refutations_carry : RefutationsCarry
refutations_carry vars bound most rows other in_place ts over over' within light small each h =
    let shown = refuted_is_shown vars rows ts over h in
    let new = carries vars rows other in_place ts shown.0 each shown.1 in
    shown_refutes vars bound other (carried_terms in_place ts) shown.0 over' within
    (lighter (weight ts) (weight (carried_terms in_place ts)) most bound (2 ^ 127)
    (weight_carry most in_place ts light) small) new shown.2
