-- A test that says no by its form alone does so by the greatest common divisor of its divisor and all coefficients.
--
-- Each common divisor divides the greatest one, so where one of them doesn't divide the constant, neither does the greatest.
-- The greatest one is at most the divisor, so it is among the numbers that are asked. Nothing is said of loop values.
use Rattle.std.proofs.Common.{◌≡◌, ◌-◌, ◌%◌, ◌≤◌, ◌<◌, ℕ, zero, suc, ℤ, pos, negsuc, ◌≤ℤ◌, List, [], ◌∷◌, get_or}
use Rattle.std.proofs.Common.{slice_index_or, Bool, true, false, not, ◌&&◌, refl, sym, ap, ◌∙◌, subst, arith, eqb-true, FitsSigned, to_z, of_z}
use Rattle.std.specs.Prelude.{All, IsTrue, unsigned_abs}
use Rattle.std.specs.Int.{◌∣◌, w128}
use Rattle.std.specs.List.{list_all, range_with_len}
use Rattle.std.proofs.lemmas.Bool.{and_from, and_parts, eq-eqb}
use Rattle.std.proofs.lemmas.List.Elements.{All-head, All-tail}
use Rattle.std.proofs.lemmas.List.Folds.{list_any_at, list_any_none}
use Rattle.std.proofs.lemmas.List.FromFn.{get_or-range_with_len, length-range_with_len}
use Rattle.std.proofs.lemmas.List.Sums.{AllPass-from_list_all, list_all-from_AllPass}
use Rattle.std.proofs.lemmas.Nat.Gcd.{dvd-zero, dvd_of_mod-eq-zero, dvd_trans, le_of_dvd, mod-eq-zero_of_dvd}
use Rattle.plain_data.proofs.Lists.{All-each}
use Rattle.source_tree.specs.Walk.{divides}
use Rattle.stride_trees.specs.CommonDivisors.{IsGreatestCommonDivisor}
use Rattle.stride_trees.specs.Divisions.{never_divides, rules_out}
use Rattle.stride_trees.specs.Strides.{IsTestOf}
use Rattle.stride_trees.specs.declared.divisions.Division.{Division}
use Rattle.stride_trees.specs.declared.strides.Strides.{Strides}
use Rattle.tree_cuts.proofs.QuotientRows.{stride_positive}
use Rattle.std.proofs.lemmas.Int.{ints, to_z-of_z}

pub positive_size : (z : ℤ) → pos 1 ≤ℤ z → (0 < unsigned_abs z) × (z ≡ pos (unsigned_abs z))
positive_size (pos n) h = (omega (arith, ints, h), refl)
positive_size (negsuc n) h = absurd (let no : ⊥ = omega (arith, ints, h) in no)

-- a number as it is read, where it is at least 1
pub positive_read : (z : ℤ) → pos 1 ≤ℤ z → FitsSigned w128 z → to_z w128 (of_z w128 z) ≡ pos (unsigned_abs z)
positive_read z h fits = to_z-of_z w128 z fits ∙ (positive_size z h).1

pub divides_from_dvd : (z : ℤ) (k : ℕ) → k ∣ unsigned_abs z → divides z (pos k) ≡ true
divides_from_dvd z k h = eq-eqb (unsigned_abs z % k) 0 (mod-eq-zero_of_dvd k h)

pub dvd_from_divides : (z : ℤ) (k : ℕ) → divides z (pos k) ≡ true → k ∣ unsigned_abs z
dvd_from_divides z k h = dvd_of_mod-eq-zero k (eqb-true (unsigned_abs z % k) 0 h)

-- it divides each coefficient, and those that aren't there are 0
pub coefficient_common : (g : ℕ) (cs : List ℤ) (i : ℕ) → All (λ c. g ∣ unsigned_abs c) cs
    → unsigned_abs (slice_index_or cs i (pos 0)) % g ≡ 0
coefficient_common g [] i h = mod-eq-zero_of_dvd g (dvd-zero g)
coefficient_common g (c ∷ cs) zero h =
    mod-eq-zero_of_dvd g (All-head (λ c. g ∣ unsigned_abs c) c cs h)
coefficient_common g (c ∷ cs) (suc i) h =
    coefficient_common g cs i (All-tail (λ c. g ∣ unsigned_abs c) c cs h)

module _ (d : Division) (g : ℕ) (some : 0 < unsigned_abs d.divisor)
    (greatest : IsGreatestCommonDivisor (unsigned_abs d.divisor) d.form.coefs g) where
  abbrev c : ℤ
  c = d.form.constant

  pub divides_divisor : g ∣ unsigned_abs d.divisor
  divides_divisor = greatest.0.0

  pub divides_coefficients : All (λ z. g ∣ unsigned_abs z) d.form.coefs
  divides_coefficients = greatest.0.1

  at_most : g ≤ unsigned_abs d.divisor
  at_most = le_of_dvd some divides_divisor

  -- where the greatest one divides the constant, none rules the test out
  none : divides c (pos g) ≡ true → (k : ℕ) (b : Bool) → rules_out d k ≡ b → b ≡ false
  none divided k false e = refl
  none divided k true e =
      let both = and_parts (divides d.divisor (pos k) && list_all (λ z. divides z (pos k)) d.form.coefs)
      (not (divides c (pos k))) e in
      let parts = and_parts (divides d.divisor (pos k)) (list_all (λ z. divides z (pos k)) d.form.coefs) both.0 in
      let each : All (λ z. k ∣ unsigned_abs z) d.form.coefs = λ i o l. dvd_from_divides (get_or d.form.coefs i o) k
      (AllPass-from_list_all (λ z. divides z (pos k)) d.form.coefs parts.1 i o l) in
      let over : k ∣ g = greatest.1 k (dvd_from_divides d.divisor k parts.0, each) in
      let all : divides c (pos k) ≡ true = divides_from_dvd c k (dvd_trans k over (dvd_from_divides c g divided)) in
      let wrong : false ≡ true = sym (ap not all) ∙ both.1 in
      cc

  -- where it doesn't, it rules the test out itself
  own : divides c (pos g) ≡ false → rules_out d g ≡ true
  own undivided =
      and_from (divides d.divisor (pos g) && list_all (λ z. divides z (pos g)) d.form.coefs) (not (divides c (pos g)))
      (and_from (divides d.divisor (pos g)) (list_all (λ z. divides z (pos g)) d.form.coefs)
      (divides_from_dvd d.divisor g divides_divisor)
      (list_all-from_AllPass (λ z. divides z (pos g)) d.form.coefs
      (λ i o l. divides_from_dvd (get_or d.form.coefs i o) g (divides_coefficients i o l))))
      (ap not undivided)

  by_greatest : 0 < g → (b : Bool) → divides c (pos g) ≡ b → never_divides d ≡ not b
  by_greatest positive true divided =
      list_any_none (rules_out d) (range_with_len 1 (unsigned_abs d.divisor))
      (All-each (λ k. rules_out d k ≡ false) (λ k. none divided k (rules_out d k) refl)
      (range_with_len 1 (unsigned_abs d.divisor)))
  by_greatest positive false undivided =
      let n : ℕ = unsigned_abs d.divisor in
      let inside : g - 1 < n = omega (arith, positive, at_most) in
      let there : get_or (range_with_len 1 n) (g - 1) 0 ≡ g =
      get_or-range_with_len 1 n (g - 1) 0 inside ∙ (omega (arith, positive)) in
      list_any_at (rules_out d) (range_with_len 1 n) (g - 1) 0
      (omega (arith, inside, length-range_with_len 1 n)) (ap (rules_out d) there ∙ own undivided)

  -- whether a test says no by its form alone
  pub never_is : 0 < g → never_divides d ≡ not (divides c (pos g))
  never_is positive = by_greatest positive (divides c (pos g)) refl

  -- then the greatest common divisor doesn't divide the constant
  pub never_tells : 0 < g → IsTrue (never_divides d) → unsigned_abs c % g ≡ 0 → ⊥
  never_tells positive never e =
      let wrong : false ≡ true = sym (ap not (eq-eqb (unsigned_abs c % g) 0 e)) ∙ sym (never_is positive) ∙ never in
      cc

pub divisor_positive : (s : Strides) (d : Division) → IsTestOf s d → pos 1 ≤ℤ d.divisor
divisor_positive s d test =
    let some : 0 < unsigned_abs test.stride = stride_positive test.write test.stride test.stride_is in
    subst (λ (t : Division). pos 1 ≤ℤ t.divisor) (sym test.is) (omega (arith, ints, some))
