-- How far from 0 the numbers of a row reach that is made of small forms.
--
-- A form at a place is a number and at most six products of a coefficient and a form: by induction over the
-- coefficients each adds as much as the product of the two greatest numbers, and the form itself once more. A row that
-- reaches no farther than 128 bits can be made, and its numbers stay within its reach.
use Rattle.std.proofs.Common.{◌≡◌, ◌+◌, ◌*◌, ◌^◌, ◌≤◌, ◌<◌, ℕ, suc, ℤ, negsuc, List, [], ◌∷◌, length, sym, ◌∙◌}
use Rattle.std.proofs.Common.{subst, arith}
use Rattle.std.specs.Prelude.{Some, All, unsigned_abs}
use Rattle.std.proofs.lemmas.List.Elements.{All-nil, All-cons, All-head, All-tail}
use Rattle.std.proofs.lemmas.Option.{same_Some}
use Rattle.std.proofs.Math.Nat.{mul-le-mul_right}
use Rattle.affine_core.specs.declared.form.Form.{Form}
use Rattle.tree_sums.specs.Made.{reach, TakesWithin}
use Rattle.tree_sums.specs.Parts.{IsWithin}
use Rattle.tree_sums.proofs.SmallRows.{small_is_made}
use Rattle.tree_sums.proofs.Within.{IsWithin-weaker}
use Rattle.source_tree.specs.Places.{at_place, plus_terms}
use Rattle.source_tree.specs.Rows.{RowExpr, Take, Plus, Times, below_zero, minus, number, one_less, row_form, row_forms}
use Rattle.stride_trees.proofs.Lists.{made_first, IsMadeFirst}

pub record IsReached (vars bound most : ℕ) (e : RowExpr) : Type 0 where
  pub takes : TakesWithin vars bound e
  pub reaches : reach bound e ≤ most

-- forms over no more variables, with such numbers
pub record IsBounded (vars bound : ℕ) (f : Form) : Type 0 where
  pub short : length f.coefs ≤ vars
  pub within : IsWithin bound f

abbrev pub AreBounded : ℕ → ℕ → List Form → Type 0
AreBounded vars bound forms = All (IsBounded vars bound) forms

pub taken_reached : (vars bound : ℕ) (f : Form) → IsBounded vars bound f → IsReached vars bound bound (Take f)
taken_reached vars bound f h = record { takes = (h.short, h.within); reaches = omega arith }

number_reached : (vars bound : ℕ) (k : ℤ) → unsigned_abs k ≤ bound → IsReached vars bound bound (number k)
number_reached vars bound k h =
    record { takes = (omega arith, record { constant = h; coefs = All-nil _ }); reaches = omega arith }

pub reached_farther : (vars bound a b : ℕ) (e : RowExpr) → a ≤ b → IsReached vars bound a e → IsReached vars bound b e
reached_farther vars bound a b e le h = record { takes = h.takes; reaches = omega (arith, h.reaches, le) }

pub minus_reached : (vars bound a b : ℕ) (e f : RowExpr) → IsReached vars bound a e → IsReached vars bound b f
    → IsReached vars bound (a + (b + b)) (minus e f)
minus_reached vars bound a b e f h k =
    record { takes = (h.takes, k.takes); reaches = omega (arith, h.reaches, k.reaches) }

pub less_reached : (vars bound a : ℕ) (e : RowExpr) → 1 ≤ bound → IsReached vars bound a e
    → IsReached vars bound (a + bound) (one_less e)
less_reached vars bound a e some h = record {
  takes = (h.takes, (number_reached vars bound (negsuc 0) (omega (arith, some))).takes);
  reaches =
      omega (arith, h.reaches);
}

pub below_reached : (vars bound a : ℕ) (e : RowExpr) → 1 ≤ bound → IsReached vars bound a e
    → IsReached vars bound (a + a + bound) (below_zero e)
below_reached vars bound a e some h = record {
  takes = (h.takes, (number_reached vars bound (negsuc 0) (omega (arith, some))).takes);
  reaches =
      omega (arith, h.reaches);
}

-- a form at a place
terms_reached : (vars bound most so_far : ℕ) (sum : RowExpr) (cs : List ℤ) (place : List Form)
    → All (λ c. unsigned_abs c ≤ most) cs → AreBounded vars bound place → IsReached vars bound so_far sum
    → IsReached vars bound (so_far + length cs * (most * bound + bound)) (plus_terms sum cs place)
terms_reached vars bound most so_far sum [] place each taken h =
    reached_farther vars bound so_far (so_far + 0 * (most * bound + bound)) sum (omega arith) h
terms_reached vars bound most so_far sum (c ∷ cs) [] each taken h =
    reached_farther vars bound so_far (so_far + length (c ∷ cs) * (most * bound + bound)) sum (omega arith) h
terms_reached vars bound most so_far sum (c ∷ cs) (f ∷ place) each taken h =
    let one : ℕ = most * bound + bound in
    let own : IsBounded vars bound f = All-head (IsBounded vars bound) f place taken in
    let le : unsigned_abs c * bound ≤ most * bound =
    mul-le-mul_right bound (All-head (λ c. unsigned_abs c ≤ most) c cs each) in
    let next : IsReached vars bound (so_far + one) (Plus sum (Times c (Take f)))
    = record { takes = (h.takes, (own.short, own.within)); reaches = omega (arith, h.reaches, le) } in
    let count : so_far + one + length cs * one ≡ so_far + suc (length cs) * one = omega arith in
    subst (λ n. IsReached vars bound n (plus_terms (Plus sum (Times c (Take f))) cs place)) count
    (terms_reached vars bound most (so_far + one) (Plus sum (Times c (Take f))) cs place
    (All-tail (λ c. unsigned_abs c ≤ most) c cs each) (All-tail (IsBounded vars bound) f place taken) next)

pub placed_reached : (vars bound most : ℕ) (form : Form) (place : List Form) → unsigned_abs form.constant ≤ bound
    → All (λ c. unsigned_abs c ≤ most) form.coefs → AreBounded vars bound place
    → IsReached vars bound (bound + length form.coefs * (most * bound + bound)) (at_place form place)
placed_reached vars bound most form place constant coefs taken =
    terms_reached vars bound most bound (number form.constant) form.coefs place coefs taken
    (number_reached vars bound form.constant constant)

-- Rows that are made

-- a row that can be made, and stays within
pub record IsMadeWithin (vars most : ℕ) (e : RowExpr) : Type 0 where
  pub row : Form
  pub is : row_form vars e ≡ Some row
  pub over : length row.coefs ≡ vars
  pub within : IsWithin most row

pub reached_made : (vars bound most : ℕ) (e : RowExpr) → most < 2 ^ 127 → IsReached vars bound most e
    → IsMadeWithin vars most e
reached_made vars bound most e lt h =
    let m = small_is_made vars bound e h.takes (omega (arith, h.reaches, lt)) in
    record {
      row = m.0;
      is = m.1.is;
      over = m.1.over;
      within = IsWithin-weaker (reach bound e) most m.0 h.reaches m.1.within;
    }

abbrev pub AreReached : ℕ → ℕ → ℕ → List RowExpr → Type 0
AreReached vars bound most [] = Unit {0}
AreReached vars bound most (e ∷ es) = IsReached vars bound most e × AreReached vars bound most es

-- rows that were made stay within
pub made_within : (vars bound most : ℕ) (es : List RowExpr) (forms : List Form) → most < 2 ^ 127
    → AreReached vars bound most es → row_forms vars es ≡ Some forms → All (IsWithin most) forms
made_within vars bound most [] forms lt h made = subst (All (IsWithin most)) (same_Some [] forms made) (All-nil _)
made_within vars bound most (e ∷ es) forms lt h made =
    let f : IsMadeFirst vars e es forms = made_first vars e es forms made in
    let m : IsMadeWithin vars most e = reached_made vars bound most e lt h.0 in
    let same : m.row ≡ f.first = same_Some m.row f.first (sym m.is ∙ f.own_made) in
    subst (All (IsWithin most)) (sym f.is)
    (All-cons (IsWithin most) f.first f.rest (subst (IsWithin most) same m.within)
    (made_within vars bound most es f.rest lt h.1 f.made))
