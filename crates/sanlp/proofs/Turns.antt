-- The turns of a loop with a step.
--
-- They are defined as the whole numbers from 0 on, as long as `first + step * turn` is at most `last`. This holds of a
-- turn exactly where the turn is at most the quotient, rounded down, of `last - first` and the step, and so the turns
-- are the interval from 0 to that quotient: what is left of them at each turn is an interval too. The quotient is std's
-- `div_euclid`, which for a positive divisor rounds down, also below 0, where there is no turn.
use Rattle.std.proofs.Common.{◌≡◌, ◌≤◌, ℕ, zero, suc, ℤ, pos, negsuc, ◌+ℤ◌, ◌-ℤ◌, ◌*ℤ◌, ◌<ℤ◌, ◌≤ℤ◌, [], ◌∷◌, Bool, true}
use Rattle.std.proofs.Common.{false, cond, refl, sym, ap, ◌∙◌, subst, arith}
use Rattle.std.specs.Prelude.{int_le}
use Rattle.std.specs.List.{take_while}
use Rattle.std.specs.Int.{int_div_euclid}
use Rattle.std.proofs.lemmas.Int.{by_lt_z, ints}
use Rattle.std.proofs.lemmas.List.Sums.{take_while-cons}
use Rattle.affine_core.proofs.Ring.{sum_times, times_not_negative, times_sum}
use Rattle.affine_core.proofs.Integers.{le-int_le}
use Rattle.sanlp.specs.Cells.{natural, counted}
use Rattle.sanlp.specs.Loops.{interval, turns_up_to}
use Rattle.sanlp.proofs.Intervals.{in_interval, interval_in, natural_below}
use Rattle.sanlp.proofs.Members.{In}

-- products with a step
product_rises : (step t u : ℤ) → pos 1 ≤ℤ step → t ≤ℤ u → (step *ℤ t) ≤ℤ (step *ℤ u)
product_rises step t u h k =
    let gap : pos 0 ≤ℤ (step *ℤ (u -ℤ t)) =
    times_not_negative step (u -ℤ t) (omega (arith, ints)) (omega (arith, ints)) in
    let whole : t +ℤ (u -ℤ t) ≡ u = omega (arith, ints) in
    let split : (step *ℤ t) +ℤ (step *ℤ (u -ℤ t)) ≡ step *ℤ u =
    sym (times_sum step t (u -ℤ t)) ∙ ap (λ z. step *ℤ z) whole in
    omega (arith, ints, gap, split)

-- a turn that is not negative is at most its product with the step
product_grows : (step t : ℤ) → pos 1 ≤ℤ step → pos 0 ≤ℤ t → t ≤ℤ (step *ℤ t)
product_grows step t h k =
    let more : pos 0 ≤ℤ ((step -ℤ pos 1) *ℤ t) = times_not_negative (step -ℤ pos 1) t (omega (arith, ints)) k in
    let whole : (step -ℤ pos 1) +ℤ pos 1 ≡ step = omega (arith, ints) in
    let split : ((step -ℤ pos 1) *ℤ t) +ℤ (pos 1 *ℤ t) ≡ step *ℤ t =
    sym (sum_times (step -ℤ pos 1) (pos 1) t) ∙ ap (λ z. z *ℤ t) whole in
    omega (arith, ints, more, split)

-- the quotient rounded down
quotient_below : (z step : ℤ) → pos 1 ≤ℤ step → (step *ℤ int_div_euclid z step) ≤ℤ z
quotient_below (pos n) (pos d) h = omega (arith, ints)
quotient_below (negsuc n) (pos d) h = omega (arith, ints)
quotient_below z (negsuc d) h = absurd (omega (arith, ints))

quotient_above : (z step : ℤ) → pos 1 ≤ℤ step → z <ℤ ((step *ℤ int_div_euclid z step) +ℤ step)
quotient_above (pos n) (pos d) h = omega (arith, ints)
quotient_above (negsuc n) (pos d) h = omega (arith, ints)
quotient_above z (negsuc d) h = absurd (omega (arith, ints))

-- a product is at most z exactly where the turn is at most the quotient
pub below_quotient : (z step t : ℤ) → pos 1 ≤ℤ step → t ≤ℤ int_div_euclid z step → (step *ℤ t) ≤ℤ z
below_quotient z step t h k =
    omega (arith, ints, product_rises step t (int_div_euclid z step) h k, quotient_below z step h)

above_quotient : (z step t : ℤ) → pos 1 ≤ℤ step → int_div_euclid z step <ℤ t → z <ℤ (step *ℤ t)
above_quotient z step t h k =
    let q : ℤ = int_div_euclid z step in
    let next : (step *ℤ (q +ℤ pos 1)) ≤ℤ (step *ℤ t) = product_rises step (q +ℤ pos 1) t h (omega (arith, ints)) in
    omega (arith, ints, next, times_sum step q (pos 1), quotient_above z step h)

pub to_quotient : (z step t : ℤ) → pos 1 ≤ℤ step → (step *ℤ t) ≤ℤ z → t ≤ℤ int_div_euclid z step
to_quotient z step t h k =
    by_lt_z (int_div_euclid z step) t
    (λ lt. absurd (let above : z <ℤ (step *ℤ t) = above_quotient z step t h lt in omega (arith, ints))) (λ le. le)

-- the turns are an interval
taken : (p : ℤ → Bool) (a : ℤ) (m n : ℕ) → m ≤ n → ((v : ℤ) → a ≤ℤ v → v <ℤ (a +ℤ pos m) → p v ≡ true)
    → p (a +ℤ pos m) ≡ false
    → take_while p (counted a n) ≡ counted a m
taken p a zero zero h passes fails = refl
taken p a zero (suc n) h passes fails =
    let here : a +ℤ pos 0 ≡ a = omega (arith, ints) in
    take_while-cons p a (counted (a +ℤ pos 1) n)
    ∙ ap (λ b. cond b (a ∷ take_while p (counted (a +ℤ pos 1) n)) []) (ap p (sym here) ∙ fails)
taken p a (suc m) zero h passes fails = absurd (omega arith)
taken p a (suc m) (suc n) h passes fails =
    let later : a +ℤ pos (suc m) ≡ a +ℤ pos 1 +ℤ pos m = omega (arith, ints) in
    take_while-cons p a (counted (a +ℤ pos 1) n)
    ∙ ap (λ b. cond b (a ∷ take_while p (counted (a +ℤ pos 1) n)) [])
    (passes a (omega (arith, ints)) (omega (arith, ints)))
    ∙ ap (λ vs. a ∷ vs)
    (taken p (a +ℤ pos 1) m n (omega arith) (λ v l r. passes v (omega (arith, ints)) (omega (arith, ints)))
    (ap p (sym later) ∙ fails))

-- a number that is not negative, against the natural number of another
natural_reaches : (z : ℤ) → z ≤ℤ pos (natural z)
natural_reaches (pos n) = omega (arith, ints)
natural_reaches (negsuc n) = omega (arith, ints)

natural_ends : (z v : ℤ) → pos 0 ≤ℤ v → v <ℤ pos (natural z) → v <ℤ z
natural_ends (pos n) v h k = k
natural_ends (negsuc n) v h k = absurd (omega (arith, ints))

counts_fewer : (y z : ℤ) → (pos 0 ≤ℤ y → y ≤ℤ z) → natural (y +ℤ pos 1 -ℤ pos 0) ≤ natural (z +ℤ pos 1 -ℤ pos 0)
counts_fewer y z h =
    by_lt_z y (pos 0)
    (λ lt. let none : natural (y +ℤ pos 1 -ℤ pos 0) ≤ 0 = natural_below (y +ℤ pos 1 -ℤ pos 0) 0
    (omega (arith, ints)) in omega arith)
    (λ le. natural_below (y +ℤ pos 1 -ℤ pos 0) (natural (z +ℤ pos 1 -ℤ pos 0))
    (omega (arith, ints, h le, natural_reaches (z +ℤ pos 1 -ℤ pos 0))))

pub turns_are : (first last step : ℤ) → pos 1 ≤ℤ step
    → turns_up_to first last step ≡ interval (pos 0) (int_div_euclid (last -ℤ first) step)
turns_are first last step h =
    let gap : ℤ = last -ℤ first in
    let q : ℤ = int_div_euclid gap step in
    let m : ℕ = natural (q +ℤ pos 1 -ℤ pos 0) in
    let below : (step *ℤ q) ≤ℤ gap = quotient_below gap step h in
    let fewer : pos 0 ≤ℤ q → q ≤ℤ gap = λ le. omega (arith, ints, below, product_grows step q h le) in
    let past : gap <ℤ (step *ℤ (pos 0 +ℤ pos m)) =
    above_quotient gap step (pos 0 +ℤ pos m) h (omega (arith, ints, natural_reaches (q +ℤ pos 1 -ℤ pos 0))) in
    taken (λ turn. int_le (first +ℤ (step *ℤ turn)) last) (pos 0) m (natural (gap +ℤ pos 1 -ℤ pos 0))
    (counts_fewer q gap fewer)
    (λ v l r. let ends : v <ℤ (q +ℤ pos 1 -ℤ pos 0) = natural_ends (q +ℤ pos 1 -ℤ pos 0) v l (omega (arith, ints)) in
    let within : (step *ℤ v) ≤ℤ gap = below_quotient gap step v h (omega (arith, ints)) in
    le-int_le (first +ℤ (step *ℤ v)) last (omega (arith, ints)))
    (let beyond : last <ℤ (first +ℤ (step *ℤ (pos 0 +ℤ pos m))) = omega (arith, ints) in grind (arith, ints))

pub in_turns : (first last step v : ℤ) → pos 1 ≤ℤ step → In v (turns_up_to first last step)
    → (pos 0 ≤ℤ v) × ((first +ℤ (step *ℤ v)) ≤ℤ last)
in_turns first last step v h k =
    let within =
    in_interval (pos 0) (int_div_euclid (last -ℤ first) step) v (subst (In v) (turns_are first last step h) k) in
    (within.0, omega (arith, ints, below_quotient (last -ℤ first) step v h within.1))

pub turns_in : (first last step v : ℤ) → pos 1 ≤ℤ step → pos 0 ≤ℤ v → (first +ℤ (step *ℤ v)) ≤ℤ last
    → In v (turns_up_to first last step)
turns_in first last step v h l r =
    subst (In v) (sym (turns_are first last step h))
    (interval_in (pos 0) (int_div_euclid (last -ℤ first) step) v l
    (to_quotient (last -ℤ first) step v h (omega (arith, ints))))
