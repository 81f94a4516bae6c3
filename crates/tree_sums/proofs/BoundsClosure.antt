-- Going through one more variable closes the bounds.
--
-- Each new bound is the lesser of the old one and of the way through the new variable, so a sum of two new bounds is
-- one of four sums of old ones. At an earlier variable each of these four is no less than the new bound, since the old
-- bounds were closed there; the one that goes through the new variable twice goes round it once, and that is not
-- negative. At the new variable itself going round it betters nothing, for the same reason. Nothing is said of
-- variables that are still to come.
use Rattle.std.proofs.Common.{◌≡◌, ℤ, subst, inl, inr, arith, ℕ, ◌+◌}
use Rattle.std.specs.Prelude.{Option, Some, None}
use Rattle.std.proofs.lemmas.Int.{ints, int_min_is}
use Rattle.std.proofs.lemmas.Bool.{cases_lt}
use Rattle.tree_sums.specs.Closure.{lesser, bound_sum, AtMost, bounds_through, NotNegative, Bounds, ClosedBelow}

at_most_same : (x : Option ℤ) → AtMost x x
at_most_same None = tt
at_most_same (Some x) = omega (arith, ints)

least_left : (x y z : Option ℤ) → AtMost x z → AtMost (lesser x y) z
least_left x y None h = tt
least_left None y (Some z) h = absurd h
least_left (Some x) None (Some z) h = h
least_left (Some x) (Some y) (Some z) h = omega (arith, ints, h, int_min_is x y)

least_right : (x y z : Option ℤ) → AtMost y z → AtMost (lesser x y) z
least_right x y None h = tt
least_right None y (Some z) h = h
least_right (Some x) None (Some z) h = absurd h
least_right (Some x) (Some y) (Some z) h = omega (arith, ints, h, int_min_is x y)

both_least_left : (t p q r : Option ℤ) → AtMost t (bound_sum p r) → AtMost t (bound_sum q r)
    → AtMost t (bound_sum (lesser p q) r)
both_least_left t None q r h k = k
both_least_left t (Some p) None r h k = h
both_least_left t (Some p) (Some q) None h k = tt
both_least_left None (Some p) (Some q) (Some r) h k = absurd h
both_least_left (Some t) (Some p) (Some q) (Some r) h k = omega (arith, ints, h, k, int_min_is p q)

both_least_right : (t p r s : Option ℤ) → AtMost t (bound_sum p r) → AtMost t (bound_sum p s)
    → AtMost t (bound_sum p (lesser r s))
both_least_right t None r s h k = tt
both_least_right t (Some p) None s h k = k
both_least_right t (Some p) (Some r) None h k = h
both_least_right None (Some p) (Some r) (Some s) h k = absurd h
both_least_right (Some t) (Some p) (Some r) (Some s) h k = omega (arith, ints, h, k, int_min_is r s)

both_least : (t p q r s : Option ℤ) → AtMost t (bound_sum p r) → AtMost t (bound_sum p s) → AtMost t (bound_sum q r)
    → AtMost t (bound_sum q s) → AtMost t (bound_sum (lesser p q) (lesser r s))
both_least t p q r s pr ps qr qs =
    both_least_left t p q (lesser r s) (both_least_right t p r s pr ps) (both_least_right t q r s qr qs)

shift_right : (x a b c : Option ℤ) → AtMost x (bound_sum a b) → AtMost (bound_sum x c) (bound_sum a (bound_sum b c))
shift_right (Some x) (Some a) (Some b) (Some c) h = omega (arith, ints, h)
shift_right None (Some a) (Some b) (Some c) h = absurd h
shift_right _ _ _ _ h = tt

shift_left : (y a b c : Option ℤ) → AtMost y (bound_sum b c) → AtMost (bound_sum a y) (bound_sum (bound_sum a b) c)
shift_left (Some y) (Some a) (Some b) (Some c) h = omega (arith, ints, h)
shift_left None (Some a) (Some b) (Some c) h = absurd h
shift_left _ _ _ _ h = tt

-- once round and back to where it was
round : (w a b c z : Option ℤ) → AtMost w (bound_sum b c) → NotNegative w
    → AtMost (bound_sum a z) (bound_sum (bound_sum a b) (bound_sum c z))
round (Some w) (Some a) (Some b) (Some c) (Some z) h k = omega (arith, ints, h, k)
round None (Some a) (Some b) (Some c) (Some z) h k = absurd h
round _ _ _ _ _ h k = tt

stay_right : (w a z : Option ℤ) → NotNegative w → AtMost (bound_sum a z) (bound_sum a (bound_sum w z))
stay_right _ None _ k = tt
stay_right (Some w) (Some a) (Some z) k = omega (arith, ints, k)
stay_right _ _ _ k = tt

stay_left : (w a z : Option ℤ) → NotNegative w → AtMost (bound_sum a z) (bound_sum (bound_sum a w) z)
stay_left _ None _ k = tt
stay_left (Some w) (Some a) (Some z) k = omega (arith, ints, k)
stay_left _ _ _ k = tt

twice : (w a z : Option ℤ) → NotNegative w → AtMost (bound_sum a z) (bound_sum (bound_sum a w) (bound_sum w z))
twice _ None _ k = tt
twice (Some w) (Some a) (Some z) k = omega (arith, ints, k)
twice _ _ _ k = tt

pub closes : (v : ℕ) (d : Bounds) → ClosedBelow v d → NotNegative (d v v) → ClosedBelow (v + 1) (bounds_through v d)
closes v d closed plain u below from to = elim (cases_lt u v) [
  | inl lt ↦
      both_least (bounds_through v d from to) (d from u) (bound_sum (d from v) (d v u)) (d u to)
      (bound_sum (d u v) (d v to))
      (least_left (d from to) (bound_sum (d from v) (d v to)) (bound_sum (d from u) (d u to)) (closed u lt from to))
      (least_right (d from to) (bound_sum (d from v) (d v to)) (bound_sum (d from u) (bound_sum (d u v) (d v to)))
      (shift_right (d from v) (d from u) (d u v) (d v to) (closed u lt from v)))
      (least_right (d from to) (bound_sum (d from v) (d v to)) (bound_sum (bound_sum (d from v) (d v u)) (d u to))
      (shift_left (d v to) (d from v) (d v u) (d u to) (closed u lt v to)))
      (least_right (d from to) (bound_sum (d from v) (d v to))
      (bound_sum (bound_sum (d from v) (d v u)) (bound_sum (d u v) (d v to)))
      (round (d v v) (d from v) (d v u) (d u v) (d v to) (closed u lt v v) plain))
  | inr ge ↦
      subst (λ u. AtMost (bounds_through v d from to) (bound_sum (bounds_through v d from u) (bounds_through v d u to)))
      (let e : v ≡ u = omega arith in e)
      (both_least (bounds_through v d from to) (d from v) (bound_sum (d from v) (d v v)) (d v to)
      (bound_sum (d v v) (d v to))
      (least_right (d from to) (bound_sum (d from v) (d v to)) (bound_sum (d from v) (d v to))
      (at_most_same (bound_sum (d from v) (d v to))))
      (least_right (d from to) (bound_sum (d from v) (d v to)) (bound_sum (d from v) (bound_sum (d v v) (d v to)))
      (stay_right (d v v) (d from v) (d v to) plain))
      (least_right (d from to) (bound_sum (d from v) (d v to)) (bound_sum (bound_sum (d from v) (d v v)) (d v to))
      (stay_left (d v v) (d from v) (d v to) plain))
      (least_right (d from to) (bound_sum (d from v) (d v to))
      (bound_sum (bound_sum (d from v) (d v v)) (bound_sum (d v v) (d v to)))
      (twice (d v v) (d from v) (d v to) plain)))
]
