-- Least sums of differences, one loop variable after the other.
use Rattle.std.specs.Prelude.{ℕ, ◌<◌, ℤ, pos, ◌+ℤ◌, ◌≤ℤ◌, Option, Some, None}
use Rattle.std.specs.Int.{int_min}

-- the greatest known difference of two variables' values, or no bound
abbrev pub Bounds : Type 0
Bounds = ℕ → ℕ → Option ℤ

abbrev pub lesser : Option ℤ → Option ℤ → Option ℤ
lesser None y = y
lesser (Some x) None = Some x
lesser (Some x) (Some y) = Some (int_min x y)

abbrev pub bound_sum : Option ℤ → Option ℤ → Option ℤ
bound_sum (Some x) (Some y) = Some (x +ℤ y)
bound_sum (Some x) None = None
bound_sum None y = None

abbrev pub AtMost : Option ℤ → Option ℤ → Type 0
AtMost x None = Unit {0}
AtMost (Some x) (Some y) = x ≤ℤ y
AtMost None (Some y) = ⊥

-- the bounds, where paths may also go through one more variable
abbrev pub bounds_through : ℕ → Bounds → Bounds
bounds_through v d from to = lesser (d from to) (bound_sum (d from v) (d v to))

-- no path through one of the first variables is shorter
abbrev pub ClosedBelow : ℕ → Bounds → Type 0
ClosedBelow count d =
    (v : ℕ) → v < count → (from to : ℕ) → AtMost (d from to) (bound_sum (d from v) (d v to))

abbrev pub NotNegative : Option ℤ → Type 0
NotNegative None = Unit {0}
NotNegative (Some x) = pos 0 ≤ℤ x
