-- Least sums of edges between the loop variables of a writer.
use Rattle.std.specs.Prelude.{◌≡◌, ◌≤◌, ◌<◌, ◌*◌, ◌+◌, ◌^◌, ℕ, ℤ, pos, ◌<ℤ◌, List, [], length, All, Option, Some, slice_get, unsigned_abs, IfSome}
use Rattle.std.specs.Option.{option_map, option_and_then}
use Rattle.int_polyhedra.specs.declared.system.Term.{Term}
use Rattle.tree_graphs.specs.declared.closure.Bound.{Bound}
use Rattle.tree_graphs.specs.declared.closure.Bounds.{Bounds}
use Rattle.tree_graphs.specs.declared.closure.Closure.{Closure}
use Rattle.tree_graphs.specs.declared.closure.Closure.TheVariants.{Closed, Negative}
use Rattle.tree_graphs.specs.declared.edges.Edge.{Edge}
use Rattle.tree_graphs.specs.Paths.{IsPath}
use Rattle.tree_sums.specs.Closure.{AtMost, bounds_through, ClosedBelow}
use Rattle.tree_sums.specs.Parts.{part_of, weight}
use Rattle.tree_sums.specs.Shown.{RowParts}

-- so many items, and each has the property of its place
pub record AreEach {X : Type 0} (n : ℕ) (P : ℕ → X → Type 0) (xs : List X) : Type 0 where
  pub count : length xs ≡ n
  pub each : (k : ℕ) (x : X) → slice_get xs k ≡ Some x → P k x

-- a number as a row
abbrev pub number_parts : ℤ → RowParts
number_parts value part = part_of part (record { constant = value; coefs = [] })

abbrev pub value_of : Option Bound → Option ℤ
value_of bound = option_map (λ b. b.value) bound

-- the bound of two variables
abbrev pub bound_at : Bounds → ℕ → ℕ → Option Bound
bound_at bounds from to =
    option_and_then (λ row. option_and_then (λ bound. bound) (slice_get row to))
    (slice_get bounds.of from)

abbrev pub value_at : Bounds → ℕ → ℕ → Option ℤ
value_at bounds from to = value_of (bound_at bounds from to)

-- the bound is the sum of at most so many edges on a path
pub record IsBound (edges : List Edge) (most from to : ℕ) (bound : Bound) : Type 0 where
  pub path : IsPath edges bound.terms (number_parts bound.value) from to
  pub light : weight bound.terms ≤ most
  pub near : unsigned_abs bound.value ≤ 2 ^ 33 * most

-- no greater than the weight of any of these edges between the two variables
abbrev pub IsLeastOf : List Edge → ℕ → ℕ → Option Bound → Type 0
IsLeastOf edges from to bound =
    All (λ g. g.from ≡ from → g.to ≡ to → AtMost (value_of bound) (Some g.weight.constant)) edges

-- a better bound, by edges of which these are left
pub record IsBettered (whole rest : List Edge) (from to : ℕ) (old new : Option Bound) : Type 0 where
  pub sound : IfSome old (IsBound whole 1 from to) → IfSome new (IsBound whole 1 from to)
  pub no_greater : AtMost (value_of new) (value_of old)
  pub least : IsLeastOf rest from to new

-- the least bound by one edge, or by none from a variable to itself
pub record IsFirst (edges : List Edge) (from to : ℕ) (bound : Option Bound) : Type 0 where
  pub sound : IfSome bound (IsBound edges 1 from to)
  pub least : IsLeastOf edges from to bound
  pub itself : from ≡ to → AtMost (value_of bound) (Some (pos 0))

-- each bound is the sum of at most so many edges
abbrev pub AreBounds : List Edge → ℕ → Bounds → Type 0
AreBounds edges most bounds =
    (from to : ℕ) → IfSome (bound_at bounds from to) (IsBound edges most from to)

-- the lesser of a bound and of that of a path through one more variable
pub record IsThrough (edges : List Edge) (most : ℕ) (bounds : Bounds) (middle from to : ℕ)
    (bound : Option Bound) : Type 0 where
  pub sound : IfSome bound (IsBound edges (most + most) from to)
  pub is : value_of bound ≡ bounds_through middle (value_at bounds) from to

-- bounds of so many variables
abbrev pub AreAll : ℕ → (ℕ → ℕ → Option Bound → Type 0) → Bounds → Type 0
AreAll depth P bounds =
    AreEach depth (λ from row. AreEach depth (λ to bound. P from to bound) row) bounds.of

-- Bounds of so many variables that no path through the first of them betters: sums of at most so many edges,
-- no greater than any edge, and not above 0 from a variable to itself.
pub record AreClosed (edges : List Edge) (depth most count : ℕ) (bounds : Bounds) : Type 0 where
  pub square : AreAll depth (λ from to bound. Unit {0}) bounds
  pub sound : AreBounds edges most bounds
  pub closed : ClosedBelow count (value_at bounds)
  pub least : (from to : ℕ) → from < depth → to < depth
      → IsLeastOf edges from to (bound_at bounds from to)
  pub itself : (v : ℕ) → v < depth → AtMost (value_at bounds v v) (Some (pos 0))

-- terms whose sum is a negative number, along a path from a variable back to itself
pub record IsNegativeCycle (edges : List Edge) (ts : List Term) : Type 0 where
  pub variable : ℕ
  pub value : ℤ
  pub negative : value <ℤ pos 0
  pub path : IsPath edges ts (number_parts value) variable variable
  pub light : weight ts ≤ 64

-- the closure is what it says
abbrev pub IsClosure : List Edge → ℕ → Closure → Type 0
IsClosure edges depth (Closed bounds) = AreClosed edges depth 64 depth bounds
IsClosure edges depth (Negative ts) = IsNegativeCycle edges ts
