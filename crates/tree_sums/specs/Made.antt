-- Rows as they are made from forms by sums and multiples: their parts, and how far from 0 their numbers are.
use Rattle.std.specs.Prelude.{◌≤◌, ℕ, ◌+◌, ◌*◌, ◌+ℤ◌, ◌*ℤ◌, length, unsigned_abs}
use Rattle.tree_sums.specs.Parts.{part_of, IsWithin}
use Rattle.tree_sums.specs.Shown.{RowParts}
use Rattle.source_tree.specs.Rows.{RowExpr, Take, Plus, Times}

-- the parts of a row, over unbounded numbers
abbrev pub parts_of : RowExpr → RowParts
parts_of (Take form) part = part_of part form
parts_of (Plus a b) part = parts_of a part +ℤ parts_of b part
parts_of (Times k e) part = parts_of e part *ℤ k

-- no number of a form that the row takes is farther from 0, and none has more variables
abbrev pub TakesWithin : ℕ → ℕ → RowExpr → Type 0
TakesWithin vars bound (Take form) = (length form.coefs ≤ vars) × IsWithin bound form
TakesWithin vars bound (Plus a b) = TakesWithin vars bound a × TakesWithin vars bound b
TakesWithin vars bound (Times k e) = TakesWithin vars bound e

-- how far from 0 the row's numbers are at most, on the way too
abbrev pub reach : ℕ → RowExpr → ℕ
reach bound (Take form) = bound
reach bound (Plus a b) = reach bound a + reach bound b
reach bound (Times k e) = unsigned_abs k * reach bound e + reach bound e
