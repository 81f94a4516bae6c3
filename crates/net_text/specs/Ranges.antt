-- The least and the greatest of numbers.
use Rattle.std.specs.Prelude.{ℕ, min, max, Option, Some, None, List, [], ◌∷◌, fold}

-- the least and the greatest of these numbers, or nothing where there is none
abbrev pub range_of : List ℕ → Option (ℕ × ℕ)
range_of [] = None
range_of (first ∷ others) = Some (fold min first others, fold max first others)

-- the least and the greatest of the numbers of two ranges
abbrev pub joined : Option (ℕ × ℕ) → Option (ℕ × ℕ) → Option (ℕ × ℕ)
joined None other = other
joined (Some range) None = Some range
joined (Some range) (Some other) = Some (min range.0 other.0, max range.1 other.1)
