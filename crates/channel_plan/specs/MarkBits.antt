-- Marks that are kept as the bits of words, 64 in each.
use Rattle.std.specs.Prelude.{ℕ, ◌/◌, ◌%◌, ◌==◌, Bool, List, map, slice_index}
use Rattle.std.specs.List.{range_with_len}
use Rattle.std.specs.Int.{bit_at}

-- whether turn k is marked
abbrev pub mark_at : List ℕ → ℕ → Bool
mark_at words k = bit_at (slice_index words (k / 64)) (k % 64) == 1

-- the marks of so many turns
unfoldable pub marks_in : ℕ → List ℕ → List Bool
marks_in count words = map (mark_at words) (range_with_len 0 count)
