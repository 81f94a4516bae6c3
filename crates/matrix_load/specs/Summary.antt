-- The summary of a run.
use Rattle.std.specs.Prelude.{ℕ, ℤ, pos, ◌+ℤ◌, List, ◌++◌, codes, decimal}
use Rattle.std.specs.Fmt.{signed_decimal}
use Rattle.std.specs.Int.{w64, int_wrap}
use Rattle.std.specs.List.{fold}

-- the sum of whole numbers, in 64-bit two's complement
abbrev pub wrapping_sum : List ℤ → ℤ
wrapping_sum numbers = int_wrap w64 (fold ◌+ℤ◌ (pos 0) numbers)

-- a name with a space behind it, then digits, and a line feed
abbrev pub line_text : List ℕ → List ℕ → List ℕ
line_text name digits = name ++ (digits ++ codes "\n")

-- the length of the trace, the numbers of channels and events, and the sum of the product's cells
abbrev pub summary_text : ℕ → ℕ → ℕ → ℤ → List ℕ
summary_text points channels events sum =
    line_text (codes "points ") (decimal points)
    ++ (line_text (codes "channels ") (decimal channels)
    ++ (line_text (codes "events ") (decimal events)
    ++ line_text (codes "sum ") (signed_decimal sum)))
