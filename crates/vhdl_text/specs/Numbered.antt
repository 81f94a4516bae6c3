-- Texts in which one number stands again and again.
use Rattle.std.specs.Prelude.{ℕ, List, decimal}
use Rattle.std.specs.List.{join_by}

-- pieces with a number between each two
abbrev pub with_number : ℕ → List (List ℕ) → List ℕ
with_number n pieces = join_by (λ piece. piece) (decimal n) pieces
