-- The points of each process.
use Rattle.std.specs.Prelude.{ℕ, ℤ, List, [], ◌∷◌, map, length, ◌==◌, if◌then◌else◌}
use Rattle.std.specs.List.{range_with_len}
use Rattle.sanlp.specs.declared.nest.Nest.{Nest}
use Rattle.sanlp.specs.declared.nest.Point.{Point}
use Rattle.sanlp.specs.Trace.{trace}

-- the iteration vectors of a statement's points, in order
abbrev pub vectors_of : List Point → ℕ → List (List ℤ)
vectors_of [] s = []
vectors_of (p ∷ points) s =
    if p.statement == s then p.at ∷ vectors_of points s else vectors_of points s

-- for each statement, the iteration vectors of its entries in the trace, in order
unfoldable pub points_of : Nest → List (List (List ℤ))
points_of n = map (vectors_of (trace n)) (range_with_len 0 (length n.statements))
