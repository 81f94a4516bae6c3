-- The texts of points.
use Rattle.std.specs.Prelude.{ℕ, ℤ, List, ◌++◌, codes, decimal, map}
use Rattle.std.specs.Fmt.{signed_decimal}
use Rattle.std.specs.List.{join_with_byte}
use Rattle.sanlp.specs.declared.nest.Point.{Point}

-- the loop values with commas between them
abbrev pub values_text : List ℤ → List ℕ
values_text values = join_with_byte 44 (map signed_decimal values)

-- an iteration vector is its loop values in parentheses, as (2,3)
abbrev pub vector_text : List ℤ → List ℕ
vector_text values = codes "(" ++ (values_text values ++ codes ")")

-- a point is the number of its statement and its iteration vector, as 1(2,3)
abbrev pub point_text : Point → List ℕ
point_text point = decimal point.statement ++ vector_text point.at
