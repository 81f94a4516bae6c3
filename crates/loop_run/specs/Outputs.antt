-- The values of an array's cells.
use Rattle.std.specs.Prelude.{ℕ, ℤ, pos, List, [], ◌∷◌, ◌++◌}
use Rattle.std.specs.List.{flat_map}
use Rattle.sanlp.specs.Cells.{counted, natural}
use Rattle.sanlp.specs.Memory.{Memory, cell_value}

-- the values of the cells whose first subscripts are given, in row-major order; the extents are those of the others
abbrev pub values_inside : Memory → ℕ → List ℤ → List ℤ → List ℤ
values_inside m array [] at = cell_value m (array, at) ∷ []
values_inside m array (e ∷ extents) at =
    flat_map (λ v. values_inside m array extents (at ++ v ∷ [])) (counted (pos 0) (natural e))
