-- Turns of a loop whose body is one assignment.
use Rattle.std.specs.Prelude.{◌<◌, ℕ, ℤ, List, [], ◌∷◌, ◌++◌, map, length, IsTrue}
use Rattle.sanlp.specs.declared.nest.Point.{Point}
use Rattle.sanlp.specs.Size.{is_loop_value}

-- the points of a statement at these values of the innermost loop round it
abbrev pub assignment_points : ℕ → List ℤ → List ℤ → List Point
assignment_points statement values outer =
    map (λ value. record { statement = statement; at = outer ++ value ∷ [] }) values

-- the turns are of a loop that may stand inside these
pub record IsRun (outer : List ℤ) (value last : ℤ) : Type 0 where
  pub shallow : length outer < 6
  pub value_within : IsTrue (is_loop_value value)
  pub last_within : IsTrue (is_loop_value last)
