-- Contexts of the joined tree.
use Rattle.std.specs.Prelude.{◌≡◌, ◌≤◌, ◌^◌, ℕ, ◌+◌, length, All}
use Rattle.int_polyhedra.specs.declared.system.System.{System}
use Rattle.int_polyhedra.specs.Systems.{AreOver}
use Rattle.tree_sums.specs.Parts.{IsWithin}

-- Rows over so many variables with small numbers. There is room for so many rows more.
pub record IsPathContext (vars room : ℕ) (context : System) : Type 0 where
  pub vars_are : context.vars ≡ vars
  pub over : AreOver context.vars context.rows
  pub within : All (IsWithin (2 ^ 50)) context.rows
  pub few : length context.rows + room ≤ 2 ^ 30
