-- Contexts of a tree that are made as the rows of a system.
use Rattle.std.specs.Prelude.{◌≡◌, Some}
use Rattle.int_polyhedra.specs.declared.system.System.{System}
use Rattle.source_tree.specs.Rows.{row_forms}
use Rattle.source_tree.specs.Systems.{Context}

-- the context is made as these rows
pub record IsMadeAs (context : System) (c : Context) : Type 0 where
  pub vars : c.vars ≡ context.vars
  pub rows : row_forms c.vars c.rows ≡ Some context.rows
