-- Cycles of rows on a writer's point: forms that are at least 0 wherever a point is, and rows that
-- are below 0 together.
use Rattle.std.specs.Prelude.{◌≡◌, ◌≤◌, ◌^◌, ◌+◌, ℕ, pos, ◌+ℤ◌, ◌<ℤ◌, List, length}
use Rattle.affine_core.specs.declared.form.Form.{Form}
use Rattle.tree_graphs.specs.Facts.{form_parts}
use Rattle.tree_graphs.specs.Paths.{IsPath}
use Rattle.tree_graphs.specs.declared.cycles.Cycle.{Cycle}
use Rattle.tree_graphs.specs.declared.edges.Edge.{Edge}
use Rattle.int_polyhedra.specs.declared.system.Term.{Term}
use Rattle.tree_sums.specs.Parts.{the_constant, the_coefficient, weight, IsWithin}
use Rattle.tree_sums.specs.Shown.{RowParts, Shows}

-- A row that terms show in a context and the sum of a path of edges from a node back to itself add up to a
-- negative number.
pub record IsContradiction (vars : ℕ) (context : List Form) (edges : List Edge)
    (shown ts : List Term) : Type 0 where
  pub row : RowParts
  pub sum : RowParts
  pub node : ℕ
  pub narrow : (i : ℕ) → vars ≤ i → row (the_coefficient i) ≡ pos 0
  pub shows : Shows vars context shown row
  pub cycle : IsPath edges ts sum node node
  pub negative : (row the_constant +ℤ sum the_constant) <ℤ pos 0
  pub no_variable : (i : ℕ) → row (the_coefficient i) +ℤ sum (the_coefficient i) ≡ pos 0
  pub light : weight shown + weight ts ≤ 2 ^ 25

-- a cycle: a form over the variables of a context that is the sum of a path from a node back to itself
pub record IsCycle (vars : ℕ) (edges : List Edge) (cycle : Cycle) : Type 0 where
  pub node : ℕ
  pub path : IsPath edges cycle.terms (form_parts cycle.form) node node
  pub over : length cycle.form.coefs ≡ vars
  pub within : IsWithin (2 ^ 40) cycle.form
  pub light : weight cycle.terms ≤ 66
