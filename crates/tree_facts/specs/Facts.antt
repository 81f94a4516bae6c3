-- Facts of a context: rows that Cuts of its rows add.
use Rattle.std.specs.Prelude.{◌≡◌, ℕ, ◌≤◌, ◌+◌, ◌^◌, ◌++◌, length, List, map, All, Some}
use Rattle.affine_core.specs.declared.form.Form.{Form}
use Rattle.int_polyhedra.specs.Systems.{AreOver}
use Rattle.int_polyhedra.specs.declared.system.System.{System}
use Rattle.int_polyhedra.specs.declared.system.Proof.{Proof}
use Rattle.tree_sums.specs.Parts.{IsWithin}
use Rattle.source_tree.specs.Checked.{IsRefuted}
use Rattle.source_tree.specs.Rows.{RowExpr, Take, row_forms}
use Rattle.source_tree.specs.Systems.{Context}
use Rattle.tree_cuts.specs.Cuts.{AddRows, AddsRow}
use Rattle.tree_cuts.specs.declared.cuts.Cut.{Cut}
use Rattle.tree_facts.specs.Cuts.{proof_by_cuts}
use Rattle.tree_facts.specs.declared.search.Facts.{Facts}

-- the facts as rows, with these behind
abbrev pub fact_rows : List Form → List RowExpr → List RowExpr
fact_rows facts rest = map Take facts ++ rest

-- the Cuts add these rows to a context
pub record AddFacts (c : Context) (cuts : List Cut) (facts : List Form) : Type 0 where
  pub rows : List Form
  pub made : row_forms c.vars c.rows ≡ Some rows
  pub over : AreOver c.vars rows
  pub add : AddRows c.vars rows cuts facts
  pub facts_over : AreOver c.vars facts

-- A system over more variables that has the facts behind the context's rows: a proof that refutes it refutes the
-- one without the facts, with the Cuts in place of those that it names.
abbrev pub HoldsWithoutFacts : Type 0
HoldsWithoutFacts = (c : Context) (cuts : List Cut) (facts : List Form) (vars : ℕ)
    (more : List RowExpr) (p : Proof) → AddFacts c cuts facts → c.vars ≤ vars
    → IsRefuted (record { vars = vars; rows = c.rows ++ fact_rows facts more }) p
    → IsRefuted (record { vars = vars; rows = c.rows ++ more })
    (proof_by_cuts (length c.rows) (length (c.rows ++ more)) cuts p)

-- a row over the context's variables with small numbers, which a Cut adds to the context
pub record IsFactOf (context : System) (cut : Cut) (row : Form) : Type 0 where
  pub adds : AddsRow context.vars context.rows cut row
  pub over : length row.coefs ≡ context.vars
  pub within : IsWithin (2 ^ 41) row

-- each row is what its Cut adds to the context, and with them it has at most 64 rows
pub record AreFacts (context : System) (facts : Facts) : Type 0 where
  pub add : AddRows context.vars context.rows facts.cuts facts.rows
  pub over : AreOver context.vars facts.rows
  pub within : All (IsWithin (2 ^ 41)) facts.rows
  pub few : length context.rows + length facts.rows ≤ 64
