-- A Writer leaf and its proofs.
use Rattle.std.specs.Prelude.{◌≡◌, ◌≤◌, ◌<◌, ◌^◌, ◌+◌, ◌*◌, ℕ, List, [], ◌∷◌, ◌++◌, length, All, Some, slice_get, ◌⊎◌}
use Rattle.affine_core.specs.declared.form.Form.{Form}
use Rattle.int_polyhedra.specs.declared.system.Proof.{Proof}
use Rattle.int_polyhedra.specs.declared.system.Proof.TheVariants.{Sum}
use Rattle.int_polyhedra.specs.declared.system.System.{System}
use Rattle.int_polyhedra.specs.declared.system.Term.{Term}
use Rattle.int_polyhedra.specs.Systems.{AreOver}
use Rattle.tree_graphs.specs.Asked.{depth_of_write, read_of, write_of}
use Rattle.tree_graphs.specs.Edges.{AreLevelRows}
use Rattle.tree_graphs.specs.Facts.{form_parts, IsFact}
use Rattle.tree_graphs.specs.Paths.{term_of, terms_from, IsPath}
use Rattle.tree_graphs.specs.Simple.{IsLightSum}
use Rattle.lex_max.specs.declared.decide.Choice.{Choice}
use Rattle.tree_graphs.specs.declared.edges.Edge.{Edge}
use Rattle.tree_graphs.specs.declared.writes.Writes.{Writes}
use Rattle.tree_sums.specs.Made.{parts_of}
use Rattle.tree_sums.specs.Parts.{weight, IsWithin}
use Rattle.source_tree.specs.Checked.{AreRefuted, IsRefuted}
use Rattle.source_tree.specs.Places.{before_rows}
use Rattle.source_tree.specs.Rows.{RowExpr, RowSystem, row_forms}
use Rattle.source_tree.specs.Systems.{Context, reader_place, with_rows}

-- a context, as it is made: rows over its variables with small numbers
pub record IsMadeFrom (c : Context) (context : System) : Type 0 where
  pub vars : context.vars ≡ c.vars
  pub rows : row_forms c.vars c.rows ≡ Some context.rows
  pub over : AreOver c.vars context.rows
  pub within : All (IsWithin (2 ^ 41)) context.rows

-- a place of the writer: one form over the variables of a context for each loop, with small numbers
pub record IsPlaceOf (w : Writes) (place : List Form) : Type 0 where
  pub deep : length place ≡ depth_of_write w
  pub over : All (λ form. length form.coefs ≡ w.vars) place
  pub within : All (IsWithin (2 ^ 40)) place

-- what the proofs of a Writer leaf stand on; the rows of the context are numbered below `here`
pub record IsLeafOf (w : Writes) (c : Context) (context : System) (place : List Form) (here : ℕ)
    : Type 0 where
  pub made : IsMadeFrom c context
  pub vars : c.vars ≡ w.vars
  pub few : length context.rows ≤ 4096
  pub numbered : here ≡ length context.rows
  pub placed : IsPlaceOf w place

-- per row terms that show it in the context
abbrev pub AreShown : System → List RowExpr → List (List Term) → Type 0
AreShown context [] [] = Unit {0}
AreShown context [] (terms ∷ certs) = ⊥
AreShown context (row ∷ rows) [] = ⊥
AreShown context (row ∷ rows) (terms ∷ certs) =
    IsFact context (2 ^ 23) (parts_of row) terms × AreShown context rows certs

-- light Sums were added that refute these systems, behind the proofs of other systems
pub record AddsProofs (systems : List RowSystem) (old new : List Proof) : Type 0 where
  pub refuted : (before : List RowSystem) → AreRefuted before old
      → AreRefuted (before ++ systems) new
  pub light : All IsLightSum old → All IsLightSum new

-- the terms that show the order rows of a leaf's point before the read
pub record AreOrderCerts (w : Writes) (here : ℕ) (c : Context) (context : System)
    (place : List Form) (order : List (List Term)) : Type 0 where
  pub leaf : IsLeafOf w c context place here
  pub level : List RowExpr
  pub level_is : AreLevelRows (read_of w) (write_of w) w.level place level
  pub shown : AreShown context level order

-- the reader before the writer exists at this level
abbrev pub HasAfter : Writes → ℕ → Type 0
HasAfter w l = (l < w.common) ⊎ ((l ≡ w.common) × (w.read.number < w.write.number))

-- per level the order rows of the reader before a place of the writer
abbrev pub after_levels : Writes → List Form → List (List RowExpr)
after_levels w place =
    before_rows w.read.number w.read.statement.now (reader_place (read_of w)) w.write.number
    w.write.statement.now place

-- a light Sum refutes that the reader is before a place of the writer at this level
pub record IsAfterProof (w : Writes) (c : Context) (place : List Form) (level : ℕ) (proof : Proof)
    : Type 0 where
  pub rows : List RowExpr
  pub is : slice_get (after_levels w place) level ≡ Some rows
  pub refuted : IsRefuted (with_rows c rows) proof
  pub light : IsLightSum proof

-- The Sum of a path to a loop variable, whose terms add up to the form that is chosen for it less the
-- variable, and of the row at that level behind the order rows of the levels above.
pub record IsBetweenProof (w : Writes) (edges : List Edge) (here : ℕ) (choices : List Choice)
    (level : ℕ) (proof : Proof) : Type 0 where
  pub choice : Choice
  pub chosen : slice_get choices level ≡ Some choice
  pub path : List Term
  pub is_path : IsPath edges path (form_parts choice.form) (depth_of_write w) level
  pub light : weight path ≤ 65
  pub is : proof
      ≡ Sum (terms_from here path ++ term_of (here + length edges + 2 * level) ∷ [])
