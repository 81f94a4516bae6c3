-- The systems of the leaves of a tree for several writes, and when such a tree is checked.
use Rattle.std.specs.Prelude.{◌≡◌, ◌^◌, ◌+◌, ℕ, List, [], ◌∷◌, ◌++◌, length, All, Contains}
use Rattle.std.specs.List.{flat_map}
use Rattle.affine_core.specs.declared.form.Form.{Form}
use Rattle.tree_graphs.specs.Contexts.{IsMadeAs}
use Rattle.int_polyhedra.specs.declared.system.Proof.{Proof}
use Rattle.int_polyhedra.specs.declared.system.Proof.TheVariants.{Sum}
use Rattle.int_polyhedra.specs.declared.system.System.{System}
use Rattle.int_polyhedra.specs.declared.system.Term.{Term}
use Rattle.tree_sums.specs.Parts.{IsWithin}
use Rattle.source_tree.specs.Checked.{AreRefuted, HaveVariables}
use Rattle.source_tree.specs.Places.{before_rows}
use Rattle.source_tree.specs.Rows.{RowExpr, RowSystem}
use Rattle.source_tree.specs.Systems.{Context, Occurrence, Which, every, just, test_yes, test_no, writer_place, write_systems, outside_systems, cell_systems, after_systems, dead_systems}
use Rattle.source_tree.specs.declared.tree.Tree.{Tree}
use Rattle.source_tree.specs.declared.tree.Tree.TheVariants.{Writer, Zero, Dead}
use Rattle.source_tree.specs.declared.tree.Tree.TheViews.{Test}

-- a read and a write of its array
pub record ReadAndWrite : Type 0 where
  pub read : Occurrence
  pub write : Occurrence

-- without an order behind
abbrev pub no_orders : Occurrence → List (List RowExpr)
no_orders u = [] ∷ []

-- per level of order the order rows of a place of w before a writer's point
abbrev pub orders_behind : Occurrence → List Form → Context → Occurrence → List (List RowExpr)
orders_behind w place c u =
    before_rows w.number w.statement place u.number u.statement (writer_place c u)

-- each of the writes before its read, at the levels that are chosen, with each of these orders
abbrev pub write_systems_of : Which → List ReadAndWrite → Context
    → (Occurrence → List (List RowExpr)) → List RowSystem
write_systems_of which pairs c further =
    flat_map (λ o. write_systems o.read which c further o.write) pairs

-- a place of a write is outside its domain, writes another cell than its read reads, or isn't before the read
abbrev pub head_systems : ReadAndWrite → List Form → Context → List RowSystem
head_systems o place c =
    outside_systems c o.write place
    ++ (cell_systems o.read c o.write place ++ after_systems o.read c o.write place)

-- or one of the writes is between the place and its read
abbrev pub place_systems : Which → List ReadAndWrite → ReadAndWrite → List Form → Context
    → List RowSystem
place_systems which pairs o place c =
    head_systems o place c ++ write_systems_of which pairs c (orders_behind o.write place c)

-- the proof is a sum of rows
abbrev pub IsSum : Proof → Type 0
IsSum proof = (ts : List Term) × (proof ≡ Sum ts)

-- The number is that of one of the writes, the place has a form with small numbers for each of its loops, and the
-- proofs are Sums that refute its systems, as at a Writer leaf of a tree that is checked.
pub record IsPointFor (which : Which) (pairs : List ReadAndWrite) (c : Context) (number : ℕ)
    (place : List Form) (proofs : List Proof) : Type 0 where
  pub pair : ReadAndWrite
  pub among : Contains pairs pair
  pub number_is : number ≡ pair.write.number
  pub deep : length place ≡ length pair.write.statement.loops
  pub over : HaveVariables c.vars place
  pub within : All (IsWithin (2 ^ 48)) place
  pub refuted : AreRefuted (place_systems which pairs pair place c) proofs
  pub sums : All IsSum proofs

-- A tree of Tests in a context is checked for these reads and writes at the levels that are chosen: its
-- forms have as many variables as there are and small numbers, a Writer leaf names the statement of one of
-- the writes and has a form with small numbers for each of its loops, and each leaf's proofs refute its
-- systems. Those of Writer and Zero leaves are Sums.
pub data IsCheckedForAll (which : Which) (pairs : List ReadAndWrite) : Context → Tree
    → Type 0 where
  at_test : (c : Context) (tree : Tree) (form : Form) (above below : Tree)
      → tree ≡ Test form above below
      → length form.coefs ≡ c.vars → IsWithin (2 ^ 49 + 1) form
      → IsCheckedForAll which pairs (test_yes c form) above
      → IsCheckedForAll which pairs (test_no c form) below
      → IsCheckedForAll which pairs c tree
  at_writer : (c : Context) (tree : Tree) (number : ℕ) (place : List Form) (proofs : List Proof)
      → tree ≡ Writer number place proofs → IsPointFor which pairs c number place proofs
      → IsCheckedForAll which pairs c tree
  at_zero : (c : Context) (tree : Tree) (proofs : List Proof) → tree ≡ Zero proofs
      → AreRefuted (write_systems_of which pairs c no_orders) proofs → All IsSum proofs
      → IsCheckedForAll which pairs c tree
  at_dead : (c : Context) (tree : Tree) (proof : Proof) → tree ≡ Dead proof
      → AreRefuted (dead_systems c) (proof ∷ [])
      → IsCheckedForAll which pairs c tree

-- a tree is checked for these reads and writes at all levels, in each context made as these rows
abbrev pub IsTreeFor : List ReadAndWrite → System → Tree → Type 0
IsTreeFor pairs context tree =
    (c : Context) → IsMadeAs context c → IsCheckedForAll every pairs c tree

-- One write at level p before a read

-- the read and the write
abbrev pub read_and_write : Occurrence → Occurrence → ReadAndWrite
read_and_write r w = record { read = r; write = w }

-- the write before the read
abbrev pub none_systems : Occurrence → Occurrence → ℕ → Context → List RowSystem
none_systems r w p c = write_systems_of (just w.number p) (read_and_write r w ∷ []) c no_orders

-- the write between a place and the read
abbrev pub later_systems : Occurrence → Occurrence → ℕ → Context → List Form → List RowSystem
later_systems r w p c place =
    write_systems_of (just w.number p) (read_and_write r w ∷ []) c (orders_behind w place c)

-- a place of the write is outside its domain, writes another cell, isn't before the read or not the last
abbrev pub point_systems : Occurrence → Occurrence → ℕ → Context → List Form → List RowSystem
point_systems r w p c place =
    place_systems (just w.number p) (read_and_write r w ∷ []) (read_and_write r w) place c

-- a tree is checked for the write
abbrev pub IsCheckedFor : Occurrence → Occurrence → ℕ → Context → Tree → Type 0
IsCheckedFor r w p = IsCheckedForAll (just w.number p) (read_and_write r w ∷ [])
