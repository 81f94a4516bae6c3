-- A read, and the writes of its array as problems of their own: each has its own domain rows and subscripts, and those of
-- the read, over the variables of one context.
use Rattle.std.specs.Prelude.{◌≡◌, ◌≤◌, ◌^◌, ℕ, List, length, map, All, Some, Contains, slice_get}
use Rattle.tree_graphs.specs.declared.writes.Problem.{Problem}
use Rattle.tree_order.specs.declared.candidates.Read.{Read}
use Rattle.int_polyhedra.specs.declared.system.System.{System}
use Rattle.int_polyhedra.specs.Systems.{AreOver}
use Rattle.tree_graphs.specs.Asked.{read_of, write_of}
use Rattle.tree_graphs.specs.Problems.{IsProblem}
use Rattle.tree_graphs.specs.Joint.{IsTreeFor, ReadAndWrite}
use Rattle.tree_graphs.specs.Level.{HasLevel}
use Rattle.tree_graphs.specs.declared.writes.Writes.{Writes}
use Rattle.tree_sums.specs.Parts.{IsWithin}
use Rattle.sanlp.specs.declared.nest.Nest.{Nest}
use Rattle.sanlp.specs.declared.nest.Statement.{Statement}
use Rattle.source_tree.specs.Systems.{Occurrence}
use Rattle.source_tree.specs.declared.tree.Tree.{Tree}

-- the read, with a problem's subscripts
abbrev pub read_in : Read → Problem → Occurrence
read_in r p = record {
  number = r.reference.number;
  statement = r.reference.statement.now;
  access = record r.reference.access.now { subscripts = p.read_forms };
}

-- the write, with a problem's domain rows and subscripts
abbrev pub write_in : Problem → Occurrence
write_in p = record {
  number = p.write.number;
  statement = record p.write.statement.now { rows = p.rows };
  access = record p.write.access.now { subscripts = p.write_forms };
}

-- the read and the write of a problem
abbrev pub pair_in : Read → Problem → ReadAndWrite
pair_in r p = record { read = read_in r p; write = write_in p }

-- the read and the write of each of these problems
abbrev pub pairs_with : Read → List Problem → List ReadAndWrite
pairs_with r problems = map (pair_in r) problems

-- the read and the write of each of a read's problems
abbrev pub pairs_of : Read → List ReadAndWrite
pairs_of r = pairs_with r r.problems.now

-- the read and the write of writes at one level
abbrev pub pair_of : Writes → ReadAndWrite
pair_of w = record { read = read_of w; write = write_of w }

-- the loops round the write are those round the statement of its number in the nest
pub record StandsInLoopsOf (n : Nest) (w : Occurrence) : Type 0 where
  pub statement : Statement
  pub is : slice_get n.statements w.number ≡ Some statement
  pub loops : statement.loops ≡ w.statement.loops

-- Each write is a problem over the context's variables at each level of order before its read, the writers are
-- different statements of one nest, and the context has few rows with small numbers.
pub record IsJoined (r : Read) : Type 0 where
  pub problems : (o : ReadAndWrite) (p : ℕ) → Contains (pairs_of r) o → HasLevel o.read o.write p
      → IsProblem r.context.now.vars o.read o.write p
  pub nest : Nest
  pub stand : All (λ o. StandsInLoopsOf nest o.write) (pairs_of r)
  pub one : (o other : ReadAndWrite) → Contains (pairs_of r) o → Contains (pairs_of r) other
      → o.write.number ≡ other.write.number → o ≡ other
  pub few : length r.problems.now ≤ 64
  pub few_vars : r.context.now.vars ≤ 12
  pub over : AreOver r.context.now.vars r.context.now.rows
  pub within : All (IsWithin (2 ^ 41)) r.context.now.rows
  pub few_rows : length r.context.now.rows ≤ 64

-- a tree is checked for the read and each of the writes, in each context that is made as these rows
abbrev pub IsJoinedTree : Read → System → Tree → Type 0
IsJoinedTree r = IsTreeFor (pairs_of r)
