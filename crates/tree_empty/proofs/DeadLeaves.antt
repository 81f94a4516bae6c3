-- A Dead leaf whose proof refutes its context is joined there.
--
-- A Dead leaf asks for one refutation, that of its context's rows as they are made, and in a context that is made
-- as a system these are the system's rows. So it is checked for whatever reads and writes. Its proof may be any,
-- not only a Sum.
use Rattle.std.proofs.Common.{◌≡◌, List, sym, subst}
use Rattle.tree_graphs.specs.Joint.{at_dead, IsTreeFor, ReadAndWrite}
use Rattle.int_polyhedra.specs.declared.system.Proof.{Proof}
use Rattle.int_polyhedra.specs.declared.system.System.{System}
use Rattle.int_polyhedra.specs.Rules.{Refutes}
use Rattle.source_tree.specs.declared.tree.Tree.{Tree}
use Rattle.source_tree.specs.declared.tree.Tree.TheVariants.{Dead}

pub joined_dead : (pairs : List ReadAndWrite) (context : System) (proof : Proof) (tree : Tree) → tree ≡ Dead proof
    → Refutes context.vars context.rows proof → IsTreeFor pairs context tree
joined_dead pairs context proof tree is refuted c made =
    at_dead c tree proof is (
      record {
        rows = context.rows;
        are_made = made.rows;
        refuted = subst (λ v. Refutes v context.rows proof) (sym made.vars) refuted;
      },
      tt,
    )
