use Rattle.std.proofs.Common.{refl, subst}
use Rattle.std.specs.Bool.{OnTrue}
use Rattle.int_polyhedra.specs.Rules.{Refutes}
use Rattle.int_polyhedra.specs.declared.system.Proof.TheVariants.{Sum}
use Rattle.tree_graphs.proofs.Heights.{height_dead}
use Rattle.tree_empty.proofs.DeadLeaves.{joined_dead}
use Rattle.source_tree.specs.declared.tree.Tree.TheVariants.{Dead}
use Rattle.tree_empty.proofs.empty.dead_by.Goals as goal

pub returns-then-is_refuted-clause-joined : goal.returns-then-is_refuted-clause-joined
returns-then-is_refuted-clause-joined c = λ pairs.
    joined_dead pairs c.args.context.now.system.now (Sum c.args.terms) (Dead (Sum c.args.terms)) refl
    (subst (λ told. OnTrue told (Refutes c.args.context.now.system.now.vars c.args.context.now.system.now.rows
    (Sum c.args.terms)))
    c.if-is_refuted.true c.is_refuted.ensures)

pub returns-then-is_refuted-clause-low : goal.returns-then-is_refuted-clause-low
returns-then-is_refuted-clause-low c = height_dead (Dead (Sum c.args.terms)) (Sum c.args.terms) refl
