use Rattle.std.proofs.Common.{ap, ◌∙◌, sym}
use Rattle.tree_graphs.proofs.Nodes.{same_proofs}
use Rattle.source_tree.specs.declared.tree.Tree.TheVariants.{Writer}
use Rattle.tree_join.proofs.leaf.point_proofs.Goals as goal

pub returns : goal.returns
returns c = λ place at_is.
    let at = c.args.at.now in
    let number = at.candidate.now.writes.write.number in
    at_is.1 ∙ ap (Writer number place) (same_proofs at.node.now number c.in-Writer.field-0 place c.in-Writer.field-1
    at_is.0 c.in-Writer.proofs at_is.1 c.in-Writer.is)
    ∙ ap (Writer number place) (sym c.as_slice.ensures)

pub unreachable-requires : goal.unreachable-requires
unreachable-requires c = let p = c.requires
    in c.in_default.not-Writer c.args.at.now.candidate.now.writes.write.number p.0 p.1.0 p.1.1
