use Rattle.std.proofs.Common.{ap, ◌∙◌, sym}
use Rattle.tree_graphs.proofs.Nodes.{same_writer}
use Rattle.source_tree.specs.declared.tree.Tree.TheVariants.{Writer}
use Rattle.tree_join.proofs.leaf.point_of.Goals as goal

pub returns : goal.returns
returns c =
    let at = c.args.at.now in
    let number = at.candidate.now.writes.write.number in
    let p = c.requires in (
      c.in-Writer.field-2,
      c.in-Writer.is ∙ ap (λ s. Writer s c.in-Writer.forms c.in-Writer.field-2)
          (same_writer at.node.now c.in-Writer.field-0 number c.in-Writer.forms p.0 c.in-Writer.field-2 p.1.0
          c.in-Writer.is p.1.1)
          ∙ ap (λ f. Writer number f c.in-Writer.field-2) (sym c.as_slice.ensures),
    )

pub unreachable-requires : goal.unreachable-requires
unreachable-requires c = let p = c.requires
    in c.in_default.not-Writer c.args.at.now.candidate.now.writes.write.number p.0 p.1.0 p.1.1
