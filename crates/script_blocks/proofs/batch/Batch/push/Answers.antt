use Rattle.std.proofs.Common.{◌∷◌, ◌++◌, [], ap, ◌∙◌}
use Rattle.script_blocks.proofs.Batches.{front_more, front_room, present_more}
use Rattle.script_blocks.proofs.batch.Batch.push.Goals as goal

pub invariant_of-self : goal.invariant_of-self
invariant_of-self g c =
    front_more c.self.inside.items c.self.inside.len c.self.invariant c.args.item
    (front_room c.self.inside.items c.self.inside.len c.self.invariant c.args.self.now c.self.view_is c.requires)

pub returns : goal.returns
returns g c =
    present_more c.self.inside.items c.self.inside.len c.self.invariant c.args.item
    (front_room c.self.inside.items c.self.inside.len c.self.invariant c.args.self.now c.self.view_is c.requires)
    ∙ ap (λ xs. xs ++ c.args.item ∷ []) c.self.view_is
