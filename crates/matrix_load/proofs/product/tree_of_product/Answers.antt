use Rattle.matrix_load.proofs.Derivation.{matrix_tree}
use Rattle.matrix_load.proofs.NoRefusal.{derived}
use Rattle.matrix_load.proofs.product.tree_of_product.Goals as goal
use Rattle.matrix_load.proofs.product.tree_of_product.Goals.{in-Memory, in_default}

pub prove-unreachable-requires : goal.prove-unreachable-requires
prove-unreachable-requires c =
    let tree = derived c.source.result.now c.args.found.now c.source.ensures c.requires in
    let memory = c.in-Err.ensures.only matrix_tree tree in
    elim c.match-matches.branch
    [ in-Memory w ↦ cc (w.matches-is, c.if-prove.true) | in_default w ↦ absurd (w.in_default.not-Memory memory) ]
