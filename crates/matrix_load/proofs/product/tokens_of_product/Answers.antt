use Rattle.matrix_load.proofs.NoRefusal.{lexed}
use Rattle.matrix_load.proofs.product.tokens_of_product.Goals as goal
use Rattle.matrix_load.proofs.product.tokens_of_product.Goals.{in-Memory, in_default}

pub prove-unreachable-requires : goal.prove-unreachable-requires
prove-unreachable-requires c =
    let memory = lexed c.source.result.now c.in-Err.error c.source.ensures c.in-Err.ensures in
    elim c.match-matches.branch
    [ in-Memory w ↦ cc (w.matches-is, c.if-prove.true) | in_default w ↦ absurd (w.in_default.not-Memory memory) ]
