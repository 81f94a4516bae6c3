use Rattle.std.proofs.Common.{◌≡◌}
use Rattle.std.specs.Prelude.{Ok}
use Rattle.loop_lex.specs.Tokens.{tokens}
use Rattle.matrix_load.specs.Product.{matrix_product}
use Rattle.matrix_load.proofs.NoRefusal.{bound}
use Rattle.matrix_load.proofs.product.matrix_nest.Goals as goal
use Rattle.matrix_load.proofs.product.matrix_nest.Goals.{in-Memory, in_default}

pub prove-unreachable-requires : goal.prove-unreachable-requires
prove-unreachable-requires c =
    let found = c.as_slice-found.result.now in
    let lexed : tokens matrix_product ≡ Ok found = rw c.as_slice-found.ensures.value c.in_ok-tokens.ensures in
    let memory =
    bound c.args.count found c.in_ok-tree.tree c.in_ok-params.params c.in-Err.error c.requires lexed
    c.in_ok-tree.ensures c.in_ok-params.ensures c.in-Err.ensures in
    elim c.match-matches.branch
    [ in-Memory w ↦ cc (w.matches-is, c.if-prove.true) | in_default w ↦ absurd (w.in_default.not-Memory memory) ]
