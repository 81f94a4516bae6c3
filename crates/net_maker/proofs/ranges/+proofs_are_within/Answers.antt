use Rattle.std.proofs.lemmas.List.Elements.{All-cons, All-tail}
use Rattle.tree_text.specs.TreeText.{ProofIsInRange}
use Rattle.net_maker.proofs.Levels.{then_is}
use Rattle.net_maker.proofs.ranges.+proofs_are_within.Goals as goal

pub returns-then-proof_is_within : goal.returns-then-proof_is_within
returns-then-proof_is_within t c =
    let proof = c.in-Some.proof.now in
    let proofs = c.in-Some.proofs.now in
    rw c.in-Some.ensures.cases.0
    (then_is c.proof_is_within.result c.proofs_are_within.result c.proof_is_within.ensures c.proofs_are_within.ensures
    c.if-proof_is_within.true (λ first rest. All-cons (ProofIsInRange 512) proof proofs first rest)
    (λ all. All-tail (ProofIsInRange 512) proof proofs all))
