use Rattle.std.proofs.Common.{◌≡◌, ◌++◌, map}
use Rattle.tree_facts.specs.Cuts.{proof_by_cuts}
use Rattle.tree_facts.proofs.cuts.proofs_by_cuts.Given as goal

-- the proofs so far, and those that are left
abbrev pub invariant-loop-proof : goal.invariant-loop-proof
invariant-loop-proof l =
    l.own ++ map (proof_by_cuts l.row l.rows l.cuts) l.proof-iterator.rest.items
    ≡ map (proof_by_cuts l.row l.rows l.cuts) l.fn.proofs
