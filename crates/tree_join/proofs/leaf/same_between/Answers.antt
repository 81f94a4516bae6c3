use Rattle.std.proofs.Common.{◌+◌, ap, arith}
use Rattle.std.proofs.lemmas.Result.{IfOk-weaker}
use Rattle.tree_join.proofs.LeafFacts.{same_fits, same_refutes}
use Rattle.tree_join.proofs.NoCandidate.{places_are}
use Rattle.tree_join.proofs.leaf.same_between.Goals as goal

pub places-requires : goal.places-requires
places-requires c =
    let b = c.requires.best in
    omega (arith, b.4, b.3.few, c.len.ensures, b.2.0.candidate.graph.graph.few)

pub own_proof-requires-clause-at : goal.own_proof-requires-clause-at
own_proof-requires-clause-at c = let b = c.requires.best in (b.0, b.1, b.2, b.3)

pub carried-requires : goal.carried-requires
carried-requires c =
    let b = c.requires.best in
    same_fits b.0 b.1 c.args.best.now b.2 c.args.here c.args.level c.own_proof.result.now
    (λ z point. c.own_proof.ensures b.0 b.1 z b.2.0 b.3 point) c.as_slice-2.result.now
    (places_are c.args.here c.as_slice-2.ensures c.in_ok-sums.ensures c.as_slice.ensures
    (ap (λ n. n + 13) c.len.ensures))

pub returns-clause-proof : goal.returns-clause-proof
returns-clause-proof c =
    IfOk-weaker c.carried.result _ _
    (λ proof carry r context place is path here_is point.
    same_refutes r context c.args.best.now is c.args.here c.args.level c.own_proof.result.now
    (λ z first. c.own_proof.ensures r context z is.0 path first) c.as_slice-2.result.now
    (places_are c.args.here c.as_slice-2.ensures c.in_ok-sums.ensures c.as_slice.ensures
    (ap (λ n. n + 13) c.len.ensures)) proof place path here_is
    c.requires.level carry point)
    c.carried.ensures.terms
