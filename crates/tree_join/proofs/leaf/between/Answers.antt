-- The candidate's own proof at the lesser level is carried: behind the terms of its own context's rows stand the rows
-- on the point, and behind them terms in the places of its order rows. It is not the proof at the level that is asked
-- where the candidate's point parts from the best's at an outer loop: then that loop's level is the lesser.
use Rattle.std.proofs.Common.{◌≡◌, ◌+◌, ◌++◌, length, ap, ◌∙◌, arith, subst}
use Rattle.std.specs.Prelude.{min}
use Rattle.std.proofs.lemmas.Result.{IfOk-weaker}
use Rattle.tree_join.specs.Leaves.{order_sums}
use Rattle.tree_order.specs.Positions.{own_sums, IsOwnProof}
use Rattle.tree_join.proofs.LeafFacts.{before_level, between_fits, between_refutes, lesser_level, small_level}
use Rattle.tree_join.proofs.NoCandidate.{places_more}
use Rattle.tree_join.proofs.leaf.between.Goals as goal

pub places-requires : goal.places-requires
places-requires c =
    let b = c.requires in
    omega (arith, b.3.here_is, b.3.path.few, c.len-fixed.ensures, b.3.at_is.0.candidate.graph.graph.few)

pub push_orders-requires-clause-rows : goal.push_orders-requires-clause-rows
push_orders-requires-clause-rows c =
    let b = c.requires in
    omega (
      arith,
      b.3.here_is,
      b.3.path.few,
      c.len-fixed.ensures,
      b.3.at_is.0.candidate.graph.graph.few,
      small_level b.0 b.1 b.2 c.args.at.now c.args.order.now c.args.level c.args.here b.3,
    )

pub push_orders-requires-clause-text : goal.push_orders-requires-clause-text
push_orders-requires-clause-text c = λ none.
    let b = c.requires in
    omega (
      arith,
      before_level b.0 b.1 b.2 c.args.at.now c.args.order.now c.args.level c.args.here b.3 none,
      ap length c.as_slice-equal.ensures,
    )

pub own_proof-requires-clause-at : goal.own_proof-requires-clause-at
own_proof-requires-clause-at c = let b = c.requires in (b.0, b.1, b.3.at_is, b.3.path)

pub own_proof-requires-clause-level : goal.own_proof-requires-clause-level
own_proof-requires-clause-level c =
    let b = c.requires in
    omega (
      arith,
      lesser_level b.0 b.1 b.2 c.args.at.now c.args.order.now c.args.level c.args.here b.3,
      c.min-lesser.ensures,
      ap (min c.args.level) (ap length c.as_slice-equal.ensures),
    )

pub carried-requires : goal.carried-requires
carried-requires c =
    let b = c.requires in
    let at = c.args.at.now in
    let order = c.args.order.now in
    let here = c.args.here in
    let lesser_is : c.min-lesser.result ≡ min c.args.level (length order.equal) = c.min-lesser.ensures
    ∙ ap (min c.args.level) (ap length c.as_slice-equal.ensures) in
    between_fits b.0 b.1 b.2 at order c.args.level c.args.here b.3 c.as_slice-2.result.now
    (c.args.here + c.len-fixed.result) c.own_proof.result.now
    (places_more here (order_sums c.as_slice-equal.result.now order.strict c.args.level
    (here + c.len-fixed.result)) c.as_slice-2.ensures c.in_ok-push_orders.ensures c.in_ok-sums.ensures
    c.as_slice.ensures c.len-fixed.ensures
    ∙ ap (λ equal. (at.rows ++ own_sums here (length at.candidate.now.edges))
    ++ order_sums equal order.strict c.args.level (here + c.len-fixed.result)) c.as_slice-equal.ensures)
    (λ z point. subst (λ n. IsOwnProof b.1 at z n c.own_proof.result.now) lesser_is
    (c.own_proof.ensures b.0 b.1 z b.3.at_is.0 b.3.path point))

pub returns-clause-proof : goal.returns-clause-proof
returns-clause-proof c =
    let at = c.args.at.now in
    let order = c.args.order.now in
    let here = c.args.here in
    let lesser_is : c.min-lesser.result ≡ min c.args.level (length order.equal) = c.min-lesser.ensures
    ∙ ap (min c.args.level) (ap length c.as_slice-equal.ensures) in
    IfOk-weaker c.carried.result _ _
    (λ proof carry r context best place b point.
    between_refutes r context best at order c.args.level c.args.here b c.as_slice-2.result.now
    (c.args.here + c.len-fixed.result) c.own_proof.result.now proof place
    (places_more here (order_sums c.as_slice-equal.result.now order.strict c.args.level
    (here + c.len-fixed.result)) c.as_slice-2.ensures c.in_ok-push_orders.ensures c.in_ok-sums.ensures
    c.as_slice.ensures c.len-fixed.ensures
    ∙ ap (λ equal. (at.rows ++ own_sums here (length at.candidate.now.edges))
    ++ order_sums equal order.strict c.args.level (here + c.len-fixed.result)) c.as_slice-equal.ensures)
    (omega (arith, c.len-fixed.ensures))
    (λ z first. subst (λ n. IsOwnProof context at z n c.own_proof.result.now) lesser_is
    (c.own_proof.ensures r context z b.at_is.0 b.path first)) carry point)
    c.carried.ensures.terms
