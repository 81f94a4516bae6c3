use Rattle.std.proofs.Common.{◌≡◌, ◌+◌, ◌-◌, ◌^◌, ◌++◌, take, length, sym, ap, ◌∙◌, subst, arith}
use Rattle.std.specs.List.{AllZip}
use Rattle.std.proofs.lemmas.Result.{on_ok_weaker}
use Rattle.tree_join.specs.Leaves.{IsCarried}
use Rattle.tree_order.specs.Positions.{own_sums}
use Rattle.tree_order.proofs.PointSystems.{AreLightSums}
use Rattle.tree_join.proofs.CandidateLeaves.{can_carry, enough_proofs, heads_added}
use Rattle.tree_join.proofs.NoCandidate.{light_places, places_are}
use Rattle.tree_join.proofs.leaf.push_heads.Goals as goal

pub places-requires : goal.places-requires
places-requires c =
    let b = c.requires in
    omega (arith, b.4, b.3.few, c.len.ensures, b.2.0.candidate.graph.graph.few)

pub point_proofs-own-requires : goal.point_proofs-own-requires
point_proofs-own-requires c = let b = c.requires in b.2.1

pub overflow_sub-heads : goal.overflow_sub-heads
overflow_sub-heads c =
    let b = c.requires in
    let own = c.point_proofs-own.result.now in
    omega (
      arith,
      enough_proofs b.0 b.1 b.3 c.args.best.now b.2.0 b.2.1.0 own
          (c.point_proofs-own.ensures b.2.1.0 b.2.1.1),
      c.depth.ensures,
    )

pub push_carried-requires : goal.push_carried-requires
push_carried-requires c =
    let b = c.requires in
    let best = c.args.best.now in
    let own = c.point_proofs-own.result.now in
    let sums = c.as_slice-2.result.now in
    let sums_are = places_are c.args.here c.as_slice-2.ensures c.in_ok-sums.ensures c.as_slice.ensures
    (ap (λ n. n + 13) c.len.ensures) in
    let light = subst (AreLightSums (2 ^ 26)) (sym sums_are)
    (light_places b.0 b.1 best b.2.0 c.args.here (length best.candidate.now.edges + 13)) in
    can_carry b.0 b.1 b.3 best b.2.0 b.2.1.0 own (c.point_proofs-own.ensures b.2.1.0 b.2.1.1) sums
    (length own - c.depth.result) light

pub returns : goal.returns
returns c =
    let best = c.args.best.now in
    let own = c.point_proofs-own.result.now in
    let count = length best.candidate.now.edges + 13 in
    let front = take (length own - c.depth.result) own in
    on_ok_weaker c.push_carried.result
    (λ more r context place is path here_is point.
    (let sums : c.as_slice-2.result.now ≡ best.rows ++ own_sums (length context.rows) count
    = places_are c.args.here c.as_slice-2.ensures c.in_ok-sums.ensures c.as_slice.ensures
    (ap (λ n. n + 13) c.len.ensures)
    ∙ ap (λ n. best.rows ++ own_sums n count) here_is in
    heads_added r context path best is.0 place own (c.point_proofs-own.ensures place point) count front
    c.args.proofs.now c.push_carried.new.proofs more.0 (omega arith)
    (ap (λ n. take (length own - n) own) c.depth.ensures) more.1
    (subst (λ sums. AllZip (IsCarried sums) front more.0) sums more.2))) c.push_carried.ensures
