use Rattle.std.proofs.Common.{◌+◌, ◌-◌, ◌<◌, length, arith, refl}
use Rattle.std.proofs.lemmas.Option.{slice_get_read}
use Rattle.tree_join.proofs.CandidateLeaves.{enough_proofs, own_is}
use Rattle.tree_join.proofs.leaf.own_proof.Goals as goal

pub point_proofs-proofs-requires : goal.point_proofs-proofs-requires
point_proofs-proofs-requires c = let a = c.requires.at in a.2.1

pub overflow_sub-head : goal.overflow_sub-head
overflow_sub-head c =
    let a = c.requires.at in
    let proofs = c.point_proofs-proofs.result.now in
    omega (
      arith,
      enough_proofs a.0 a.1 a.3 c.args.at.now a.2.0 a.2.1.0 proofs
          (c.point_proofs-proofs.ensures a.2.1.0 a.2.1.1),
      c.depth.ensures,
    )

pub bounds-proofs-head : goal.bounds-proofs-head
bounds-proofs-head c =
    let a = c.requires.at in
    let proofs = c.point_proofs-proofs.result.now in
    omega (
      arith,
      enough_proofs a.0 a.1 a.3 c.args.at.now a.2.0 a.2.1.0 proofs
          (c.point_proofs-proofs.ensures a.2.1.0 a.2.1.1),
      c.depth.ensures,
      c.requires.level,
    )

pub offset_bounds-proofs-head : goal.offset_bounds-proofs-head
offset_bounds-proofs-head c =
    let a = c.requires.at in
    let proofs = c.point_proofs-proofs.result.now in
    omega (
      arith,
      enough_proofs a.0 a.1 a.3 c.args.at.now a.2.0 a.2.1.0 proofs
          (c.point_proofs-proofs.ensures a.2.1.0 a.2.1.1),
      c.depth.ensures,
      c.requires.level,
    )

pub returns : goal.returns
returns c = λ r context place at_is path point.
    let at = c.args.at.now in
    let proofs = c.point_proofs-proofs.result.now in
    let is = c.point_proofs-proofs.ensures place point in
    let row = length proofs - c.depth.result + c.args.level in
    let inside : row < length proofs =
    omega (arith, enough_proofs r context path at at_is place proofs is, c.depth.ensures, c.requires.level) in
    own_is r context path at at_is place proofs is c.args.level row c.index-proofs-head.result
    (omega (arith, c.depth.ensures)) (slice_get_read proofs (length proofs) row c.index-proofs-head.result refl inside c.index-proofs-head.is)
