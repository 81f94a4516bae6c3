use Rattle.std.proofs.Common.{refl, subst}
use Rattle.stride_trees.specs.Converted.{none, IsConverting}
use Rattle.stride_trees.proofs.Opens.{all_converted}
use Rattle.stride_trees.proofs.leaves.converted_within.Goals as goal

pub turns-init : goal.turns-init
turns-init c = (
  record { joined = c.requires.tree; few = c.requires.rows },
  none c.args.opens.now c.args.tree c.requires.none refl,
)

pub returns-in-None : goal.returns-in-None
returns-in-None c =
    let w = c.args.w.now in
    let opens = c.turns.opens in
    let way = subst (IsConverting w c.args.rows c.args.tree opens) c.in-Own.is c.turns.invariant in
    all_converted w c.args.rows c.args.tree opens c.in-Own.own way c.in-None.ensures.0
