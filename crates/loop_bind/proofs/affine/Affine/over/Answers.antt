use Rattle.std.proofs.Common.{take, length, ap, arith, rules, length-take}
use Rattle.loop_bind.proofs.affine.Affine.over.Goals as goal

pub push-requires : goal.push-requires
push-requires c =
    let coefs = c.args.self.now.coefs in (
      search rules,
      omega (
        arith,
        ap length c.loop-coef.invariant,
        length-take c.loop-coef.coef-index (take c.args.depth coefs),
        length-take c.args.depth coefs,
      ),
    )
