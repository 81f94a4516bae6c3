use Rattle.std.proofs.Common.{sym, subst}
use Rattle.net_core.specs.Sound.{IsSound}
use Rattle.swept_net.proofs.making.compile_network.Goals as goal

pub returns-clause-sound : goal.returns-clause-sound
returns-clause-sound c =
    subst (IsSound c.args.nest.now) (sym c.in_ok-made.ensures.network)
    (c.is_sound.ensures c.args.nest.now _ _ (c.has_certificate.ensures c.args.policy).fits)
