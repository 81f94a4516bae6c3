use Rattle.net_core.specs.Machine.{net_of}
use Rattle.net_core.specs.Rules.{tags, values}
use Rattle.net_core.proofs.EveryOrder.{same_ends}
use Rattle.net_core.proofs.Soundness.{is_sound}
use Rattle.net_core.proofs.laws.sinks_keep_arrays.Goals as goal

pub returns : goal.returns
returns c nest network d run fits names whole =
    let over_tags = same_ends (net_of network) (values nest d) tags fits.shaped.wired run whole in
    (is_sound nest network fits names run over_tags).arrays d run whole
