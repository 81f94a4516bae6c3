use Rattle.schedule_laws.proofs.TrimOutcomes.{trims_least}
use Rattle.schedule_laws.proofs.trimmed.what_trim_writes_is_least.Goals as goal

pub returns : goal.returns
returns c =
    let laws = c.trimmed_network_is_sound.ensures in
    trims_least c.one_tree.ensures c.args.nest.now laws.sound laws.minimal
