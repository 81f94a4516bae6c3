use Rattle.std.proofs.Common.{◌∙◌}
use Rattle.loop_bind.proofs.NameLemmas.{found_is}
use Rattle.loop_bind.proofs.names.Names.find.Goals as goal

pub returns : goal.returns
returns g c = c.copied.ensures ∙ found_is c.args.name.now c.self.inside.entries.entries c.args.self.now c.get.result
    c.self.view_is c.get.ensures.value
