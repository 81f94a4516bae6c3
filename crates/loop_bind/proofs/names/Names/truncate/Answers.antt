use Rattle.std.proofs.Common.{◌∙◌, ap, sym, map, take}
use Rattle.std.proofs.lemmas.List.{take-map}
use Rattle.loop_bind.proofs.NameLemmas.{shown}
use Rattle.loop_bind.proofs.names.Names.truncate.Goals as goal

pub returns : goal.returns
returns g c =
    ap (map shown) c.truncate.ensures.entries ∙ sym (take-map shown c.args.len c.self.inside.entries.entries)
    ∙ ap (take c.args.len) c.self.view_is
