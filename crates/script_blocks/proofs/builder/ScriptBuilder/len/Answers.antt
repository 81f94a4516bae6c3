use Rattle.std.proofs.Common.{◌∙◌, ap, sym, length}
use Rattle.script_blocks.proofs.Labels.{as_many}
use Rattle.script_blocks.proofs.builder.ScriptBuilder.len.Goals as goal

pub returns : goal.returns
returns g c =
    ap length c.as_slice.ensures.value
    ∙ sym (as_many c.self.inside.kinds.items c.self.inside.labels.items c.self.invariant)
    ∙ ap length c.self.view_is
