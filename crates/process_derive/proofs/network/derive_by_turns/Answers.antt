use Rattle.std.proofs.Common.{◌∙◌}
use Rattle.process_derive.proofs.Parts.{net_made}
use Rattle.process_derive.proofs.network.derive_by_turns.Goals as goal

pub returns : goal.returns
returns c =
    net_made c.args.nest.now c.in_ok-make_processes.field-0 c.in_ok-make_channels.field-0 c.as_slice-2.result.now
    c.in_ok-make_processes.ensures c.in_ok-make_channels.ensures
    (c.as_slice-2.ensures ∙ c.in_ok-plans.ensures)
