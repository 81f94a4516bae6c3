use Rattle.std.proofs.Common.{◌≡◌, ap, ◌∙◌}
use Rattle.script_blocks.specs.Expansion.{parts_expansion}
use Rattle.net_core.specs.Machine.{net_of}
use Rattle.net_checker.proofs.BlockSteps.{leads_as, leads_to_end}
use Rattle.net_checker.proofs.entries.folded_refusal.Goals as goal

pub returns-then-branch : goal.returns-then-branch
returns-then-branch c =
    let fitting = c.args.fitting.now in
    let n = fitting.nest.now in
    let net = net_of fitting.network.now in
    let whole : parts_expansion c.as_slice-parts.result.now ≡ c.args.schedule.now =
    ap parts_expansion c.as_slice-parts.ensures ∙ c.blocks-2.ensures.stands in
    let leads =
    leads_as n net (parts_expansion c.as_slice-parts.result.now) c.args.schedule.now c.in_ok-state.state
    c.step_over_parts.new.state whole (c.in_ok-step_over_parts.ensures.fine c.if-branch.true) in
    c.unended.ensures
    ∙ leads_to_end n fitting.network.now c.args.schedule.now c.in_ok-state.state c.step_over_parts.new.state
    c.in_ok-state.ensures.start leads
