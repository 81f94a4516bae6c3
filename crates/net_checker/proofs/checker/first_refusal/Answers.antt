use Rattle.std.proofs.Common.{sym, ◌∙◌}
use Rattle.net_checker.proofs.FitsShape.{none_fits}
use Rattle.net_checker.proofs.checker.first_refusal.Goals as goal

pub source_refusal-requires-clause-sources : goal.source_refusal-requires-clause-sources
source_refusal-requires-clause-sources c =
    let candidate = c.args.candidate.now in
    (none_fits candidate.nest.now candidate.network.now c.args.cert.now (sym c.shape_refusal.ensures ∙ c.in_default.is)
    (sym c.firing_refusal.ensures ∙ c.in_default-firing_refusal.is)).1

pub table-requires-clause-rows : goal.table-requires-clause-rows
table-requires-clause-rows c = c.in_ok-refusal.ensures.rows c.in_default-2.is

pub invariant_of-fitting-clause-shape : goal.invariant_of-fitting-clause-shape
invariant_of-fitting-clause-shape c =
    let candidate = c.args.candidate.now in
    (none_fits candidate.nest.now candidate.network.now c.args.cert.now (sym c.shape_refusal.ensures ∙ c.in_default.is)
    (sym c.firing_refusal.ensures ∙ c.in_default-firing_refusal.is)).0
