use Rattle.std.proofs.Common.{sym, ◌∙◌}
use Rattle.net_core.specs.Machine.{net_of}
use Rattle.net_checker.proofs.FitsFires.{fitting_fires}
use Rattle.net_checker.proofs.firings.process_firing.Goals as goal

pub returns-then-fires_fit : goal.returns-then-fires_fit
returns-then-fires_fit c =
    let candidate = c.args.candidate.now in
    fitting_fires candidate.nest.now (net_of candidate.network.now) c.args.process
    (sym c.fires_fit.ensures ∙ c.if-fires_fit.true)
