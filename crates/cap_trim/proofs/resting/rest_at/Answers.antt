use Rattle.std.proofs.Common.{◌∙◌, subst}
use Rattle.std.specs.Prelude.{slice_index}
use Rattle.net_core.specs.Cuts.{Cut}
use Rattle.net_core.specs.Machine.{net_of}
use Rattle.net_core.specs.Progress.{at_capacities, cut_of}
use Rattle.cap_trim.specs.LeastRuns.{LeadsTo}
use Rattle.cap_trim.proofs.RestPositions.{stands_at_rest}
use Rattle.cap_trim.proofs.resting.rest_at.Goals as goal

pub returns : goal.returns
returns c =
    let n = net_of c.args.wired.now.network.now in
    let run = subst (λ (k : Cut). LeadsTo (at_capacities n c.args.capacities.now) k (cut_of c.go_on.new.progress))
    c.in_ok-progress.ensures.opening c.go_on.ensures.run in
    c.into_positions.ensures
    ∙ stands_at_rest n c.args.wired.now.wired
    (slice_index c.args.capacities.now) c.go_on.new.progress c.go_on.ensures.progress run c.go_on.ensures.stuck
