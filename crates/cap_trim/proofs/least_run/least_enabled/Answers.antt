use Rattle.std.proofs.Common.{length, sym, ◌∙◌, arith}
use Rattle.net_core.specs.Cuts.{enabled_at}
use Rattle.net_core.specs.Machine.{net_of}
use Rattle.net_core.specs.Progress.{at_capacities, cut_of}
use Rattle.cap_trim.proofs.FirstPass.{found_here, found_later}
use Rattle.cap_trim.proofs.least_run.least_enabled.Goals as goal

pub loop-process-preserved : goal.loop-process-preserved
loop-process-preserved c =
    let test = enabled_at (at_capacities (net_of c.args.network.now) c.args.capacities.now) (cut_of c.args.progress.now) in
    record {
      within = omega arith;
      found = sym (found_later test c.loop-process.process (length c.args.network.now.processes) (omega arith)
          (sym c.is_enabled.ensures ∙ c.if-is_enabled.false)) ∙ c.loop-process.invariant.found;
    }

pub returns-then-is_enabled : goal.returns-then-is_enabled
returns-then-is_enabled c =
    let test = enabled_at (at_capacities (net_of c.args.network.now) c.args.capacities.now) (cut_of c.args.progress.now) in
    sym (found_here test c.loop-process.process (length c.args.network.now.processes) (omega arith)
    (sym c.is_enabled.ensures ∙ c.if-is_enabled.true)) ∙ c.loop-process.invariant.found
