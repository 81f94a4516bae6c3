use Rattle.std.proofs.Common.{[], ◌∷◌}
use Rattle.net_core.specs.Machine.{net_of}
use Rattle.script_blocks.specs.Expansion.{repeated}
use Rattle.script_blocks.proofs.Repetitions.{repeated_none}
use Rattle.net_checker.proofs.BlockSteps.{leads_copy, leads_nowhere}
use Rattle.net_checker.proofs.entries.step_over_run.Goals as goal

pub loop-init : goal.loop-init
loop-init c =
    let entry = c.args.process ∷ [] in
    record {
      state = c.requires.state;
      leads = leads_nowhere c.args.fitting.now.nest.now (net_of c.args.fitting.now.network.now) (repeated 0 entry)
          c.args.state.now (repeated_none entry);
    }

pub loop-preserved : goal.loop-preserved
loop-preserved c = record {
  state = c.in_ok-step_if_fine.ensures.state;
  leads = leads_copy c.args.fitting.now.nest.now (net_of c.args.fitting.now.network.now) c.loop.counter
      (c.args.process ∷ []) c.args.state.now c.loop.state c.step_if_fine.new.state c.loop.invariant.leads
      (c.in_ok-step_if_fine.ensures.fine c.if-not-branch.false);
}
