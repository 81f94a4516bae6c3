use Rattle.std.proofs.Common.{[], ◌∷◌}
use Rattle.script_blocks.specs.Expansion.{repeated}
use Rattle.net_core.specs.Machine.{net_of}
use Rattle.net_checker.specs.Schedules.{LeadsTo}
use Rattle.net_checker.specs.TagStates.{IsTagState}
use Rattle.net_checker.proofs.entries.step_over_run.Given as goal

abbrev pub invariant-loop : goal.invariant-loop
invariant-loop l = record {
  state : IsTagState (net_of l.fitting.network.now) l.state;
  leads : LeadsTo l.fitting.nest.now (net_of l.fitting.network.now) (repeated l.counter (l.process ∷ []))
      l.initial.state l.state;
}
