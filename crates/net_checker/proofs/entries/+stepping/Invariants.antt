use Rattle.std.proofs.Common.{take}
use Rattle.script_blocks.specs.Expansion.{parts_expansion, repeated}
use Rattle.net_core.specs.Machine.{net_of}
use Rattle.net_checker.specs.Schedules.{LeadsTo}
use Rattle.net_checker.specs.TagStates.{IsTagState}
use Rattle.net_checker.proofs.entries.+stepping.Given as goal

abbrev pub invariant-step_over_parts-loop-part : goal.invariant-step_over_parts-loop-part
invariant-step_over_parts-loop-part l = record {
  state : IsTagState (net_of l.fitting.network.now) l.state;
  leads : LeadsTo l.fitting.nest.now (net_of l.fitting.network.now) (parts_expansion
      (take l.part-index l.parts)) l.initial.state l.state;
}

abbrev pub invariant-step_over_copies-loop : goal.invariant-step_over_copies-loop
invariant-step_over_copies-loop l = record {
  state : IsTagState (net_of l.fitting.network.now) l.state;
  leads : LeadsTo l.fitting.nest.now (net_of l.fitting.network.now) (repeated l.counter
      (parts_expansion l.parts)) l.initial.state l.state;
}
