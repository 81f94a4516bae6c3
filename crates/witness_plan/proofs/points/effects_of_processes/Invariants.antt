use Rattle.std.proofs.Common.{◌≡◌, map, take}
use Rattle.net_core.specs.declared.network.Process.{Process}
use Rattle.witness_plan.specs.Effects.{effect_of}
use Rattle.witness_plan.proofs.points.effects_of_processes.Given as goal

abbrev pub invariant-loop-process : goal.invariant-loop-process
invariant-loop-process l =
    l.effects.items ≡ map (λ (process : Process). map effect_of process.script) (take l.process-index l.processes)
