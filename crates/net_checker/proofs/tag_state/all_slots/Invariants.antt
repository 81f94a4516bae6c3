use Rattle.std.proofs.Common.{◌≡◌, map, take}
use Rattle.std.specs.Prelude.{None, replicate}
use Rattle.net_checker.specs.SlotRows.{slots_in}
use Rattle.net_checker.proofs.tag_state.all_slots.Given as goal

-- the slots of each process so far
abbrev pub invariant-loop-process : goal.invariant-loop-process
invariant-loop-process l =
    map slots_in l.all.items ≡ map (λ process. replicate process.slots None) (take l.process-index l.processes)
