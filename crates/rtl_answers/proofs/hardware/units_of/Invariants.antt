use Rattle.std.proofs.Common.{take}
use Rattle.std.specs.List.{AllZip}
use Rattle.node_automata.specs.Automata.{automata}
use Rattle.rtl_answers.proofs.hardware.units_of.Given as goal

-- those so far are the hardware of the first processes
abbrev pub invariant-loop-process : goal.invariant-loop-process
invariant-loop-process g l =
    AllZip g.U.Hardware.is_of (take l.process (automata l.nest_points.nest.now l.network)) l.units
