use Rattle.std.proofs.Common.{◌≡◌, take}
use Rattle.node_automata.specs.Automata.{automata}
use Rattle.node_automata.proofs.node.automata.Given as goal

abbrev pub invariant-loop-process : goal.invariant-loop-process
invariant-loop-process l = l.autos.items ≡ take l.process (automata l.nest l.network)
