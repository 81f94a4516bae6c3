use Rattle.std.proofs.Common.{◌∙◌, List, ℤ, ap, sym, subst}
use Rattle.net_core.specs.Machine.{net_of}
use Rattle.net_core.specs.Shape.{IsShaped}
use Rattle.net_core.specs.Sound.{sink_lists}
use Rattle.node_automata.specs.declared.node.NodeAuto.{NodeAuto}
use Rattle.clock_sim.specs.Nodes.{AreNodesOf}
use Rattle.clock_sim.proofs.Automata.{are_nodes, processes_are}
use Rattle.clock_sim.proofs.simulation.simulate.Goals as goal

pub start-requires-clause-shaped : goal.start-requires-clause-shaped
start-requires-clause-shaped c =
    subst (λ (points : List (List (List ℤ))). IsShaped (net_of c.args.network.now) points)
    (sym c.requires.points) c.requires.sound.fits.shaped

pub run_by_clock-clocks-requires-clause-nodes : goal.run_by_clock-clocks-requires-clause-nodes
run_by_clock-clocks-requires-clause-nodes c =
    subst (λ (autos : List NodeAuto). AreNodesOf (net_of c.args.network.now) autos) (sym c.requires.automata)
    (are_nodes c.args.nest.now c.args.network.now c.requires.sound.fits.shaped)

pub run_by_clock-clocks-requires-clause-limits : goal.run_by_clock-clocks-requires-clause-limits
run_by_clock-clocks-requires-clause-limits c =
    c.sound.ensures.limits c.args.nest.now c.args.network.now c.requires.sound.fits

pub run_by_clock-clocks-requires-clause-ends : goal.run_by_clock-clocks-requires-clause-ends
run_by_clock-clocks-requires-clause-ends c =
    c.clocked_run_computes.ensures.ends c.args.nest.now c.args.network.now c.args.inputs.now c.requires.sound

pub sink_lists-requires : goal.sink_lists-requires
sink_lists-requires c =
    c.run_by_clock-clocks.ensures.state.processes
    ∙ processes_are c.args.nest.now c.args.network.now c.requires.sound.fits.shaped

pub returns-clause-arrays : goal.returns-clause-arrays
returns-clause-arrays c =
    c.in_ok-arrays.ensures ∙ ap (sink_lists c.args.nest.now) c.run_by_clock-clocks.ensures.run
    ∙ c.clocked_run_computes.ensures.arrays c.args.nest.now c.args.network.now c.args.inputs.now c.requires.sound
