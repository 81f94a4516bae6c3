use Rattle.std.proofs.Common.{List, ℤ, sym, subst}
use Rattle.net_core.specs.declared.network.Network.{Network}
use Rattle.net_core.specs.Machine.{net_of}
use Rattle.net_core.specs.Shape.{IsShaped, FitsNumbers}
use Rattle.network_tests.specs.Examples.{starved}
use Rattle.network_tests.proofs.EmptyQueue.{shaped, numbers}
use Rattle.network_tests.proofs.boards.a_lane_steps_waits_and_ends.Goals as goal

pub new-requires-clause-shaped : goal.new-requires-clause-shaped
new-requires-clause-shaped g c =
    subst (λ (network : Network). IsShaped (net_of network) c.in_ok-points.points.of) (sym c.in_ok-starved.ensures)
    (subst (λ (points : List (List (List ℤ))). IsShaped (net_of starved) points) (sym c.in_ok-points.ensures) shaped)

pub new-requires-clause-numbers : goal.new-requires-clause-numbers
new-requires-clause-numbers g c =
    subst (λ (network : Network). FitsNumbers (net_of network)) (sym c.in_ok-starved.ensures) numbers
