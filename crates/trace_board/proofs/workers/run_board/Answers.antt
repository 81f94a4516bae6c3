use Rattle.std.proofs.Common.{List, ℤ, [], sym, subst, ◌∙◌}
use Rattle.sanlp.specs.declared.nest.Inputs.{Inputs}
use Rattle.net_core.specs.declared.network.Network.{Network}
use Rattle.net_core.specs.Machine.{net_of}
use Rattle.net_core.specs.Orders.{EndsAll, EndsAlways}
use Rattle.net_core.specs.Rules.{tags, values}
use Rattle.net_core.specs.Shape.{IsShaped, IsWired, FitsNumbers}
use Rattle.trace_board.proofs.workers.run_board.Goals as goal

pub new-requires-clause-shaped : goal.new-requires-clause-shaped
new-requires-clause-shaped g c =
    subst (λ (network : Network). IsShaped (net_of network) c.args.points.now.of) (sym c.in_ok-copy.ensures)
    (subst (λ (points : List (List (List ℤ))). IsShaped (net_of c.args.network.now) points)
    (sym c.requires.points) c.requires.sound.fits.shaped)

pub new-requires-clause-numbers : goal.new-requires-clause-numbers
new-requires-clause-numbers g c =
    subst (λ (network : Network). FitsNumbers (net_of network)) (sym c.in_ok-copy.ensures) c.requires.numbers

pub new-requires-2-clause-shaped : goal.new-requires-2-clause-shaped
new-requires-2-clause-shaped g c =
    subst (λ (network : Network). IsShaped (net_of network) c.args.points.now.of) (sym c.in_ok-copy-2.ensures)
    (subst (λ (points : List (List (List ℤ))). IsShaped (net_of c.args.network.now) points)
    (sym c.requires.points) c.requires.sound.fits.shaped)

pub new-requires-2-clause-numbers : goal.new-requires-2-clause-numbers
new-requires-2-clause-numbers g c =
    subst (λ (network : Network). FitsNumbers (net_of network)) (sym c.in_ok-copy-2.ensures) c.requires.numbers

pub board_of-requires : goal.board_of-requires
board_of-requires g c = c.in_ok-spare.ensures.network ∙ c.in_ok-copy-2.ensures

pub finish-requires-clause-wired : goal.finish-requires-clause-wired
finish-requires-clause-wired g c =
    subst (λ (network : Network). IsWired (net_of network)) (sym c.board_of.ensures) c.requires.sound.fits.shaped.wired

pub finish-requires-clause-ends : goal.finish-requires-clause-ends
finish-requires-clause-ends g c =
    let n = net_of c.args.network.now in
    let nest = c.args.nest.now in
    let none : Inputs = record { arrays = [] } in
    let all = (c.requires.sound.ends none).ends [] tt in
    subst (λ (network : Network). EndsAlways (net_of network) tags) (sym c.board_of.ensures)
    (c.every_order.ensures.ends n (values nest none) tags all.0 c.requires.sound.fits.shaped.wired (all.1, all.2))

pub returns : goal.returns
returns g c =
    subst (λ (network : Network). EndsAll (net_of network) tags c.finish.result.items) c.board_of.ensures
    c.finish.ensures
