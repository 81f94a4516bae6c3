use Rattle.std.proofs.Common.{◌≡◌, sym, ap, ◌∙◌, arith}
use Rattle.std.specs.Option.{option_copied}
use Rattle.std.proofs.lemmas.Result.{on_ok_weaker}
use Rattle.tree_graphs.specs.Asked.{depth_of_write}
use Rattle.tree_graphs.proofs.CycleEdges.{round_asked}
use Rattle.tree_graphs.proofs.cycles.push_round.Goals as goal

pub round-requires : goal.round-requires
round-requires c =
    let g = c.args.graph.now in
    let first : c.args.out.now.from ≡ depth_of_write g.writes = omega (arith, c.depth.ensures) in (
      g.edges.now,
      g.writes.vars,
      depth_of_write g.writes,
      round_asked g c.args.back.now c.args.out.now c.in-Some.bound.now c.args.number c.args.back_number c.requires.back
          c.requires.out first (sym c.at.ensures ∙ ap option_copied c.in-Some.is),
    )

pub returns-in_ok-round-in-Some-clause-each : goal.returns-in_ok-round-in-Some-clause-each
returns-in_ok-round-in-Some-clause-each c =
    let g = c.args.graph.now in
    let first : c.args.out.now.from ≡ depth_of_write g.writes = omega (arith, c.depth.ensures) in
    on_ok_weaker c.push_least.result
    (λ h all.
    h g.writes.vars g.edges.now all
    (c.in_ok-round-in-Some.ensures g.edges.now g.writes.vars (depth_of_write g.writes)
    (round_asked g c.args.back.now c.args.out.now c.in-Some.bound.now c.args.number c.args.back_number c.requires.back
    c.requires.out first (sym c.at.ensures ∙ ap option_copied c.in-Some.is))))
    c.push_least.ensures.each
