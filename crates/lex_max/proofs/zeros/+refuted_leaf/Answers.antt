use Rattle.std.proofs.Common.{◌≡◌, ◌∷◌, length, ap, subst, arith, rules}
use Rattle.std.specs.Prelude.{All}
use Rattle.std.proofs.lemmas.List.Elements.{All-head, All-tail}
use Rattle.tree_graphs.specs.Cycles.{IsCycle}
use Rattle.lex_max.proofs.zeros.+refuted_leaf.Goals as goal

pub refuted_by-requires-clause-cycle : goal.refuted_by-requires-clause-cycle
refuted_by-requires-clause-cycle t c =
    let edges = c.args.graph.now.edges.now in
    let P = IsCycle c.args.graph.now.writes.vars edges in
    let first : c.args.cycles.now ≡ c.in-Some.cycle.now ∷ c.in-Some.cycles.now = search rules in
    All-head P c.in-Some.cycle.now c.in-Some.cycles.now (subst (All P) first c.requires.cycles)

pub refuted_leaf-requires : goal.refuted_leaf-requires
refuted_leaf-requires t c =
    let edges = c.args.graph.now.edges.now in
    let P = IsCycle c.args.graph.now.writes.vars edges in
    let first : c.args.cycles.now ≡ c.in-Some.cycle.now ∷ c.in-Some.cycles.now = search rules in (
      omega (arith, ap length first),
      (
        c.requires.context,
        All-tail P c.in-Some.cycle.now c.in-Some.cycles.now (subst (All P) first c.requires.cycles),
      ),
    )
