use Rattle.std.proofs.Common.{sym, subst}
use Rattle.lex_max.specs.Choices.{chosen_place, AreCertsSoFar}
use Rattle.lex_max.proofs.DecisionContexts.{certs_none}
use Rattle.lex_max.proofs.decide.confirm_all.Goals as goal

pub confirm-requires-clause-certs : goal.confirm-requires-clause-certs
confirm-requires-clause-certs c =
    let edges = c.args.graph.now.edges.now in
    let place = chosen_place c.args.choices.now in
    subst (AreCertsSoFar c.args.context.now place edges edges) (sym c.new-certs.ensures)
    (certs_none c.args.context.now place edges)
