use Rattle.std.proofs.Common.{ℤ, List, [], ap, get_or, length, slice_get, subst, sym, ◌∙◌, arith}
use Rattle.std.specs.Prelude.{IsSomeAnd}
use Rattle.net_maker.specs.StatementPoints.{ArePoints}
use Rattle.sanlp.proofs.NestFacts.{points_length}
use Rattle.net_maker.proofs.origins.overflows_at_no_point.Goals as goal

pub overflows_nowhere_of-requires-clause-statement : goal.overflows_nowhere_of-requires-clause-statement
overflows_nowhere_of-requires-clause-statement c =
    let n = c.args.nest.now in
    let made = subst (λ o. IsSomeAnd o (ArePoints n)) c.in-Some.is c.in_ok-make_points.ensures in
    omega (arith, c.requires.statement, points_length n, ap length made)

pub overflows_nowhere_of-requires-clause-ready : goal.overflows_nowhere_of-requires-clause-ready
overflows_nowhere_of-requires-clause-ready c = λ f at is.
    let n = c.args.nest.now in
    let made = subst (λ o. IsSomeAnd o (ArePoints n)) c.in-Some.is c.in_ok-make_points.ensures in
    c.requires.ready f at
    (ap (λ (of : List (List (List ℤ))). slice_get (get_or of c.args.statement []) f) (sym made) ∙ is)

pub returns-clause-fits : goal.returns-clause-fits
returns-clause-fits c = λ told f at is.
    let n = c.args.nest.now in
    let made = subst (λ o. IsSomeAnd o (ArePoints n)) c.in-Some.is c.in_ok-make_points.ensures in
    c.overflows_nowhere_of.ensures told f at
    (ap (λ (of : List (List (List ℤ))). slice_get (get_or of c.args.statement []) f) made ∙ is)
