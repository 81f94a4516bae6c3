use Rattle.std.proofs.Common.{arith}
use Rattle.std.proofs.lemmas.Int.{ints}
use Rattle.tree_graphs.proofs.facts.tells.Goals as goal

pub returns-then-row-form-clause-no : goal.returns-then-row-form-clause-no
returns-then-row-form-clause-no c = λ other told. absurd (omega (arith, ints, told.1, c.if-row-form.true))

pub returns-clause-yes : goal.returns-clause-yes
returns-clause-yes c = λ same. (c.has_coefs.ensures.yes same, omega (arith, ints, c.if-row-form.false))

pub returns-clause-no : goal.returns-clause-no
returns-clause-no c = λ other told. c.has_coefs.ensures.no other told.0
