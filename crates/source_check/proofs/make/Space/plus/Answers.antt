use Rattle.std.proofs.Common.{◌≡◌, rules, sym, subst}
use Rattle.source_check.specs.Making.{plus_of, FormIsOver}
use Rattle.source_check.proofs.SystemRows.{plus_over}
use Rattle.source_check.proofs.make.Space.plus.Goals as goal

pub returns-in-Some-Some-clause-over : goal.returns-in-Some-Some-clause-over
returns-in-Some-Some-clause-over c =
    let e : c.ok.result ≡ plus_of c.args.left.now c.args.right.now = search rules in
    subst (FormIsOver c.args.self.now.vars) (sym e)
    (plus_over c.args.self.now.vars c.args.left.now c.args.right.now c.requires.left c.requires.right)
