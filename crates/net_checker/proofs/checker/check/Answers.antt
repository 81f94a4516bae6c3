use Rattle.std.proofs.Common.{◌≡◌, IfOk, ap, subst}
use Rattle.std.specs.Prelude.{◌↔◌}
use Rattle.source_tree.specs.declared.cert.Cert.{Cert}
use Rattle.net_checker.specs.declared.verdict.Verdict.TheVariants.{Accepted}
use Rattle.net_checker.specs.Fits.{Fits, first, verdict_of, with_entries}
use Rattle.net_checker.proofs.checker.check.Goals as goal

pub returns-clause-exact : goal.returns-clause-exact
returns-clause-exact c =
    let same : with_entries c.args.cert.now c.as_slice.result.now ≡ c.args.cert.now =
    ap (with_entries c.args.cert.now) c.as_slice.ensures in
    subst (λ (cert : Cert). IfOk c.judge.result
    (λ verdict. verdict ≡ verdict_of (first c.args.nest.now c.args.network.now cert))) same c.judge.ensures.exact

pub returns-clause-fits : goal.returns-clause-fits
returns-clause-fits c =
    let same : with_entries c.args.cert.now c.as_slice.result.now ≡ c.args.cert.now =
    ap (with_entries c.args.cert.now) c.as_slice.ensures in
    subst (λ (cert : Cert). IfOk c.judge.result
    (λ verdict. (verdict ≡ Accepted) ↔ Fits c.args.nest.now c.args.network.now cert)) same c.judge.ensures.fits
