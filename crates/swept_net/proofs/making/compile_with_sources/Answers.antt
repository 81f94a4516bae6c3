use Rattle.std.proofs.Common.{◌≡◌, sym, subst}
use Rattle.net_core.specs.declared.network.Network.{Network}
use Rattle.net_checker.specs.Fits.{Fits}
use Rattle.swept_net.specs.Certificates.{swept_cert}
use Rattle.sanlp.specs.declared.nest.Nest.{Nest}
use Rattle.source_tree.specs.declared.cert.Cert.{Cert}
use Rattle.witness_plan.specs.Schedules.{planned_network, schedule}
use Rattle.swept_net.proofs.making.compile_with_sources.Goals as goal

pub returns-clause-fits : goal.returns-clause-fits
returns-clause-fits c =
    let nest : Nest = c.args.nest.now in
    let run = schedule nest c.args.policy in
    let cert : Cert = record { sources = c.in_ok-all_swept.field-0; schedule = c.in_ok-made.made.schedule } in
    let same : cert ≡ swept_cert nest run =
    λ i. record { sources = c.in_ok-all_swept.ensures i; schedule = c.in_ok-made.ensures.schedule i } in
    subst (λ (n : Network). Fits nest n cert) (sym c.in_ok-made.ensures.network)
    (subst (Fits nest (planned_network nest c.args.policy)) (sym same) (c.has_certificate.ensures c.args.policy).fits)
