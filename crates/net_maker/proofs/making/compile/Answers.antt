use Rattle.std.proofs.Common.{sym, subst}
use Rattle.net_core.specs.declared.network.Network.{Network}
use Rattle.net_checker.specs.Fits.{Fits}
use Rattle.net_maker.proofs.ReadNumbers.{origins_are_usable}
use Rattle.net_maker.proofs.OtherOrigins.{fits_again}
use Rattle.swept_net.specs.Certificates.{swept_cert}
use Rattle.sanlp.specs.declared.nest.Nest.{Nest}
use Rattle.source_tree.specs.declared.cert.Cert.{Cert}
use Rattle.witness_plan.specs.Schedules.{planned_network, schedule}
use Rattle.net_maker.proofs.making.compile.Goals as goal

pub returns-clause-certificate : goal.returns-clause-certificate
returns-clause-certificate c =
    let nest : Nest = c.args.nest.now in
    let policy = c.args.policy in
    let cert : Cert = record { sources = c.in_ok-sources.sources; schedule = c.in_ok-network.field-0.schedule } in
    record {
      of_policy = c.in_ok-network.ensures.schedule;
      fits = fits_again nest (planned_network nest policy) (swept_cert nest (schedule nest policy)) cert
          (c.has_certificate.ensures policy).fits c.in_ok-network.ensures.schedule c.in_ok-sources.ensures.total
          (origins_are_usable nest cert c.in_ok-sources.ensures);
      in_range = c.in_ok-sources.ensures.in_range;
    }

pub returns-clause-fits : goal.returns-clause-fits
returns-clause-fits c =
    let nest : Nest = c.args.nest.now in
    let policy = c.args.policy in
    let cert : Cert = record { sources = c.in_ok-sources.sources; schedule = c.in_ok-network.field-0.schedule } in
    subst (λ (n : Network). Fits nest n cert) (sym c.in_ok-network.ensures.network)
    (fits_again nest (planned_network nest policy) (swept_cert nest (schedule nest policy)) cert
    (c.has_certificate.ensures policy).fits c.in_ok-network.ensures.schedule c.in_ok-sources.ensures.total
    (origins_are_usable nest cert c.in_ok-sources.ensures))
