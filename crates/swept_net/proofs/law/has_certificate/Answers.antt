use Rattle.std.proofs.Common.{List, ℕ, refl}
use Rattle.std.proofs.lemmas.List.{length-replicate}
use Rattle.net_core.specs.declared.network.Network.{Network}
use Rattle.swept_net.proofs.FitsNest.{fits_with, no_tree, swept_are_usable}
use Rattle.swept_net.specs.Certificates.{swept_cert}
use Rattle.net_checker.specs.Shapes.{read_total}
use Rattle.process_derive.specs.Derived.{net}
use Rattle.sanlp.specs.declared.nest.Nest.{Nest}
use Rattle.source_tree.specs.declared.cert.Cert.{Cert}
use Rattle.source_tree.specs.declared.cert.Origin.TheVariants.{Sweep}
use Rattle.witness_plan.specs.Schedules.{schedule}
use Rattle.witness_plan.specs.Sequential.{capacities}
use Rattle.swept_net.proofs.law.has_certificate.Goals as goal

pub returns : goal.returns
returns c policy =
    let nest : Nest = c.args.nest.now in
    let derived : Network = net nest in
    let room : List ℕ = capacities derived (schedule nest policy) in
    let cert : Cert = swept_cert nest (schedule nest policy) in
    record {
      of_policy = refl;
      fits = fits_with nest derived room cert c.fits_nest.ensures c.names_last_writers.ensures
          c.has_classes_of_uses.ensures (c.other_capacities.ensures.same derived room)
          (c.other_capacities.ensures.wired derived room c.schedule_runs.ensures.wired)
          (length-replicate (read_total nest) Sweep) (swept_are_usable nest cert (read_total nest) refl)
          (c.schedule_runs.ensures.run policy);
      in_range = λ k tree is. absurd (no_tree (read_total nest) k tree is);
    }
