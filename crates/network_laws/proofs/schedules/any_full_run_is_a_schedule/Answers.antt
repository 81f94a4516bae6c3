use Rattle.std.proofs.Common.{◌∙◌}
use Rattle.net_checker.specs.Fits.{Fits}
use Rattle.net_core.specs.Machine.{net_of}
use Rattle.net_core.specs.Orders.{EndsAll}
use Rattle.net_core.specs.Rules.{tags, values}
use Rattle.net_core.specs.declared.network.Network.{Network}
use Rattle.sanlp.specs.declared.nest.Nest.{Nest}
use Rattle.source_tree.specs.declared.cert.Cert.{Cert}
use Rattle.net_core.specs.Shape.{fires}
use Rattle.sanlp.specs.declared.nest.Tag.{Tag}
use Rattle.source_tree.specs.Wanted.{IsWanted}
use Rattle.std.specs.Prelude.{ℕ, Option, List}
use Rattle.network_laws.proofs.schedules.any_full_run_is_a_schedule.Goals as goal

-- what a read wants is a matter of the sources alone
wanted_with : (n : Nest) (cert : Cert) (run : List ℕ) (p k f : ℕ) (source : Option Tag) → IsWanted n cert p k f source
    → IsWanted n (record { sources = cert.sources; schedule = run }) p k f source
wanted_with n cert run p k f source wanted = record {
  entry = wanted.entry;
  turn = wanted.turn;
  origin = wanted.origin;
  said = wanted.said;
  writer = wanted.writer;
  written = wanted.written;
  tag = wanted.tag;
}

-- of what fits only the schedule's run speaks of the schedule
with_schedule : (n : Nest) (network : Network) (cert : Cert) (run : List ℕ) → Fits n network cert
    → EndsAll (net_of network) tags run → Fits n network (record { sources = cert.sources; schedule = run })
with_schedule n network cert run fits whole = record {
  shape = fits.shape;
  sources = fits.sources;
  trees = fits.trees;
  ends = whole;
  names = λ p k refs is read r here. (let named = fits.names p k refs is read r here in (named.0, wanted_with n cert run p read (fires (net_of network) p k) named.0 named.1, named.2));
  classes = fits.classes;
}

pub returns : goal.returns
returns c =
    record {
      tags = λ n network cert run fits whole. with_schedule n network cert run fits whole;
      values = λ n network cert d run fits whole.
          let net = net_of network in
          let wired = fits.shape.shaped.wired in
          with_schedule n network cert run fits (
            c.every_order.ensures.same net (values n d) tags run wired whole.0,
            λ p. c.every_order.ensures.alike net (values n d) tags run wired whole.0 p ∙ whole.1 p,
          );
    }
