-- What is judged of a certificate beside its schedule doesn't depend on its schedule: shape and sources read the sources alone.
use Rattle.std.proofs.Common.{◌≡◌, ℕ, List, refl}
use Rattle.sanlp.specs.declared.nest.Nest.{Nest}
use Rattle.source_tree.specs.declared.cert.Cert.{Cert}
use Rattle.net_core.specs.declared.network.Network.{Network}
use Rattle.net_checker.specs.Fits.{first, first_with, with_entries}
use Rattle.net_checker.specs.Shapes.{shape_refusal}
use Rattle.net_checker.specs.Sources.{source_refusal}

pub first_same : (n : Nest) (network : Network) (cert : Cert) (entries : List ℕ)
    → first_with n network cert entries ≡ first n network (with_entries cert entries)
unfolding shape_refusal source_refusal
first_same n network cert entries = refl
