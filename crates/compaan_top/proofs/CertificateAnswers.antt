-- What the command `cert` comes to, from what its steps come to.
use Rattle.std.proofs.Common.{◌≡◌, ℕ, ℤ, List, Ok, subst}
use Rattle.bundle.specs.Parts.{source_part}
use Rattle.cert_text.specs.StandsFor.{IsWrittenOf}
use Rattle.net_core.specs.declared.network.Network.{Network}
use Rattle.swept_net.specs.Certificates.{IsCertificate}
use Rattle.sanlp.specs.declared.nest.Nest.{Nest}
use Rattle.source_tree.specs.declared.cert.Cert.{Cert}
use Rattle.witness_plan.specs.declared.schedules.Policy.{Policy}
use Rattle.witness_plan.specs.Schedules.{planned_network}
use Rattle.command_answers.specs.Replies.{done}
use Rattle.command_answers.specs.Source.{GivesWithinSize}
use Rattle.command_answers.proofs.Stops.{nest_is}
use Rattle.compaan_top.specs.CertOutcomes.{PrintsCertificate, printed}

pub prints_certificate : (policy : Policy) (params : List (List ℕ × ℤ)) (bundle source text : List ℕ) (nest : Nest)
    (network : Network) (cert : Cert) → source ≡ source_part bundle
    → GivesWithinSize source params (Ok nest) → network ≡ planned_network nest policy → IsCertificate nest policy cert
    → IsWrittenOf text network cert → PrintsCertificate policy params bundle (Ok (done text))
prints_certificate policy params bundle source text nest network cert is gives planned certified written =
    printed nest cert text (nest_is params bundle source (Ok nest) is gives) certified
    (subst (λ (n : Network). IsWrittenOf text n cert) planned written)
