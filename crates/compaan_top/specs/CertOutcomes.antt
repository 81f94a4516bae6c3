-- What the command `cert` comes to on a bundle: one case for each cause, in the order in which they decide.
use Rattle.std.specs.Prelude.{ℕ, ℤ, List, Result, Ok, Err}
use Rattle.cert_text.specs.StandsFor.{IsWrittenOf}
use Rattle.bundle.specs.Parts.{source_part}
use Rattle.swept_net.specs.Certificates.{IsCertificate}
use Rattle.sanlp.specs.declared.nest.Nest.{Nest}
use Rattle.source_tree.specs.declared.cert.Cert.{Cert}
use Rattle.witness_plan.specs.declared.schedules.Policy.{Policy}
use Rattle.witness_plan.specs.Schedules.{planned_network}
use Rattle.command_answers.specs.Replies.{Reply, done}
use Rattle.command_answers.specs.Source.{GivesWithinSize}
use Rattle.command_answers.specs.declared.refusal.Refusal.{Refusal}

-- The source gives no nest within the limit; or a text is written of its network, with the capacities that its schedule
-- needs, and of a certificate of it. There are many such texts, since any blocks that stand for a script may write it, and
-- since a certificate may give any usable tree for a read or none.
pub data PrintsCertificate (policy : Policy) (params : List (List ℕ × ℤ))
    (bundle : List ℕ) : Result Reply Refusal → Type 0 where
  source_refused : (refusal : Refusal) → GivesWithinSize (source_part bundle) params (Err refusal)
      → PrintsCertificate policy params bundle (Err refusal)
  printed : (nest : Nest) (cert : Cert) (text : List ℕ)
      → GivesWithinSize (source_part bundle) params (Ok nest)
      → IsCertificate nest policy cert
      → IsWrittenOf text (planned_network nest policy) cert
      → PrintsCertificate policy params bundle (Ok (done text))
