-- What the command `net` comes to on a bundle: one case for each cause, in the order in which they decide.
use Rattle.std.specs.Prelude.{ℕ, ℤ, List, Result, Ok, Err}
use Rattle.bundle.specs.Parts.{source_part}
use Rattle.net_text.specs.NetworkText.{net_text}
use Rattle.sanlp.specs.declared.nest.Nest.{Nest}
use Rattle.witness_plan.specs.declared.schedules.Policy.{Policy}
use Rattle.witness_plan.specs.Schedules.{planned_network}
use Rattle.command_answers.specs.Replies.{Reply, done}
use Rattle.command_answers.specs.Source.{GivesWithinSize}
use Rattle.command_answers.specs.declared.refusal.Refusal.{Refusal}

-- what `net` prints of a nest: its network, with the capacities that its schedule needs
abbrev pub network_text : Policy → Nest → List ℕ
network_text policy nest = net_text nest (planned_network nest policy)

-- The source gives no nest within the limit, or the text of the nest is written.
pub data Prints (text : Nest → List ℕ) (params : List (List ℕ × ℤ))
    (bundle : List ℕ) : Result Reply Refusal → Type 0 where
  source_refused : (refusal : Refusal) → GivesWithinSize (source_part bundle) params (Err refusal)
      → Prints text params bundle (Err refusal)
  printed : (nest : Nest) → GivesWithinSize (source_part bundle) params (Ok nest)
      → Prints text params bundle (Ok (done (text nest)))
