-- What the command `trace` comes to on a bundle: one case for each cause, in the order in which they decide.
use Rattle.std.specs.Prelude.{ℕ, ℤ, List, Result, Ok, Err}
use Rattle.bundle.specs.Parts.{source_part}
use Rattle.net_core.specs.Machine.{net_of}
use Rattle.net_core.specs.Orders.{EndsAll}
use Rattle.net_core.specs.Rules.{tags}
use Rattle.sanlp.specs.declared.nest.Nest.{Nest}
use Rattle.trace_text.specs.TraceText.{trace_text}
use Rattle.witness_plan.specs.Schedules.{planned_network}
use Rattle.witness_plan.specs.declared.schedules.Policy.{Policy}
use Rattle.command_answers.specs.Replies.{Reply, done}
use Rattle.command_answers.specs.Source.{GivesWithinSize}
use Rattle.command_answers.specs.declared.refusal.Refusal.{Refusal}

-- this list is a run from the start of the nest's network, and it ends all
abbrev pub EndsNetwork : Policy → Nest → List ℕ → Type 0
EndsNetwork policy nest run = EndsAll (net_of (planned_network nest policy)) tags run

-- The source gives no nest within the limit, or some run of its network that ends all is written.
pub data Traces (policy : Policy) (params : List (List ℕ × ℤ))
    (bundle : List ℕ) : Result Reply Refusal → Type 0 where
  source_refused : (refusal : Refusal) → GivesWithinSize (source_part bundle) params (Err refusal)
      → Traces policy params bundle (Err refusal)
  traced : (nest : Nest) (run : List ℕ) → GivesWithinSize (source_part bundle) params (Ok nest)
      → EndsNetwork policy nest run
      → Traces policy params bundle (Ok (done (trace_text run)))
