-- What the program answers to its words and its bundle: one case for each cause, in the order in which they decide. Of the
-- words it takes the order that they give, or None where they are refused.
use Rattle.std.specs.Prelude.{◌≡◌, ◌≢◌, ◌≤◌, ◌<◌, ℕ, List, length, Option, Some, None, Result, Err}
use Rattle.command_line.specs.declared.words.Command.{Command}
use Rattle.command_line.specs.declared.words.Command.TheVariants.{Run, Seq, Net, Cert, Check, Deps, Vhdl, Load, Sim, Trim, Trace}
use Rattle.command_line.specs.declared.words.Order.{Order}
use Rattle.compaan_top.specs.CertOutcomes.{PrintsCertificate}
use Rattle.command_answers.specs.Checking.{Checks}
use Rattle.call_endings.specs.Outcomes.{Outcome, outcome_of}
use Rattle.call_endings.specs.Reads.{bundle_limit, nothing}
use Rattle.compaan_top.specs.Commands.{reads_of}
use Rattle.command_answers.specs.Describing.{Describes}
use Rattle.command_answers.specs.Load.{Loads}
use Rattle.command_answers.specs.Printing.{Prints, network_text}
use Rattle.command_answers.specs.Replies.{Reply}
use Rattle.command_answers.specs.Run.{Runs, run_text}
use Rattle.command_answers.specs.Simulating.{simulation_text}
use Rattle.compaan_top.specs.DepsOutcomes.{TellsSources}
use Rattle.command_answers.specs.Tracing.{Traces}
use Rattle.command_answers.specs.Trimming.{trimming_text}
use Rattle.command_answers.specs.declared.refusal.Refusal.{Refusal}
use Rattle.command_answers.specs.declared.refusal.Refusal.TheVariants.{Usage, TooLong}

-- what an order's command comes to on a bundle; `load` has none
abbrev pub Performs : Command → Order → List ℕ → Result Reply Refusal → Type 0
Performs Run order = Runs run_text order.params
Performs Seq order = Runs run_text order.params
Performs Net order = Prints (network_text order.policy) order.params
Performs Cert order = PrintsCertificate order.policy order.params
Performs Check order = Checks order.params
Performs Deps order = TellsSources order.params
Performs Vhdl order = Describes order.policy order.params
Performs Load order = λ bundle. Loads order.policy order.load
Performs Sim order = Runs (simulation_text order.policy) order.params
Performs Trim order = Prints (trimming_text order.policy) order.params
Performs Trace order = Traces order.policy order.params

-- The words are refused, the bundle is too long, or the command is performed.
pub data IsOutcome (wanted : Option Order) (bundle : List ℕ) : Outcome → Type 0 where
  words_refused : wanted ≡ None → IsOutcome wanted bundle (outcome_of (Err Usage))
  bundle_refused : (order : Order) → wanted ≡ Some order → reads_of order.command ≢ nothing
      → bundle_limit < length bundle
      → IsOutcome wanted bundle (outcome_of (Err TooLong))
  performed : (order : Order) (answer : Result Reply Refusal) → wanted ≡ Some order
      → length bundle ≤ bundle_limit
      → Performs order.command order bundle answer → IsOutcome wanted bundle (outcome_of answer)
