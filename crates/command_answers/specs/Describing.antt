-- What the command `vhdl` comes to on a bundle: one case for each cause, in the order in which they decide.
use Rattle.std.specs.Prelude.{◌≡◌, ℕ, ℤ, List, Some, None, Result, Ok, Err}
use Rattle.bundle.specs.Parts.{source_part}
use Rattle.node_automata.specs.Automata.{automata}
use Rattle.node_automata.specs.declared.node.NodeAuto.{NodeAuto}
use Rattle.sanlp.specs.declared.nest.Nest.{Nest}
use Rattle.vhdl_text.specs.Refusal.{first_too_long}
use Rattle.vhdl_text.specs.VhdlText.{vhdl_text}
use Rattle.witness_plan.specs.Schedules.{planned_network}
use Rattle.witness_plan.specs.declared.schedules.Policy.{Policy}
use Rattle.command_answers.specs.Refusals.{script_refusal}
use Rattle.command_answers.specs.Replies.{Reply, done}
use Rattle.command_answers.specs.Source.{GivesWithinSize}
use Rattle.command_answers.specs.declared.answer.NodesAnswer.{NodesAnswer}
use Rattle.command_answers.specs.declared.refusal.Refusal.{Refusal}

-- the automata of a nest's network, with the capacities that its schedule needs
abbrev pub planned_automata : Policy → Nest → List NodeAuto
planned_automata policy nest = automata nest (planned_network nest policy)

-- the planned network and automata of a nest are to be written, or a script is too long
abbrev pub HasNodes : Policy → Nest → Result NodesAnswer Refusal → Type 0
HasNodes policy nest (Ok answer) =
    (answer.network ≡ planned_network nest policy) × (answer.autos ≡ planned_automata policy nest)
    × (first_too_long (planned_automata policy nest) ≡ None)
HasNodes policy nest (Err refusal) =
    (auto : NodeAuto) × (first_too_long (planned_automata policy nest) ≡ Some auto)
    × (refusal ≡ script_refusal auto)

-- The source gives no nest within the limit, a process has too long a script, or the VHDL text is written.
pub data Describes (policy : Policy) (params : List (List ℕ × ℤ))
    (bundle : List ℕ) : Result Reply Refusal → Type 0 where
  source_refused : (refusal : Refusal) → GivesWithinSize (source_part bundle) params (Err refusal)
      → Describes policy params bundle (Err refusal)
  script_refused : (nest : Nest) (auto : NodeAuto)
      → GivesWithinSize (source_part bundle) params (Ok nest)
      → first_too_long (planned_automata policy nest) ≡ Some auto
      → Describes policy params bundle (Err (script_refusal auto))
  described : (nest : Nest) → GivesWithinSize (source_part bundle) params (Ok nest)
      → first_too_long (planned_automata policy nest) ≡ None
      → Describes policy params bundle
      (Ok (done (vhdl_text (planned_network nest policy) (planned_automata policy nest))))
