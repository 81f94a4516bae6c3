-- What the command `vhdl` comes to, from what its steps come to.
--
-- The code asks a network for the first script that is too long, and the definitions ask the automata of the planned
-- network for it. The network at hand is the planned one, so its automata are the planned ones, and what is found is
-- the same: none, or a process with the number of its events, which is all that the refusal tells. So the nodes are to
-- be written or the script is refused, and the whole command has a case for each of these and one for a source that
-- gives no nest. Whether a script is too long, and what the text is, is judged in crate vhdl_text and taken as it
-- stands.
use Rattle.std.proofs.Common.{◌≡◌, ◌∙◌, ℕ, ℤ, List, Option, Some, None, Result, Ok, Err, ap, refl, sym, subst}
use Rattle.std.proofs.lemmas.Option.{same_Some}
use Rattle.std.specs.Option.{option_map}
use Rattle.bundle.specs.Parts.{source_part}
use Rattle.net_core.specs.declared.network.Network.{Network}
use Rattle.node_automata.specs.Automata.{automata}
use Rattle.node_automata.specs.declared.node.NodeAuto.{NodeAuto}
use Rattle.sanlp.specs.declared.nest.Nest.{Nest}
use Rattle.vhdl_text.specs.Refusal.{first_too_long, process_and_length}
use Rattle.vhdl_text.specs.VhdlText.{vhdl_text}
use Rattle.witness_plan.specs.Schedules.{planned_network}
use Rattle.witness_plan.specs.declared.schedules.Policy.{Policy}
use Rattle.command_answers.specs.Describing.{Describes, HasNodes, planned_automata, script_refused, described}
use Rattle.command_answers.specs.Judging.{Judges}
use Rattle.command_answers.specs.Replying.{as_reply}
use Rattle.command_answers.specs.Replies.{done}
use Rattle.command_answers.specs.Source.{GivesWithinSize}
use Rattle.command_answers.specs.declared.answer.Answer.{Answer}
use Rattle.command_answers.specs.declared.answer.NodesAnswer.{NodesAnswer}
use Rattle.command_answers.specs.declared.refusal.Refusal.{Refusal}
use Rattle.command_answers.specs.declared.refusal.Refusal.TheVariants.{Script}
use Rattle.command_answers.specs.declared.refusal.Stop.{Stop}
use Rattle.command_answers.proofs.Stops.{Judges-Err, nest_is}

abbrev pub JudgesDescribed : Policy → List (List ℕ × ℤ) → List ℕ → Result Answer Stop → Type 0
JudgesDescribed policy params bundle result = Judges (λ answer. Describes policy params bundle (as_reply answer)) result

-- Where no script is too long, and where one is

no_long : (o : Option NodeAuto) → None ≡ option_map process_and_length o → o ≡ None
no_long None is = refl
no_long (Some auto) is = let none : None ≡ Some (process_and_length auto) = is in cc

some_long : (o : Option NodeAuto) (process events : ℕ) → Some (process, events) ≡ option_map process_and_length o
    → (auto : NodeAuto) × (o ≡ Some auto) × ((process, events) ≡ process_and_length auto)
some_long None process events is = absurd (let none : Some (process, events) ≡ None = is in cc)
some_long (Some auto) process events is = (auto, refl, same_Some (process, events) (process_and_length auto) is)

module _ (policy : Policy) (nest : Nest) (network : Network) (planned : network ≡ planned_network nest policy) where
  first_is : first_too_long (planned_automata policy nest) ≡ first_too_long (automata nest network)
  first_is = ap (λ (n : Network). first_too_long (automata nest n)) (sym planned)

  pub none_planned : None ≡ option_map process_and_length (first_too_long (automata nest network))
      → first_too_long (planned_automata policy nest) ≡ None
  none_planned none = first_is ∙ no_long (first_too_long (automata nest network)) none

  pub refused_planned : (process events : ℕ)
      → Some (process, events) ≡ option_map process_and_length (first_too_long (automata nest network))
      → HasNodes policy nest (Err (Script process events))
  refused_planned process events some =
      let long = some_long (first_too_long (automata nest network)) process events some in
      (long.0, first_is ∙ long.1, ap (λ (pair : ℕ × ℕ). Script pair.0 pair.1) long.2)

  pub automata_planned : (autos : List NodeAuto) → autos ≡ automata nest network
      → autos ≡ planned_automata policy nest
  automata_planned autos are = are ∙ ap (automata nest) planned

-- The command

pub described_without_nodes : (policy : Policy) (params : List (List ℕ × ℤ)) (bundle source : List ℕ) (nest : Nest)
    (stop : Stop) → source ≡ source_part bundle → GivesWithinSize source params (Ok nest)
    → Judges (HasNodes policy nest) (Err stop) → JudgesDescribed policy params bundle (Err stop)
described_without_nodes policy params bundle source nest stop is gives =
    Judges-Err (HasNodes policy nest) (λ answer. Describes policy params bundle (as_reply answer)) stop
    (λ refusal step.
    subst (λ (r : Refusal). Describes policy params bundle (Err r)) (sym step.2)
    (script_refused nest step.0 (nest_is params bundle source (Ok nest) is gives) step.1))

pub described_nodes : (policy : Policy) (params : List (List ℕ × ℤ)) (bundle source : List ℕ) (nest : Nest)
    (answer : NodesAnswer) → source ≡ source_part bundle → GivesWithinSize source params (Ok nest)
    → HasNodes policy nest (Ok answer)
    → Describes policy params bundle (Ok (done (vhdl_text answer.network answer.autos)))
described_nodes policy params bundle source nest answer is gives has =
    rw (has.0, has.1) (described nest (nest_is params bundle source (Ok nest) is gives) has.2)
