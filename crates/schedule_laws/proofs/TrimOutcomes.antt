-- What `trim` writes are least capacities of the network of its source.
--
-- An outcome of `trim` that is done has the text of the least capacities of the network of some nest that the source gives
-- (`outcome_capacities`). A source gives nests with the same network alone. That network with these capacities is sound, and
-- no lesser ones let a run end all, by the laws of networks, which are hypotheses here; what they say of capacities as a
-- function holds of the list that is written (`least_of`). How the capacities are found isn't a matter of this file.
use Rattle.std.proofs.Common.{◌≡◌, ◌<◌, ◌≤◌, ℕ, ℤ, List, Some, Result, Ok, length, get_or, refl, sym, ap, ◌∙◌, subst}
use Rattle.std.proofs.Common.{arith}
use Rattle.std.proofs.lemmas.List.FromFn.{get_or-map-range_with_len}
use Rattle.bundle.specs.Parts.{source_part}
use Rattle.cap_trim.specs.Capacities.{IsPlanned, capacity_list, lowered_rests, trimmed_network, with_room}
use Rattle.cap_trim.proofs.CapacityLists.{last_long, list_is}
use Rattle.cap_trim.proofs.TrimFits.{places_stick, planned_wired}
use Rattle.command_answers.specs.Printing.{Prints, printed, source_refused}
use Rattle.command_answers.specs.Replies.{Reply}
use Rattle.command_answers.specs.Source.{GivesWithinSize}
use Rattle.command_answers.specs.Trimming.{capacities_text, trimming_text}
use Rattle.command_answers.specs.declared.refusal.Refusal.{Refusal}
use Rattle.command_answers.specs.declared.status.Status.TheVariants.{Done}
use Rattle.command_line.specs.declared.words.Command.{Command}
use Rattle.command_line.specs.declared.words.Command.TheVariants.{Trim}
use Rattle.command_line.specs.declared.words.Order.{Order}
use Rattle.call_endings.specs.Complaints.{refusal_status}
use Rattle.call_endings.specs.Outcomes.{Outcome, outcome_of}
use Rattle.compaan_top.specs.Outcome.{IsOutcome, Performs}
use Rattle.compaan_top.proofs.Acceptance.{of_source}
use Rattle.compaan_top.proofs.OwnStatuses.{sized_refused}
use Rattle.compaan_top.proofs.Statuses.{Alike, OneTree, sized_alike}
use Rattle.net_core.specs.declared.network.Network.{Network}
use Rattle.net_core.specs.Machine.{net_of}
use Rattle.net_core.specs.Orders.{EndsAll}
use Rattle.net_core.specs.Rules.{tags}
use Rattle.net_core.specs.Sound.{IsSound}
use Rattle.sanlp.specs.declared.nest.Nest.{Nest}
use Rattle.trim_text.specs.TrimText.{trim_text}
use Rattle.witness_plan.specs.Schedules.{planned_network}
use Rattle.witness_plan.specs.Sequential.{with_capacities}
use Rattle.witness_plan.specs.declared.schedules.Policy.{Policy}
use Rattle.schedule_laws.specs.LeastCapacities.{AreLeast, WritesCapacities}
use Rattle.schedule_laws.proofs.DoneAnswers.{done_answer, network_alike}

-- What `trim` comes to

record HasCapacities (policy : Policy) (params : List (List ℕ × ℤ)) (bundle text : List ℕ) : Type 0 where
  nest : Nest
  gives : GivesWithinSize (source_part bundle) params (Ok nest)
  is : text ≡ trimming_text policy nest

prints_capacities : (order : Order) (bundle : List ℕ) {answer : Result Reply Refusal}
    → Prints (trimming_text order.policy) order.params bundle answer → (outcome_of answer).status ≡ Done
    → HasCapacities order.policy order.params bundle (outcome_of answer).output
prints_capacities order bundle (source_refused refusal gives) done =
    absurd (of_source (refusal_status refusal) (sized_refused (source_part bundle) order.params gives) done)
prints_capacities order bundle (printed nest gives) done = record { nest = nest; gives = gives; is = refl }

outcome_capacities : (order : Order) (bundle : List ℕ) (written : Outcome) → order.command ≡ Trim
    → IsOutcome (Some order) bundle written → written.status ≡ Done
    → HasCapacities order.policy order.params bundle written.output
outcome_capacities order bundle written is outcome done =
    let found = done_answer order bundle outcome done in
    subst (λ (o : Outcome). HasCapacities order.policy order.params bundle o.output) (sym found.1)
    (prints_capacities order bundle
    (subst (λ (c : Command). Performs c order bundle found.0) is found.2)
    (ap (λ (o : Outcome). o.status) (sym found.1) ∙ done))

-- The list of least capacities

-- the laws of networks, at a nest

abbrev pub SoundWithLeast : Nest → Type 0
SoundWithLeast nest =
    (network : Network) (capacities : List ℕ) → IsPlanned nest network
    → capacities ≡ capacity_list (trimmed_network (net_of network))
    → IsSound nest (with_capacities network capacities)

abbrev pub NoLesserEnds : Nest → Type 0
NoLesserEnds nest =
    (network : Network) (lesser : ℕ → ℕ) (c : ℕ) (run : List ℕ) → IsPlanned nest network → c < length network.channels
    → ((d : ℕ) → d < length network.channels → lesser d ≤ (trimmed_network (net_of network)).capacity d)
    → lesser c < (trimmed_network (net_of network)).capacity c
    → EndsAll (with_room (net_of network) lesser) tags run → ⊥

least_of : (nest : Nest) → SoundWithLeast nest → NoLesserEnds nest → (network : Network) → IsPlanned nest network
    → AreLeast nest network (capacity_list (trimmed_network (net_of network)))
    (lowered_rests (trimmed_network (net_of network)))
least_of nest sound minimal network planned =
    let capacities : List ℕ = capacity_list (trimmed_network (net_of network)) in
    let count : length capacities ≡ length network.channels = last_long network in
    let at : (d : ℕ) → d < length network.channels
    → get_or capacities d 0 ≡ (trimmed_network (net_of network)).capacity d =
    λ d lt. (
    ap (λ (l : List ℕ). get_or l d 0) (list_is network)
    ∙ get_or-map-range_with_len (trimmed_network (net_of network)).capacity 0 (length network.channels) d d 0 lt
    (omega arith)) in
    record {
      each = count;
      sound = sound network capacities planned refl;
      none_below = λ lesser c run there within below whole.
          minimal network lesser c run planned there (λ d lt. omega (arith, within d lt, at d lt))
          (omega (arith, below, at c there)) whole;
      sticks =
          places_stick nest network capacities planned (planned_wired nest network planned) refl
          (lowered_rests (trimmed_network (net_of network))) refl;
    }

pub trims_least : OneTree → (nest : Nest) → SoundWithLeast nest → NoLesserEnds nest
    → (order : Order) (given : List ℕ) (written : Outcome)
    → GivesWithinSize (source_part given) order.params (Ok nest) → WritesCapacities order given written
    → (capacities : List ℕ) × (rests : List (List ℕ)) × (written.output ≡ trim_text capacities rests)
    × AreLeast nest (planned_network nest order.policy) capacities rests
trims_least one nest sound minimal order given written gives writes =
    let has : HasCapacities order.policy order.params given written.output =
    outcome_capacities order given written writes.command writes.outcome writes.done in
    let alike : Alike (Ok has.nest) (Ok nest) =
    sized_alike one (source_part given) order.params has.gives gives in
    let network : Network = planned_network nest order.policy in
    let same : planned_network has.nest order.policy ≡ network =
    network_alike has.nest nest alike.0 alike.1 alike.2 order.policy in
    let text : written.output ≡ capacities_text (trimmed_network (net_of network)) =
    has.is ∙ ap (λ (x : Network). capacities_text (trimmed_network (net_of x))) same in (
      capacity_list (trimmed_network (net_of network)),
      lowered_rests (trimmed_network (net_of network)),
      text,
      least_of nest sound minimal network (order.policy, refl),
    )
