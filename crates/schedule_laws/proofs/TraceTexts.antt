-- What `trace` writes is a run that ends all of the network of its source.
--
-- An outcome of `trace` that is done has the text of a run that ends all of the network of some nest that the source gives
-- (`outcome_run`). A source gives nests with the same network alone. So the run ends all of the network of each of them. That
-- tokens have one tree is a hypothesis here.
use Rattle.std.proofs.Common.{◌≡◌, ℕ, ℤ, List, Some, Result, Ok, refl, sym, ap, ◌∙◌, subst}
use Rattle.bundle.specs.Certified.{certified}
use Rattle.bundle.specs.Parts.{source_part}
use Rattle.cert_text.specs.Reading.{reading}
use Rattle.cert_text.specs.StandsFor.{StandsFor}
use Rattle.command_line.specs.declared.words.Command.{Command}
use Rattle.command_line.specs.declared.words.Command.TheVariants.{Trace}
use Rattle.command_line.specs.declared.words.Order.{Order}
use Rattle.net_checker.specs.Fits.{Fits}
use Rattle.net_core.specs.Machine.{net_of}
use Rattle.net_core.specs.Orders.{EndsAll}
use Rattle.net_core.specs.Rules.{tags}
use Rattle.net_core.specs.declared.network.Network.{Network}
use Rattle.sanlp.specs.declared.nest.Nest.{Nest}
use Rattle.source_tree.specs.declared.cert.Cert.{Cert}
use Rattle.witness_plan.specs.Schedules.{planned_network}
use Rattle.witness_plan.specs.declared.schedules.Policy.{Policy}
use Rattle.trace_text.specs.TraceText.{trace_text}
use Rattle.network_laws.specs.Entries.{text_with_run}
use Rattle.command_answers.specs.Replies.{Reply}
use Rattle.command_answers.specs.Source.{GivesWithinSize}
use Rattle.command_answers.specs.Tracing.{EndsNetwork, Traces, source_refused, traced}
use Rattle.command_answers.specs.declared.refusal.Refusal.{Refusal}
use Rattle.command_answers.specs.declared.status.Status.TheVariants.{Done}
use Rattle.compaan_top.specs.CheckAnswers.{AgreeOn, StandsForPlanned}
use Rattle.call_endings.specs.Complaints.{refusal_status}
use Rattle.call_endings.specs.Outcomes.{Outcome, outcome_of}
use Rattle.compaan_top.specs.Outcome.{IsOutcome, Performs}
use Rattle.compaan_top.proofs.Acceptance.{TextIsRead, of_source, same_pair}
use Rattle.compaan_top.proofs.OwnStatuses.{sized_refused}
use Rattle.compaan_top.proofs.Statuses.{Alike, OneTree, sized_alike}
use Rattle.schedule_laws.specs.Calls.{SurelyAccepts, WritesRun}
use Rattle.schedule_laws.proofs.DoneAnswers.{done_answer, network_alike}
use Rattle.schedule_laws.proofs.Sources.{gives_by_others}
use Rattle.schedule_laws.proofs.WithRun.{AcceptsFitting, FittingWithRun, HasFittingPair, HasOwnParts, accepts_own}

-- What `trace` comes to

record HasRun (policy : Policy) (params : List (List ℕ × ℤ)) (bundle text : List ℕ) : Type 0 where
  nest : Nest
  run : List ℕ
  gives : GivesWithinSize (source_part bundle) params (Ok nest)
  ends : EndsNetwork policy nest run
  is : text ≡ trace_text run

traces_run : (order : Order) (bundle : List ℕ) {answer : Result Reply Refusal}
    → Traces order.policy order.params bundle answer → (outcome_of answer).status ≡ Done
    → HasRun order.policy order.params bundle (outcome_of answer).output
traces_run order bundle (source_refused refusal gives) done =
    absurd (of_source (refusal_status refusal) (sized_refused (source_part bundle) order.params gives) done)
traces_run order bundle (traced nest run gives ends) done =
    record { nest = nest; run = run; gives = gives; ends = ends; is = refl }

outcome_run : (order : Order) (bundle : List ℕ) (written : Outcome) → order.command ≡ Trace
    → IsOutcome (Some order) bundle written → written.status ≡ Done
    → HasRun order.policy order.params bundle written.output
outcome_run order bundle written is outcome done =
    let found = done_answer order bundle outcome done in
    subst (λ (o : Outcome). HasRun order.policy order.params bundle o.output) (sym found.1)
    (traces_run order bundle (subst (λ (c : Command). Performs c order bundle found.0) is found.2)
    (ap (λ (o : Outcome). o.status) (sym found.1) ∙ done))

pub traces_full_run : OneTree → (order : Order) (given : List ℕ) (nest : Nest) (written : Outcome)
    → GivesWithinSize (source_part given) order.params (Ok nest) → WritesRun order given written
    → (run : List ℕ) × (written.output ≡ trace_text run)
    × EndsAll (net_of (planned_network nest order.policy)) tags run
traces_full_run one order given nest written gives writes =
    let has : HasRun order.policy order.params given written.output =
    outcome_run order given written writes.command writes.outcome writes.done in
    let alike : Alike (Ok has.nest) (Ok nest) =
    sized_alike one (source_part given) order.params has.gives gives in
    let same : planned_network has.nest order.policy ≡ planned_network nest order.policy =
    network_alike has.nest nest alike.0 alike.1 alike.2 order.policy in
    (has.run, has.is, subst (λ (network : Network). EndsAll (net_of network) tags has.run) same has.ends)

-- What `cert` wrote, with what `trace` wrote

-- the network and the certificate that what `cert` wrote stands for fit the nest that the source gives `check`
planned_pair : TextIsRead → (cert check : Order) (bundle text : List ℕ) (network : Network) (own : Cert)
    → AgreeOn (source_part bundle) cert.params check.params → (planned : StandsForPlanned cert bundle text)
    → ◌≡◌ {A = Network × Cert} (planned_network planned.nest cert.policy, planned.cert) (network, own)
    → HasFittingPair check.params bundle network own
planned_pair back cert check bundle text network own agree planned pairs =
    record {
      nest = planned.nest;
      gives = gives_by_others (source_part bundle) cert.params check.params planned.nest agree planned.gives;
      fits = subst (λ (z : Network × Cert). Fits planned.nest z.0 z.1) pairs planned.certificate.fits;
    }

pub accepts_traced : AcceptsFitting → FittingWithRun → HasOwnParts → OneTree → TextIsRead
    → (cert trace check : Order) (bundle text : List ℕ) (network : Network) (own : Cert) (written : Outcome)
    → trace.policy ≡ cert.policy → AgreeOn (source_part bundle) cert.params trace.params
    → AgreeOn (source_part bundle) cert.params check.params → StandsForPlanned cert bundle text
    → WritesRun trace bundle written → (stands : StandsFor text network own)
    → (run : List ℕ) × (written.output ≡ trace_text run)
    × SurelyAccepts check (certified (source_part bundle) (text_with_run stands run)) (text_with_run stands run)
accepts_traced accepts with_run own_parts one back cert trace check bundle text network own written policies traces checks
    planned writes stands =
    let pairs : ◌≡◌ {A = Network × Cert} (planned_network planned.nest cert.policy, planned.cert) (network, own) =
    same_pair (reading text) (planned_network planned.nest cert.policy, planned.cert) (network, own)
    (back text (planned_network planned.nest cert.policy) planned.cert planned.stands) (back text network own stands) in
    let found =
    traces_full_run one trace bundle planned.nest written
    (gives_by_others (source_part bundle) cert.params trace.params planned.nest traces planned.gives) writes in
    let planned_ends : EndsAll (net_of (planned_network planned.nest cert.policy)) tags found.0 =
    subst (λ (policy : Policy). EndsAll (net_of (planned_network planned.nest policy)) tags found.0) policies found.2 in
    let ends : EndsAll (net_of network) tags found.0 =
    subst (λ (z : Network × Cert). EndsAll (net_of z.0) tags found.0) pairs planned_ends in (
      found.0,
      found.1,
      accepts_own accepts with_run own_parts check bundle text found.0 network own
          (planned_pair back cert check bundle text network own checks planned pairs) stands ends,
    )
