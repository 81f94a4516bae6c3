-- What is done was performed, and a source has one network.
--
-- An outcome whose status says that the command is done comes of an answer to the bundle, since the other outcomes have
-- statuses of their own. The nests that a source gives have the same parts, and the network and its capacities bear on these and
-- not on the facts that a nest keeps (`network_alike`): so what one of them comes to is what each does.
use Rattle.std.proofs.Common.{◌≡◌, List, ℕ, Some, Result, refl, subst}
use Rattle.channel_plan.specs.Plans.{plans_of}
use Rattle.command_answers.specs.Replies.{Reply}
use Rattle.command_answers.specs.declared.refusal.Refusal.{Refusal}
use Rattle.command_answers.specs.declared.status.Status.TheVariants.{Done}
use Rattle.command_line.specs.declared.words.Order.{Order}
use Rattle.call_endings.specs.Outcomes.{Outcome, outcome_of}
use Rattle.compaan_top.specs.Outcome.{IsOutcome, Performs, bundle_refused, performed, words_refused}
use Rattle.compaan_top.proofs.Acceptance.{same_order, too_long}
use Rattle.compaan_top.proofs.Statuses.{no_order}
use Rattle.process_derive.specs.Derived.{net}
use Rattle.sanlp.specs.Points.{points_of}
use Rattle.sanlp.specs.Trace.{trace}
use Rattle.sanlp.specs.WellFormed.{IsWellFormed}
use Rattle.sanlp.specs.Writers.{last_before}
use Rattle.sanlp.specs.declared.nest.ArrayDecl.{ArrayDecl}
use Rattle.sanlp.specs.declared.nest.Nest.{Nest}
use Rattle.sanlp.specs.declared.nest.Node.{Node}
use Rattle.sanlp.specs.declared.nest.Statement.{Statement}
use Rattle.source_tree.specs.Sources.{sources_of}
use Rattle.witness_plan.specs.Schedules.{planned_network}
use Rattle.witness_plan.specs.Sequential.{sequential_schedule}
use Rattle.witness_plan.specs.declared.schedules.Policy.{Policy}

-- what is done was performed
pub done_answer : (order : Order) (bundle : List ℕ) {written : Outcome} → IsOutcome (Some order) bundle written
    → written.status ≡ Done
    → (answer : Result Reply Refusal) × (written ≡ outcome_of answer) × Performs order.command order bundle answer
done_answer order bundle (words_refused none) done = absurd (no_order (Some order) order none refl)
done_answer order bundle (bundle_refused other others some long) done = absurd (too_long done)
done_answer order bundle (performed other answer others within made) done =
    let same : other ≡ order = same_order (Some order) other order others refl in
    (answer, refl, subst (λ (o : Order). Performs o.command o bundle answer) same made)

-- The network of a nest

network_aside : (arrays : List ArrayDecl) (statements : List Statement) (body : List Node)
    (w v : IsWellFormed arrays statements body) (policy : Policy)
    → planned_network (record { arrays = arrays; statements = statements; body = body; well_formed = w }) policy
    ≡ planned_network (record { arrays = arrays; statements = statements; body = body; well_formed = v }) policy
unfolding trace last_before points_of sources_of plans_of net sequential_schedule
network_aside arrays statements body w v policy = refl

pub network_alike : (n m : Nest) → n.arrays ≡ m.arrays → n.statements ≡ m.statements → n.body ≡ m.body → (policy : Policy)
    → planned_network n policy ≡ planned_network m policy
network_alike n m arrays statements body policy =
    subst (λ (x : List ArrayDecl). (v : IsWellFormed x m.statements m.body)
    → planned_network n policy
    ≡ planned_network (record { arrays = x; statements = m.statements; body = m.body; well_formed = v }) policy) arrays
    (subst (λ (y : List Statement). (v : IsWellFormed n.arrays y m.body)
    → planned_network n policy
    ≡ planned_network (record { arrays = n.arrays; statements = y; body = m.body; well_formed = v }) policy) statements
    (subst (λ (z : List Node). (v : IsWellFormed n.arrays n.statements z)
    → planned_network n policy
    ≡ planned_network (record { arrays = n.arrays; statements = n.statements; body = z; well_formed = v }) policy) body
    (λ v. network_aside n.arrays n.statements n.body n.well_formed v policy))) m.well_formed
