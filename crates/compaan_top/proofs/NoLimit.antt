-- Where each read of the source's nest has a tree, `deps` doesn't end with the status of a passed limit.
--
-- Such an order and bundle are valid whatever the nest's size, so where the call wrote an outcome of the bundle the
-- command was done, or the bundle was too long; a call that wrote none has a status of its own. It isn't said that the
-- call succeeds: a source or a sink may fail, and memory may be short.
use Rattle.std.proofs.Common.{◌≡◌, ◌≢◌, ◌∙◌, ℕ, [], List, Option, Some, None, refl, sym, subst}
use Rattle.command_answers.specs.declared.status.Status.{Status}
use Rattle.command_answers.specs.declared.status.Status.TheVariants.{BundleRefused, Done, LimitPassed}
use Rattle.command_line.specs.declared.words.Command.{Command}
use Rattle.command_line.specs.declared.words.Command.TheVariants.{Deps}
use Rattle.command_line.specs.declared.words.Order.{Order}
use Rattle.std.specs.Prelude.{◌≤◌, length}
use Rattle.call_endings.specs.Changes.{Change}
use Rattle.call_endings.specs.Outcomes.{Outcome, outcome_of}
use Rattle.call_endings.specs.Reads.{bundle_limit}
use Rattle.compaan_top.specs.Answers.{Ends}
use Rattle.compaan_top.specs.Commands.{reads_of}
use Rattle.compaan_top.specs.Laws.{HasParts, IsDone, IsNestFor, IsValid, IsWithinOwnLimit, IsWithinSizeFor, Succeeds}
use Rattle.compaan_top.specs.Outcome.{IsOutcome, bundle_refused, performed, words_refused}
use Rattle.compaan_top.specs.DepsOutcomes.{GivesTrees}
use Rattle.compaan_top.specs.InputBytes.{ComesTo, IsDecision, HasLeft}
use Rattle.compaan_top.proofs.SourceBytes.{comes_to}

no_words : (order : Order) → ◌≡◌ {A = Option Order} (Some order) None → ⊥
no_words order is = cc

too_long_is_no_limit : BundleRefused ≡ LimitPassed → ⊥
too_long_is_no_limit is = cc

done_is_no_limit : Done ≡ LimitPassed → ⊥
done_is_no_limit is = cc

-- the status of a passed limit is an answer
limit_is_answered : IsDecision LimitPassed
limit_is_answered = (λ is. cc, λ is. cc, λ is. cc)

module _ (order : Order) (is : order.command ≡ Deps) (bundle : List ℕ) (trees : GivesTrees order.params bundle) where
  abbrev valid : length bundle ≤ bundle_limit → IsValid (Some order) bundle
  valid within = record {
    order = order;
    nest = trees.nest;
    total = 0;
    inputs = record { arrays = [] };
    ordered = refl;
    within = within;
    gives = subst (λ (c : Command). IsNestFor (reads_of c) order bundle trees.nest) (sym is) trees.gives;
    counts = subst (λ (c : Command). IsWithinSizeFor c trees.nest 0) (sym is) (λ some. absurd (some trees.trees));
    limited = subst (λ (c : Command). IsWithinOwnLimit c order.policy trees.nest) (sym is) tt;
    has = subst (λ (c : Command). HasParts (reads_of c) trees.nest bundle (record { arrays = [] })) (sym is) tt;
  }

  outcome_unlimited : ((wanted : Option Order) (bundle : List ℕ) → Succeeds wanted bundle) → {outcome : Outcome}
      → IsOutcome (Some order) bundle outcome → outcome.status ≡ LimitPassed → ⊥
  outcome_unlimited succeeds (words_refused none) passed = absurd (no_words order none)
  outcome_unlimited succeeds (bundle_refused other ordered some long) passed = too_long_is_no_limit passed
  outcome_unlimited succeeds (performed other answer ordered within made) passed =
      let done : IsDone (reads_of order.command) (outcome_of answer).status =
      succeeds (Some order) bundle (valid within) (outcome_of answer) (performed other answer ordered within made) in
      done_is_no_limit (sym (subst (λ (c : Command). IsDone (reads_of c) (outcome_of answer).status) is done) ∙ passed)

  ends_unlimited : ((wanted : Option Order) (bundle : List ℕ) → Succeeds wanted bundle)
      → (input output complaint : Change) (status : Status) → Ends (Some order) input output complaint status
      → HasLeft (reads_of order.command) input.old bundle → status ≢ LimitPassed
  ends_unlimited succeeds input output complaint status ends told passed =
      let comes : ComesTo (Some order) bundle output complaint status =
      comes_to (Some order) input output complaint bundle ends told
      (subst (λ (s : Status). IsDecision s) (sym passed) limit_is_answered) in
      outcome_unlimited succeeds comes.is (sym comes.has_status ∙ passed)

-- what `deps` reads is told
deps_told : (order : Order) (left : Option (List ℕ)) (bundle : List ℕ) → order.command ≡ Deps → left ≡ Some bundle
    → HasLeft (reads_of order.command) left bundle
deps_told order left bundle is told = subst (λ (c : Command). HasLeft (reads_of c) left bundle) (sym is) told

pub call_unlimited : ((wanted : Option Order) (bundle : List ℕ) → Succeeds wanted bundle)
    → (wanted : Option Order) (input output complaint : Change) (status : Status) → Ends wanted input output complaint status
    → (order : Order) → wanted ≡ Some order → order.command ≡ Deps → (bundle : List ℕ) → input.old ≡ Some bundle
    → GivesTrees order.params bundle → status ≢ LimitPassed
call_unlimited succeeds wanted input output complaint status ends order ordered is bundle left trees =
    ends_unlimited order is bundle trees succeeds input output complaint status
    (subst (λ (w : Option Order). Ends w input output complaint status) ordered ends)
    (deps_told order input.old bundle is left)
