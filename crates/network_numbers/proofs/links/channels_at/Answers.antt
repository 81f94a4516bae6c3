use Rattle.std.proofs.Common.{◌≡◌, ℕ, Bool, ◌++◌, ◌∷◌, [], sym, ap, ◌∙◌, false, length, refl}
use Rattle.std.specs.Prelude.{slice_get}
use Rattle.std.specs.List.{filter, range_with_len}
use Rattle.std.specs.Option.{option_map_or}
use Rattle.std.proofs.lemmas.Bool.{cond-true, cond-false}
use Rattle.std.proofs.lemmas.List.{append-nil}
use Rattle.std.proofs.lemmas.Option.{slice_get_read}
use Rattle.channel_plan.proofs.Counts.{filter-range_with_len_more}
use Rattle.network_numbers.specs.Links.{has_end_at}
use Rattle.network_numbers.proofs.links.channels_at.Goals as goal
use Rattle.network_numbers.proofs.links.channels_at.Goals.{then-has_end_at+in_ok-push, else-has_end_at}

pub loop-channel-preserved : goal.loop-channel-preserved
loop-channel-preserved c =
    let plans = c.args.plans.now in
    let k = c.loop-channel.channel in
    let test : ℕ → Bool = λ j. option_map_or (has_end_at c.args.process) (slice_get plans j) false in
    let before = filter test (range_with_len 0 k) in
    let here : test k ≡ c.has_end_at.result =
    ap (λ o. option_map_or (has_end_at c.args.process) o false)
    (slice_get_read plans (length plans) k c.index-plans-channel.result refl c.loop-channel-test.true
    c.index-plans-channel.is)
    ∙ sym c.has_end_at.ensures in
    elim c.if-has_end_at.branch [
      | then-has_end_at+in_ok-push w ↦
          w.channels-is
          ∙ w.in_ok-push.ensures.ok
          ∙ ap (λ channels. channels ++ k ∷ []) c.loop-channel.invariant
          ∙ ap (λ more. before ++ more) (sym (cond-true (test k) (k ∷ []) [] (here ∙ w.if-has_end_at.true)))
          ∙ sym (filter-range_with_len_more test k)
      | else-has_end_at w ↦
          w.channels-is
          ∙ c.loop-channel.invariant
          ∙ sym (append-nil before)
          ∙ ap (λ more. before ++ more) (sym (cond-false (test k) (k ∷ []) [] (here ∙ w.if-has_end_at.false)))
          ∙ sym (filter-range_with_len_more test k)
    ]
