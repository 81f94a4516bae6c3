use Rattle.std.proofs.Common.{◌++◌, ◌∷◌, [], sym, ap, ◌∙◌, false, get_or}
use Rattle.std.specs.List.{filter, range_with_len}
use Rattle.std.proofs.lemmas.Bool.{cond-true, cond-false}
use Rattle.std.proofs.lemmas.List.{append-nil}
use Rattle.channel_plan.proofs.Counts.{filter-range_with_len_more}
use Rattle.channel_plan.proofs.writers.places.Goals as goal
use Rattle.channel_plan.proofs.writers.places.Goals.{then-mark+in_ok-push, else-mark}

pub loop-place-preserved : goal.loop-place-preserved
loop-place-preserved c =
    let marks = c.args.marks.now in
    let place = c.loop-place.place in
    let before = filter (λ place. get_or marks place false) (range_with_len 0 place) in
    elim c.if-mark.branch [
      | then-mark+in_ok-push w ↦
          ap (λ v. v.items) w.places-is
          ∙ w.in_ok-push.ensures.items
          ∙ ap (λ places. places ++ place ∷ []) c.loop-place.invariant
          ∙ ap (λ more. before ++ more) (sym (cond-true (get_or marks place false) (place ∷ []) [] w.if-mark.true))
          ∙ sym (filter-range_with_len_more (λ place. get_or marks place false) place)
      | else-mark w ↦
          ap (λ v. v.items) w.places-is
          ∙ c.loop-place.invariant
          ∙ sym (append-nil before)
          ∙ ap (λ more. before ++ more) (sym (cond-false (get_or marks place false) (place ∷ []) [] w.if-mark.false))
          ∙ sym (filter-range_with_len_more (λ place. get_or marks place false) place)
    ]
