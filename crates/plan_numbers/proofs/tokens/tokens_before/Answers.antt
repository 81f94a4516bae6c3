use Rattle.std.proofs.Common.{◌≡◌, ◌++◌, ◌∷◌, [], map, length, take, count_by, sym, ap, ap₂, ◌∙◌, ◌+◌, arith}
use Rattle.std.proofs.lemmas.List.Sums.{count_by_more_no, count_by_more_yes}
use Rattle.std.proofs.lemmas.List.FromFn.{map-range_with_len_more}
use Rattle.std.specs.List.{range_with_len}
use Rattle.plan_numbers.proofs.tokens.tokens_before.Goals as goal
use Rattle.plan_numbers.proofs.tokens.tokens_before.Goals.{then-mark, else-mark}

pub loop-mark-preserved : goal.loop-mark-preserved
loop-mark-preserved c =
    let marks = c.args.is_token.now in
    let index = c.loop-mark.mark-index in
    record {
      number = elim c.if-mark.branch [
        | then-mark w ↦
            w.number-is ∙ ap (λ n. n + 1) c.loop-mark.invariant.number
            ∙ sym (count_by_more_yes (λ mark. mark) marks index _ c.loop-mark-test.true w.if-mark.true)
        | else-mark w ↦
            w.number-is ∙ c.loop-mark.invariant.number
            ∙ sym (count_by_more_no (λ mark. mark) marks index _ c.loop-mark-test.true w.if-mark.false)
      ];
      numbers =
          c.in_ok-push.ensures.items
          ∙ ap (λ ns. ns ++ c.loop-mark.number ∷ []) c.loop-mark.invariant.numbers
          ∙ ap (λ n. map (λ turn. count_by (λ mark. mark) (take turn marks)) (range_with_len 0 index)
          ++ n ∷ []) c.loop-mark.invariant.number
          ∙ sym (map-range_with_len_more (λ turn. count_by (λ mark. mark) (take turn marks)) 0 index index
          (omega arith));
    }

pub returns : goal.returns
returns c =
    let marks = c.args.is_token.now in
    let all : c.loop-mark.mark-index ≡ length marks = omega arith in
    c.in_ok-push-2.ensures.items
    ∙ ap₂ (λ ns n. ns ++ n ∷ []) c.loop-mark.invariant.numbers c.loop-mark.invariant.number
    ∙ sym (map-range_with_len_more (λ turn. count_by (λ mark. mark) (take turn marks)) 0 c.loop-mark.mark-index
    c.loop-mark.mark-index (omega arith))
    ∙ ap (λ m. map (λ turn. count_by (λ mark. mark) (take turn marks)) (range_with_len 0 (m + 1))) all
