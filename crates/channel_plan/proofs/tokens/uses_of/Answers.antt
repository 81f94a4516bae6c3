use Rattle.std.proofs.Common.{◌<◌, ◌++◌, ◌∷◌, [], map, take, length, get_or, count_by, sym, ap, ◌∙◌, arith}
use Rattle.std.proofs.lemmas.List.{get_or_read, map_more}
use Rattle.std.proofs.lemmas.List.FromFn.{length-map-range_with_len, get_or-map-range_with_len}
use Rattle.channel_plan.proofs.tokens.uses_of.Goals as goal

pub index-requires : goal.index-requires
index-requires c =
    let used = c.deref-turn-items.result.now in
    let marks = c.args.is_token.now in
    let same = c.deref-turn-items.ensures.value in
    let below : get_or c.args.used.items c.loop-turn.turn-index 0 < length marks =
    c.requires.within c.loop-turn.turn-index 0 (omega (arith, ap length same)) in
    omega (
      arith,
      c.in_ok-numbers.numbers.ok.0,
      below,
      ap (λ us. get_or us c.loop-turn.turn-index 0) same,
      ap length c.in_ok-numbers.ensures,
      length-map-range_with_len (λ turn. count_by (λ mark. mark) (take turn marks)) 0 (length marks),
    )

pub loop-turn-preserved : goal.loop-turn-preserved
loop-turn-preserved c =
    let used = c.deref-turn-items.result.now in
    let marks = c.args.is_token.now in
    let index = c.loop-turn.turn-index in
    let same = c.deref-turn-items.ensures.value in
    let below : get_or c.args.used.items index 0 < length marks =
    c.requires.within index 0 (omega (arith, ap length same)) in
    let turn : get_or used index 0 < length marks = omega (arith, ap (λ us. get_or us index 0) same) in
    let many =
    ap length c.in_ok-numbers.ensures
    ∙ length-map-range_with_len (λ turn. count_by (λ mark. mark) (take turn marks)) 0 (length marks) in
    let number =
    get_or_read c.in_ok-numbers.numbers.items (get_or used index 0) c.index.result.now
    (omega (arith, many)) c.index.ensures 0
    ∙ ap (λ ns. get_or ns (get_or used index 0) 0) c.in_ok-numbers.ensures
    ∙ get_or-map-range_with_len (λ turn. count_by (λ mark. mark) (take turn marks)) 0 (length marks)
    (get_or used index 0) (get_or used index 0) 0 turn (omega arith) in
    c.in_ok-push.ensures.items
    ∙ ap (λ us. us ++ c.index.result.now ∷ []) c.loop-turn.invariant
    ∙ ap (λ n. map (λ turn. count_by (λ mark. mark) (take turn marks)) (take index used) ++ n ∷ []) number
    ∙ sym (map_more (λ turn. count_by (λ mark. mark) (take turn marks)) used index 0 c.loop-turn-test.true)
