use Rattle.std.proofs.Common.{[], length, take, refl, sym, ap, ◌∙◌, arith}
use Rattle.std.proofs.lemmas.List.FromFn.{length-map-range_with_len}
use Rattle.channel_plan.specs.Tokens.{turns_used}
use Rattle.plan_numbers.proofs.UsedLists.{lists_more, of_one}
use Rattle.plan_numbers.proofs.turns.turns_by_writer.Goals as goal
use Rattle.sanlp.proofs.Lists.{map-range_with_len_replicate}

pub loop-source-init : goal.loop-source-init
loop-source-init c =
    c.in_ok-lists.ensures
    ∙ sym (map-range_with_len_replicate (λ w. turns_used w []) [] 0 (length c.args.turns.now) (λ w. refl))

pub add_turn-requires : goal.add_turn-requires
add_turn-requires c =
    let turns = c.args.turns.now in
    let i = c.loop-source.source-index in
    let many = ap length c.loop-source.invariant
    ∙ length-map-range_with_len (λ w. turns_used w (take i c.args.sources.now)) 0 (length turns) in
    of_one turns _ _ (omega (arith, c.loop-source.lists.ok.0, many)) (c.requires i _ c.loop-source-test.true)

pub loop-source-preserved : goal.loop-source-preserved
loop-source-preserved c =
    let turns = c.args.turns.now in
    let i = c.loop-source.source-index in
    c.in_ok-add_turn.ensures
    ∙ lists_more (length turns) i c.args.sources.now _ _ c.loop-source.lists.items c.loop-source-test.true refl
    (of_one turns (length turns) _ refl (c.requires i _ c.loop-source-test.true)) c.loop-source.invariant
