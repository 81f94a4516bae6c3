use Rattle.std.proofs.Common.{◌==◌, false, sym, ap, ◌∙◌, get_or, set, true, refl}
use Rattle.std.proofs.lemmas.Bool.{eq-eqb, ne_eqb}
use Rattle.channel_plan.proofs.Marks.{passed_more}
use Rattle.sanlp.proofs.Lists.{map-range_with_len_replicate}
use Rattle.channel_plan.proofs.tokens.tokens_among.Goals as goal

pub loop-turn-init : goal.loop-turn-init
loop-turn-init c =
    c.in_ok-marks.ensures.items_if_clones_equal (λ y h. h)
    ∙ sym (map-range_with_len_replicate (λ k. false) false 0 c.args.turns (λ k. refl))

pub loop-turn-preserved : goal.loop-turn-preserved
loop-turn-preserved c =
    let turn = get_or c.args.used.now c.loop-turn.turn-index 0 in
    ap (λ marks. set marks turn true) c.loop-turn.invariant
    ∙ passed_more
    (λ k other. other == k) c.args.used.now c.loop-turn.turn-index 0 c.loop-turn-test.true turn c.args.turns
    (eq-eqb turn turn refl) (λ k ne. ne_eqb turn k (λ e. ne (sym e)))
