-- The marks and the class of the turns that are used.
--
-- The marks are those of the turns so far. Each turn is compared with the last one before it, and it is a repeat where its mark
-- was set before; so order and repeats are told of the turns so far (Marks). At the end these are all.
use Rattle.std.proofs.Common.{◌≡◌, ◌<◌, ◌==◌, ◌&&◌, ◌||◌, false, true, leb, length, take, get_or, set, refl, sym, ap, ap₂, ◌∙◌}
use Rattle.std.proofs.Common.{arith}
use Rattle.std.proofs.lemmas.Bool.{eq-eqb, ne_eqb}
use Rattle.std.proofs.lemmas.List.{get_or_read, take_all}
use Rattle.std.proofs.lemmas.List.FromFn.{get_or-map-range_with_len, length-map-range_with_len}
use Rattle.std.proofs.lemmas.List.Sums.{fold_more}
use Rattle.channel_class.specs.Classes.{has_repeat, never_falls}
use Rattle.channel_plan.specs.Tokens.{is_used, tokens_among}
use Rattle.channel_plan.proofs.Marks.{passed_more}
use Rattle.plan_numbers.proofs.Marks.{class_from, falls_more, repeat_more}
use Rattle.plan_numbers.proofs.tokens.marked_turns.Goals as goal
use Rattle.sanlp.proofs.Lists.{map-range_with_len_replicate}

pub loop-turn-init : goal.loop-turn-init
loop-turn-init c = record {
  marks = c.in_ok-is_token.ensures.items_if_clones_equal (λ y h. h)
      ∙ sym (map-range_with_len_replicate (λ k. false) false 0 c.args.turns (λ k. refl));
  falls = refl;
  last = refl;
  repeats = refl;
}

pub index-requires : goal.index-requires
index-requires c =
    omega (
      arith,
      c.loop-turn.is_token.ok.0,
      ap length c.loop-turn.invariant.marks,
      length-map-range_with_len (is_used (take c.loop-turn.turn-index c.args.used.now)) 0 c.args.turns,
      c.requires c.loop-turn.turn-index 0 c.loop-turn-test.true,
    )

pub index_mut-requires : goal.index_mut-requires
index_mut-requires c =
    omega (
      arith,
      c.loop-turn.is_token.ok.0,
      ap length c.loop-turn.invariant.marks,
      length-map-range_with_len (is_used (take c.loop-turn.turn-index c.args.used.now)) 0 c.args.turns,
      c.requires c.loop-turn.turn-index 0 c.loop-turn-test.true,
    )

pub loop-turn-preserved : goal.loop-turn-preserved
loop-turn-preserved c =
    let used = c.args.used.now in
    let i = c.loop-turn.turn-index in
    let lt = c.loop-turn-test.true in
    let turn = get_or used i 0 in
    let marks = c.loop-turn.is_token.items in
    let inv = c.loop-turn.invariant in
    let below : turn < c.args.turns = c.requires i 0 lt in
    let many = ap length inv.marks ∙ length-map-range_with_len (is_used (take i used)) 0 c.args.turns in
    let mark : c.index.result.now ≡ is_used (take i used) turn =
    get_or_read marks turn c.index.result.now (omega (arith, many)) c.index.ensures false
    ∙ ap (λ ms. get_or ms turn false) inv.marks
    ∙ get_or-map-range_with_len (is_used (take i used)) 0 c.args.turns turn turn false below (omega arith) in
    record {
      marks = ap (λ marks. set marks turn true) inv.marks
          ∙ passed_more (λ k other. other == k) used i 0 lt turn c.args.turns (eq-eqb turn turn refl)
          (λ k ne. ne_eqb turn k (λ e. ne (sym e)));
      falls = ap₂ (λ a b. a && leb b turn) inv.falls inv.last ∙ sym (falls_more used i lt);
      last = sym (fold_more (λ before next. next) 0 used i 0 lt);
      repeats = ap₂ (λ a b. a || b) inv.repeats mark ∙ sym (repeat_more used i lt);
    }

pub returns-clause-tokens : goal.returns-clause-tokens
returns-clause-tokens c =
    let all = take_all c.loop-turn.turn-index c.args.used.now (omega arith) in
    c.loop-turn.invariant.marks ∙ ap (tokens_among c.args.turns) all

pub returns-clause-class : goal.returns-clause-class
returns-clause-class c =
    let all = take_all c.loop-turn.turn-index c.args.used.now (omega arith) in
    class_from c.args.used.now _ _ _ c.order_of-order.ensures (c.loop-turn.invariant.falls ∙ ap never_falls all)
    (c.loop-turn.invariant.repeats ∙ ap has_repeat all)
