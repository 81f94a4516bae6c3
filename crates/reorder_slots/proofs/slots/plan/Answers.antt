use Rattle.std.proofs.Common.{◌≡◌, ◌+◌, ◌<◌, ◌++◌, ◌∷◌, [], eqb, length, get_or, take, sym, subst, ap, ◌∙◌, arith}
use Rattle.std.proofs.lemmas.Option.{slice_get-get_or}
use Rattle.std.proofs.lemmas.List.{get_or_read}
use Rattle.reorder_slots.specs.Slots.{Held, gets_before, held_after, slots_of_uses}
use Rattle.reorder_slots.specs.Readers.{Keeps}
use Rattle.reorder_slots.proofs.Uses.{named_before, named_below}
use Rattle.reorder_slots.proofs.Gets.{KeepsTokens-got, held-zero}
use Rattle.reorder_slots.proofs.LastUses.{is_last_use}
use Rattle.reorder_slots.proofs.Plans.{count_kept, gets_before-all, gets_before-more, gets_small, keeps_got}
use Rattle.reorder_slots.proofs.Plans.{slots_of_uses-more}
use Rattle.reorder_slots.proofs.slots.plan.Goals as goal

pub loop-number-init : goal.loop-number-init
loop-number-init c =
    let uses = c.args.uses.now in
    let keeps =
    subst (λ (h : Held). Keeps uses 0 h c.new-reader.result) (sym (held-zero uses)) (c.new-reader.ensures uses) in
    record {
      keeps = keeps;
      hold = omega (arith, keeps.hold, ap (λ (h : Held). length h.slots) (held-zero uses));
      gets = c.new-gets_before.ensures;
      uses = c.new-slot_of_use.ensures;
    }

pub gets-requires : goal.gets-requires
gets-requires c =
    let uses = c.args.uses.now in
    let q = c.loop-number.number in
    let keeps =
    keeps_got uses q c.loop-number.reader c.get_up_to.new.self c.requires.dense
    (omega arith) c.loop-number.invariant.keeps c.in_ok-get_up_to.ensures.kept in
    omega (arith, count_kept uses (q + 1) q c.get_up_to.new.self keeps, gets_small uses (q + 1) c.requires.small)

pub find-requires : goal.find-requires
find-requires c =
    let uses = c.args.uses.now in
    let q = c.loop-number.number in
    let keeps =
    keeps_got uses q c.loop-number.reader c.get_up_to.new.self c.requires.dense
    (omega arith) c.loop-number.invariant.keeps c.in_ok-get_up_to.ensures.kept in
    omega (
      arith,
      count_kept uses (q + 1) q c.get_up_to.new.self keeps,
      named_before uses (q + 1) q (omega arith) (omega arith),
    )

pub loop-number-preserved : goal.loop-number-preserved
loop-number-preserved c =
    let uses = c.args.uses.now in
    let q = c.loop-number.number in
    let token = get_or uses q 0 in
    let lt : q < length uses = omega arith in
    let last = c.in_ok-last_uses.last_uses in
    let got = c.get_up_to.new.self in
    let keeps =
    keeps_got uses q c.loop-number.reader got c.requires.dense lt c.loop-number.invariant.keeps
    c.in_ok-get_up_to.ensures.kept in
    let within : token < length last.items =
    omega (arith, last.ok.0, c.in_ok-last_uses.ensures.tokens, named_below uses q lt) in
    let read : c.index.result.now ≡ get_or last.items token 0 =
    get_or_read last.items token c.index.result.now within c.index.ensures 0 in
    let is_last = ap (λ n. eqb n q) read ∙ is_last_use uses last.items q c.in_ok-last_uses.ensures.last lt in
    record {
      keeps = c.in_ok-find.ensures.kept uses q (held_after uses (q + 1)) keeps (KeepsTokens-got uses q)
          (slice_get-get_or uses q 0 lt) is_last;
      hold = omega (
        arith,
        c.in_ok-find.ensures.hold,
        c.in_ok-get_up_to.ensures.hold,
        got.slot_of_get.ok.0,
        c.find.new.self.slot_of_get.ok.0,
        ap length c.in_ok-find.ensures.gets,
      );
      gets = c.in_ok-push.ensures.ok
          ∙ ap (λ list. list ++ c.gets.result ∷ []) c.loop-number.invariant.gets
          ∙ ap (λ n. take q (gets_before uses) ++ n ∷ []) (c.gets.ensures ∙ count_kept uses (q + 1) q got keeps)
          ∙ sym (gets_before-more uses q lt);
      uses = c.in_ok-push-2.ensures.ok
          ∙ ap (λ list. list ++ c.in_ok-find.field-0 ∷ []) c.loop-number.invariant.uses
          ∙ ap (λ slot. take q (slots_of_uses uses) ++ slot ∷ [])
          (c.in_ok-find.ensures.slot ∙ ap (λ gets. get_or gets token 0) keeps.gets)
          ∙ sym (slots_of_uses-more uses q lt);
    }

pub returns-clause-gets : goal.returns-clause-gets
returns-clause-gets c =
    c.loop-number.invariant.gets ∙ gets_before-all c.args.uses.now c.loop-number.number (omega arith)
