-- How many slots are held after all uses.
--
-- Before each use there are as many Gets, free slots and slots as in what is held (FreeSlots): the Gets of a use are counted,
-- and after it one slot more is free where this was its token's last use, which the table of last uses tells, turn by turn.
-- There are never more slots than Gets. Which slot has which token is kept nowhere.
use Rattle.std.proofs.Common.{◌≡◌, ◌+◌, ◌<◌, eqb, not, length, get_or, sym, ap, ◌∙◌, arith}
use Rattle.std.proofs.lemmas.List.{get_or-map, get_or_read, length-map}
use Rattle.channel_plan.specs.Tokens.{tokens_below, uses_of}
use Rattle.channel_plan.proofs.Uses.{below_turn, names_all_below, few_uses}
use Rattle.reorder_slots.specs.Slots.{Held, held_after, is_wanted}
use Rattle.reorder_slots.proofs.Gets.{held-zero}
use Rattle.reorder_slots.proofs.LastUses.{is_last_use}
use Rattle.reorder_slots.proofs.Plans.{gets_small}
use Rattle.reorder_slots.proofs.Uses.{gets_for-more}
use Rattle.plan_numbers.specs.declared.slots.SlotCounts.{SlotCounts}
use Rattle.plan_numbers.proofs.FreeSlots.{few_free, free_in, last_counted, use_counted, use_got}
use Rattle.plan_numbers.proofs.Uses.{is_wanted_alike, number_read}
use Rattle.plan_numbers.proofs.slots.slots_of_uses.Goals as goal

pub loop-number-init : goal.loop-number-init
loop-number-init c =
    let uses = uses_of c.args.used.now in
    record {
      gets = omega arith;
      free = omega (arith, ap (λ (h : Held). free_in uses 0 h.slots) (held-zero uses));
      hold = omega (arith, ap (λ (h : Held). length h.slots) (held-zero uses));
      few = omega arith;
    }

pub bounds-tokens_before-turn : goal.bounds-tokens_before-turn
bounds-tokens_before-turn c = c.requires.within c.loop-number.number 0 c.loop-number-test.true

pub get_up_to-requires-clause-small : goal.get_up_to-requires-clause-small
get_up_to-requires-clause-small c =
    let used = c.args.used.now in
    let q = c.loop-number.number in
    let numbers = c.args.tokens_before.now in
    let below = c.requires.within q 0 c.loop-number-test.true in
    omega (
      arith,
      number_read used numbers (get_or used q 0) c.requires.numbered below,
      below_turn used (get_or used q 0),
      below,
      c.requires.few,
    )

pub note_use-requires : goal.note_use-requires
note_use-requires c =
    let used = c.args.used.now in
    let uses = uses_of used in
    let q = c.loop-number.number in
    omega (
      arith,
      ap (λ (s : SlotCounts). s.free) c.get_up_to.ensures,
      c.loop-number.invariant.free,
      c.loop-number.invariant.hold,
      c.loop-number.invariant.few,
      c.loop-number.invariant.gets,
      few_free uses q (held_after uses q).slots,
      gets_small uses q (few_uses (length c.args.tokens_before.now) used c.requires.few c.requires.within),
    )

pub loop-number-preserved : goal.loop-number-preserved
loop-number-preserved c =
    let used = c.args.used.now in
    let uses = uses_of used in
    let q = c.loop-number.number in
    let lt : q < length used = c.loop-number-test.true in
    let within : q < length uses = omega (arith, length-map used (tokens_below used)) in
    let numbers = c.args.tokens_before.now in
    let turn = get_or used q 0 in
    let below : turn < length numbers = c.requires.within q 0 lt in
    let inv = c.loop-number.invariant in
    let token : get_or numbers turn 0 ≡ get_or uses q 0 =
    number_read used numbers turn c.requires.numbered below ∙ sym (get_or-map (tokens_below used) used q 0 0 lt) in
    let got = use_got uses q (names_all_below used) within in
    let table = c.in_ok-last_uses.last_uses.items in
    let read : c.index.result.now ≡ get_or table turn 0 =
    get_or_read table turn c.index.result.now
    (omega (arith, c.in_ok-last_uses.last_uses.ok.0, c.in_ok-last_uses.ensures.turns)) c.index.ensures 0 in
    let is_last : eqb c.index.result.now q ≡ not (is_wanted uses (q + 1) (get_or uses q 0)) =
    ap (λ k. eqb k q) read ∙ is_last_use used table q c.in_ok-last_uses.ensures.last lt
    ∙ ap not (sym (is_wanted_alike used q (q + 1) lt)) in
    let freed = last_counted (eqb c.index.result.now q) (is_wanted uses (q + 1) (get_or uses q 0)) is_last in
    let gets_now = ap (λ (s : SlotCounts). s.gets) c.get_up_to.ensures in
    let free_now = ap (λ (s : SlotCounts). s.free) c.get_up_to.ensures in
    let hold_now = ap (λ (s : SlotCounts). s.hold) c.get_up_to.ensures in
    record {
      gets = omega (
        arith,
        ap (λ (s : SlotCounts). s.gets) c.note_use.ensures,
        gets_now,
        token,
        inv.gets,
        gets_for-more uses q within,
      );
      free = omega (
        arith,
        ap (λ (s : SlotCounts). s.free) c.note_use.ensures,
        free_now,
        token,
        inv.gets,
        inv.free,
        got.free,
        freed,
        use_counted uses q within,
      );
      hold = omega (
        arith,
        ap (λ (s : SlotCounts). s.hold) c.note_use.ensures,
        hold_now,
        token,
        inv.gets,
        inv.free,
        inv.hold,
        got.hold,
      );
      few = omega (
        arith,
        ap (λ (s : SlotCounts). s.hold) c.note_use.ensures,
        ap (λ (s : SlotCounts). s.gets) c.note_use.ensures,
        gets_now,
        hold_now,
        inv.few,
      );
    }

pub overflow_cast-result : goal.overflow_cast-result
overflow_cast-result c =
    let used = c.args.used.now in
    omega (
      arith,
      c.loop-number.invariant.few,
      c.loop-number.invariant.gets,
      gets_small (uses_of used) c.loop-number.number
          (few_uses (length c.args.tokens_before.now) used c.requires.few c.requires.within),
    )

pub returns : goal.returns
returns c =
    let used = c.args.used.now in
    let uses = uses_of used in
    let all : c.loop-number.number ≡ length uses = omega (arith, length-map used (tokens_below used)) in
    c.loop-number.invariant.hold ∙ ap (λ k. length (held_after uses k).slots) all
