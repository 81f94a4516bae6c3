use Rattle.std.proofs.Common.{◌<◌, ◌∙◌, sym, get_or, length, true, false, arith}
use Rattle.std.proofs.lemmas.List.{get_or_read, length-set}
use Rattle.channel_class.proofs.Marks.{marked_more, repeat_found, still_none}
use Rattle.channel_class.proofs.has_marked_repeat.Goals as goal

pub returns-then-index : goal.returns-then-index
returns-then-index c =
    let uses = c.args.uses.now in
    let marks = c.loop-named.marks.items in
    let i = c.loop-named.named-index in
    let within : get_or uses i 0 < length marks =
    omega (arith, c.requires i 0 c.loop-named-test.true, c.loop-named.invariant.many) in
    let mark = get_or_read marks (get_or uses i 0) c.index.result.now within c.index.ensures false in
    sym (repeat_found uses i c.loop-named-test.true
    (sym (c.loop-named.invariant.marked (get_or uses i 0)) ∙ sym mark ∙ c.if-index.true))

pub loop-named-preserved : goal.loop-named-preserved
loop-named-preserved c =
    let uses = c.args.uses.now in
    let marks = c.loop-named.marks.items in
    let i = c.loop-named.named-index in
    let within : get_or uses i 0 < length marks =
    omega (arith, c.requires i 0 c.loop-named-test.true, c.loop-named.invariant.many) in
    let mark = get_or_read marks (get_or uses i 0) c.index.result.now within c.index.ensures false in
    record {
      many = length-set marks (get_or uses i 0) true ∙ c.loop-named.invariant.many;
      none = still_none uses i c.loop-named-test.true c.loop-named.invariant.none
          (sym (c.loop-named.invariant.marked (get_or uses i 0)) ∙ sym mark ∙ c.if-index.false);
      marked = λ t. marked_more uses i t marks c.loop-named-test.true within (c.loop-named.invariant.marked t);
    }
