use Rattle.std.proofs.Common.{◌+◌, ◌∙◌, drop, sym, ap}
use Rattle.rtl_text.specs.Names.{goes_on}
use Rattle.rtl_text.proofs.Names.{goes_on_past, name_end, stops}
use Rattle.rtl_text.proofs.network.goes_on.Goals as goal

pub returns-else-may_follow : goal.returns-else-may_follow
returns-else-may_follow c =
    sym (stops c.loop-byte.behind c.args.name.now c.loop-byte.byte-index c.loop-byte-test.true
    (sym c.may_follow.ensures ∙ c.if-may_follow.false))
    ∙ c.loop-byte.invariant

pub loop-byte-preserved : goal.loop-byte-preserved
loop-byte-preserved c =
    let name = c.args.name.now in
    let i = c.loop-byte.byte-index in
    ap (λ behind. goes_on behind (drop (i + 1) name)) c.is_underscore-behind.ensures
    ∙ sym (goes_on_past c.loop-byte.behind name i c.loop-byte-test.true
    (sym c.may_follow.ensures ∙ c.if-may_follow.true))
    ∙ c.loop-byte.invariant

pub returns : goal.returns
returns c =
    sym (name_end c.loop-byte.behind c.args.name.now c.loop-byte.byte-index c.loop-byte-test.false)
    ∙ c.loop-byte.invariant
