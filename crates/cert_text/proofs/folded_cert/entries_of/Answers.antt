use Rattle.std.proofs.Common.{◌∙◌}
use Rattle.script_blocks.proofs.Loops.{had_all, had_more}
use Rattle.cert_text.proofs.folded_cert.entries_of.Goals as goal

pub loop-entry-init : goal.loop-entry-init
loop-entry-init c =
    rw c.new-entries.ensures (c.into_iter-entry-iterator.ensures.into_iter_gives ∙ c.iter-entry-items.ensures.items)

pub loop-entry-preserved : goal.loop-entry-preserved
loop-entry-preserved c =
    rw c.in_ok-push.ensures.ok
    (had_more c.args.schedule.now c.loop-entry.entries c.loop-entry.entry-iterator c.loop-entry.invariant
    c.in-Some.entry c.next.new.self c.in-Some.ensures.steps)

pub returns : goal.returns
returns c =
    had_all c.args.schedule.now c.loop-entry.entries c.loop-entry.entry-iterator c.loop-entry.invariant
    c.in-None.ensures.steps.0
