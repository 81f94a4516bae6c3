use Rattle.std.proofs.Common.{sym, ◌∙◌, arith, below_more}
use Rattle.net_checker.proofs.FireVerdicts.{reference_judged, reference_found, references_fine}
use Rattle.net_checker.specs.SlotRows.{slots_in}
use Rattle.net_checker.proofs.entries.judge_fire.Goals as goal

pub returns-in-Some : goal.returns-in-Some
returns-in-Some c =
    reference_found c.args.points.now.of c.args.table.now.of c.args.first_read c.args.turn
    (slots_in c.args.slots.now) c.args.entry c.args.refs.now c.loop-read.read c.at.result c.in-Some.refusal c.at.ensures.item
    c.loop-read.invariant
    (sym c.judge_reference.ensures ∙ c.in-Some.is)

pub loop-read-preserved : goal.loop-read-preserved
loop-read-preserved c =
    below_more _ _ c.loop-read.invariant (sym (reference_judged c.args.points.now.of c.args.table.now.of
    c.args.first_read c.args.turn (slots_in c.args.slots.now) c.args.entry c.args.refs.now c.loop-read.read
    c.at.result c.at.ensures.item)
    ∙ sym c.judge_reference.ensures ∙ c.in_default.is)

pub returns : goal.returns
returns c =
    references_fine c.args.points.now.of c.args.table.now.of c.args.first_read c.args.turn
    (slots_in c.args.slots.now) c.args.entry c.args.refs.now (λ k lt. c.loop-read.invariant k (omega arith))
