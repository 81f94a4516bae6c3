use Rattle.std.proofs.Common.{◌≡◌, ◌∙◌, false, sym, ap, arith, below_more}
use Rattle.vhdl_text.specs.Refusal.{are_too_many}
use Rattle.vhdl_text.proofs.LongScripts.{first_found, is_long, none_found}
use Rattle.vhdl_text.proofs.text.too_long_script.Goals as goal

pub returns-then-are_too_many : goal.returns-then-are_too_many
returns-then-are_too_many c = λ nest many.
    first_found nest c.args.network.now c.loop-process.process c.event_count-events.result many (omega arith)
    c.loop-process.invariant c.event_count-events.ensures (sym c.are_too_many.ensures ∙ c.if-are_too_many.true)

pub loop-process-preserved : goal.loop-process-preserved
loop-process-preserved c =
    let short : is_long c.args.network.now c.loop-process.process ≡ false =
    ap are_too_many (sym c.event_count-events.ensures) ∙ sym c.are_too_many.ensures ∙ c.if-are_too_many.false in
    below_more _ _ c.loop-process.invariant short

pub returns : goal.returns
returns c = λ nest many.
    none_found nest c.args.network.now many (λ q lt. c.loop-process.invariant q (omega arith))
