use Rattle.std.proofs.Common.{ℤ, ap, rules, ◌∙◌}
use Rattle.std.specs.Prelude.{FitsSigned}
use Rattle.std.specs.Int.{w64}
use Rattle.std.proofs.lemmas.Int.{to_z-of_z}
use Rattle.repeat_sequencer.specs.declared.sequencer.Instruction.{Instruction}
use Rattle.vhdl_text.specs.Literals.{literal}
use Rattle.vhdl_text.proofs.Sequences.{entry_more}
use Rattle.unit_text.proofs.node.write_gains.Goals as goal

pub loop-index-preserved : goal.loop-index-preserved
loop-index-preserved g c =
    let gain = c.index-instructions-index.result.item in
    let fits : FitsSigned w64 gain = search rules in
    entry_more g.W.TextWriter.given (λ (i : Instruction ℤ). literal i.item) c.args.instructions.now c.loop-index.index
    c.index-instructions-index.result _ c.loop-index-test.true c.index-instructions-index.is
    (c.literal.ensures ∙ ap literal (to_z-of_z w64 gain fits)) c.loop-index.invariant c.write_entry.ensures
