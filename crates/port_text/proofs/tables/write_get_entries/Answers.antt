use Rattle.port_items.specs.declared.items.GetItem.{GetItem}
use Rattle.port_text.specs.Tables.{get_value}
use Rattle.vhdl_text.proofs.Sequences.{entry_more}
use Rattle.repeat_sequencer.specs.declared.sequencer.Instruction.{Instruction}
use Rattle.port_text.proofs.tables.write_get_entries.Goals as goal

pub loop-index-preserved : goal.loop-index-preserved
loop-index-preserved g c =
    entry_more g.W.TextWriter.given (λ (i : Instruction GetItem). get_value c.args.column i.item)
    c.args.instructions.now c.loop-index.index
    c.index-instructions-index.result _ c.loop-index-test.true c.index-instructions-index.is c.get_number.ensures
    c.loop-index.invariant c.write_entry.ensures
