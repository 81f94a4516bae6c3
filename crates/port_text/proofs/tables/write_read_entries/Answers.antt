use Rattle.std.proofs.Common.{List, slice_get}
use Rattle.net_core.specs.declared.refs.Ref.{Ref}
use Rattle.vhdl_text.specs.Constants.{slot_text}
use Rattle.vhdl_text.proofs.Sequences.{entry_more}
use Rattle.repeat_sequencer.specs.declared.sequencer.Instruction.{Instruction}
use Rattle.port_text.proofs.tables.write_read_entries.Goals as goal

pub loop-index-preserved : goal.loop-index-preserved
loop-index-preserved g c =
    entry_more g.W.TextWriter.given (λ (i : Instruction (List Ref)). slot_text (slice_get i.item c.args.read))
    c.args.instructions.now c.loop-index.index
    c.index-instructions-index.result _ c.loop-index-test.true c.index-instructions-index.is c.slot_word.ensures
    c.loop-index.invariant c.write_entry.ensures
