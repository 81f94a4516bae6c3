use Rattle.vhdl_text.specs.Pieces.{event_value}
use Rattle.vhdl_text.proofs.Sequences.{entry_more}
use Rattle.repeat_sequencer.specs.declared.sequencer.Instruction.{Instruction}
use Rattle.net_core.specs.declared.network.Event.{Event}
use Rattle.unit_text.proofs.events.write_event_entries.Goals as goal

pub loop-index-preserved : goal.loop-index-preserved
loop-index-preserved g c =
    entry_more g.W.TextWriter.given (λ (i : Instruction Event). event_value c.args.column 0 i.item)
    c.args.instructions.now c.loop-index.index
    c.index-instructions-index.result _ c.loop-index-test.true c.index-instructions-index.is c.event_word.ensures
    c.loop-index.invariant c.write_entry.ensures
