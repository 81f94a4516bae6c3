use Rattle.sequencer_text.specs.Tables.{end_value}
use Rattle.vhdl_text.proofs.Sequences.{entry_more}
use Rattle.sequencer_text.proofs.tables.write_end_entries.Goals as goal

pub loop-index-preserved : goal.loop-index-preserved
loop-index-preserved g c =
    entry_more g.W.TextWriter.given (end_value c.args.column c.args.place) c.args.instructions.now c.loop-index.index
    c.index-instructions-index.result _ c.loop-index-test.true c.index-instructions-index.is c.end_number.ensures
    c.loop-index.invariant c.write_entry.ensures
