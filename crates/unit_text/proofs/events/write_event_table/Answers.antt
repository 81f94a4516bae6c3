use Rattle.std.proofs.Common.{◌≡◌, ◌∙◌, codes, length, map, sym}
use Rattle.std.proofs.lemmas.List.{length-map}
use Rattle.text_out.proofs.Wrote.{Wrote-append}
use Rattle.vhdl_text.proofs.Columns.{constant_pieces}
use Rattle.vhdl_text.specs.Constants.{name_of}
use Rattle.vhdl_text.specs.Pieces.{event_value}
use Rattle.unit_text.specs.Events.{last_value}
use Rattle.repeat_sequencer.specs.declared.sequencer.Instruction.{Instruction}
use Rattle.net_core.specs.declared.network.Event.{Event}
use Rattle.unit_text.proofs.events.write_event_table.Goals as goal

pub returns : goal.returns
returns g c =
    let w = g.W.TextWriter.given in
    let column = c.args.column in
    let instructions = c.args.sequencer.now.instructions in
    let values = map (λ (i : Instruction Event). event_value column 0 i.item) instructions in
    let count : c.len-count.result ≡ length values =
    c.len-count.ensures ∙ sym (length-map instructions (λ (i : Instruction Event). event_value column 0 i.item)) in
    let head = rw count at c.write_column_head.ensures in
    let entries = rw c.as_slice.ensures at c.write_event_entries.ensures in
    let tail = rw (count, c.last_word.ensures) at c.write_tail.ensures in
    rw (constant_pieces (name_of column) (codes "codes") values (last_value column))
    (Wrote-append w _ _ head (Wrote-append w _ _ entries tail))
