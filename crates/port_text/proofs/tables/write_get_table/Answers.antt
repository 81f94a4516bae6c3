use Rattle.std.proofs.Common.{◌≡◌, ◌++◌, ◌∙◌, codes, decimal, length, map, sym}
use Rattle.std.proofs.lemmas.List.{length-map}
use Rattle.text_out.proofs.Wrote.{Wrote-append}
use Rattle.vhdl_text.proofs.Columns.{constant_pieces}
use Rattle.repeat_sequencer.specs.declared.sequencer.Instruction.{Instruction}
use Rattle.port_items.specs.declared.items.GetItem.{GetItem}
use Rattle.port_text.specs.Tables.{get_last, get_name, get_value}
use Rattle.port_text.proofs.tables.write_get_table.Goals as goal

pub returns : goal.returns
returns g c =
    let w = g.W.TextWriter.given in
    let column = c.args.column in
    let number = c.args.control.now.channel in
    let instructions = c.args.control.now.items.instructions in
    let values = map (λ (i : Instruction GetItem). get_value column i.item) instructions in
    let count : c.len-count.result ≡ length values =
    c.len-count.ensures ∙ sym (length-map instructions (λ (i : Instruction GetItem). get_value column i.item)) in
    let head = rw (c.get_name.ensures, c.from.ensures, count) at c.write_head.ensures in
    let entries = rw c.as_slice.ensures at c.write_get_entries.ensures in
    let tail = rw (count, c.get_last_word.ensures) at c.write_tail.ensures in
    rw (constant_pieces (get_name column ++ decimal number) (codes "codes") values (get_last column))
    (Wrote-append w _ _ head (Wrote-append w _ _ entries tail))
