use Rattle.std.proofs.Common.{◌≡◌, ◌++◌, ◌∙◌, codes, decimal, length, map, sym}
use Rattle.std.proofs.lemmas.List.{length-map}
use Rattle.text_out.proofs.Wrote.{Wrote-append}
use Rattle.vhdl_text.proofs.Columns.{constant_pieces}
use Rattle.repeat_sequencer.specs.declared.sequencer.Instruction.{Instruction}
use Rattle.port_items.specs.declared.items.PutItem.{PutItem}
use Rattle.port_text.specs.Tables.{put_value}
use Rattle.port_text.proofs.tables.write_put_table.Goals as goal

pub returns : goal.returns
returns g c =
    let w = g.W.TextWriter.given in
    let number = c.args.control.now.channel in
    let instructions = c.args.control.now.items.instructions in
    let values = map (λ (i : Instruction PutItem). put_value i.item) instructions in
    let count : c.len-count.result ≡ length values =
    c.len-count.ensures ∙ sym (length-map instructions (λ (i : Instruction PutItem). put_value i.item)) in
    let head = rw (c.from.ensures, count) at c.write_head.ensures in
    let entries = rw c.as_slice.ensures at c.write_put_entries.ensures in
    let tail = rw count at c.write_tail.ensures in
    rw (constant_pieces (codes "op_put" ++ decimal number) (codes "codes") values (codes "4"))
    (Wrote-append w _ _ head (Wrote-append w _ _ entries tail))
