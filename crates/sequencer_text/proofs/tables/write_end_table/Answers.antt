use Rattle.std.proofs.Common.{◌≡◌, ◌∙◌, codes, length, map, sym}
use Rattle.std.proofs.lemmas.List.{length-map}
use Rattle.text_out.proofs.Wrote.{Wrote-append}
use Rattle.vhdl_text.proofs.Columns.{constant_pieces}
use Rattle.sequencer_text.specs.Tables.{end_name, end_value}
use Rattle.sequencer_text.proofs.tables.write_end_table.Goals as goal

pub returns : goal.returns
returns g c =
    let w = g.W.TextWriter.given in
    let column = c.args.column in
    let place = c.args.place in
    let instructions = c.args.sequencer.now.instructions in
    let values = map (end_value column place) instructions in
    let count : c.len-count.result ≡ length values =
    c.len-count.ensures ∙ sym (length-map instructions (end_value column place)) in
    let head = rw (count, c.end_name.ensures) at c.write_head.ensures in
    let entries = rw c.as_slice.ensures at c.write_end_entries.ensures in
    let tail = rw count at c.write_tail.ensures in
    rw (constant_pieces (end_name column place) (codes "codes") values (codes "1"))
    (Wrote-append w _ _ head (Wrote-append w _ _ entries tail))
