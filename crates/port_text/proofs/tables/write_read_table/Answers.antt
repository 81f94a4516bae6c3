use Rattle.std.proofs.Common.{◌≡◌, ◌++◌, ◌∙◌, codes, decimal, length, map, sym, List, slice_get}
use Rattle.std.proofs.lemmas.List.{length-map}
use Rattle.text_out.proofs.Wrote.{Wrote-append}
use Rattle.vhdl_text.proofs.Columns.{constant_pieces}
use Rattle.repeat_sequencer.specs.declared.sequencer.Instruction.{Instruction}
use Rattle.net_core.specs.declared.refs.Ref.{Ref}
use Rattle.vhdl_text.specs.Constants.{slot_text}
use Rattle.port_text.proofs.tables.write_read_table.Goals as goal

pub returns : goal.returns
returns g c =
    let w = g.W.TextWriter.given in
    let read = c.args.read in
    let slot = λ (i : Instruction (List Ref)). slot_text (slice_get i.item read) in
    let instructions = c.args.fires.now.instructions in
    let values = map slot instructions in
    let count : c.len-count.result ≡ length values =
    c.len-count.ensures ∙ sym (length-map instructions slot) in
    let head = rw (c.from.ensures, count) at c.write_head.ensures in
    let entries = rw c.as_slice.ensures at c.write_read_entries.ensures in
    let tail = rw count at c.write_tail.ensures in
    rw (constant_pieces (codes "r" ++ decimal read) (codes "codes") values (codes "-1"))
    (Wrote-append w _ _ head (Wrote-append w _ _ entries tail))
