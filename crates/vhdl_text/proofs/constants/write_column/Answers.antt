use Rattle.std.proofs.Common.{codes}
use Rattle.text_out.proofs.Wrote.{Wrote-append}
use Rattle.vhdl_text.specs.Constants.{column_values, last_of, name_of}
use Rattle.vhdl_text.proofs.Columns.{column_entries, constant_pieces}
use Rattle.vhdl_text.proofs.constants.write_column.Goals as goal

pub returns : goal.returns
returns g c =
    let w = g.W.TextWriter.given in
    let column = c.args.column in
    let events = c.args.auto.now.events in
    let count = rw c.value_count-count.ensures at c.write_column_head.ensures in
    let entries = rw (column_entries column events) at c.write_event_entries.ensures in
    let tail = rw (c.value_count-count.ensures, c.last_of.ensures) at c.write_tail.ensures in
    rw (constant_pieces (name_of column) (codes "codes") (column_values column events) (last_of column))
    (Wrote-append w _ _ count (Wrote-append w _ _ entries tail))
