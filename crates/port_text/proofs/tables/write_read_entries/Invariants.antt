use Rattle.std.proofs.Common.{map, take, slice_get}
use Rattle.text_out.specs.Wrote.{Wrote}
use Rattle.vhdl_text.specs.Pieces.{entries_from}
use Rattle.vhdl_text.specs.Constants.{slot_text}
use Rattle.port_text.proofs.tables.write_read_entries.Given as goal

-- the entries so far were written
abbrev pub invariant-loop-index : goal.invariant-loop-index
invariant-loop-index g l =
    Wrote g.W.TextWriter.given l.fn.out l.out
    (entries_from 0 (take l.index (map (λ i. slot_text (slice_get i.item l.fn.read)) l.instructions)))
