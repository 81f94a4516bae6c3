use Rattle.std.proofs.Common.{map, take}
use Rattle.text_out.specs.Wrote.{Wrote}
use Rattle.vhdl_text.specs.Pieces.{entries_from}
use Rattle.port_text.specs.Tables.{get_value}
use Rattle.port_text.proofs.tables.write_get_entries.Given as goal

-- the entries so far were written
abbrev pub invariant-loop-index : goal.invariant-loop-index
invariant-loop-index g l =
    Wrote g.W.TextWriter.given l.fn.out l.out
    (entries_from 0 (take l.index (map (λ i. get_value l.fn.column i.item) l.instructions)))
