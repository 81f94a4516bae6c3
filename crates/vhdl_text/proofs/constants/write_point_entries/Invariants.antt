use Rattle.std.proofs.Common.{take}
use Rattle.text_out.specs.Wrote.{Wrote}
use Rattle.vhdl_text.specs.Constants.{variable_values}
use Rattle.vhdl_text.specs.Pieces.{entries_from}
use Rattle.vhdl_text.proofs.constants.write_point_entries.Given as goal

-- the entries so far were written
abbrev pub invariant-loop-index : goal.invariant-loop-index
invariant-loop-index g l =
    Wrote g.W.TextWriter.given l.fn.out l.out (entries_from 0 (take l.index (variable_values l.fn.number l.values)))
