use Rattle.std.proofs.Common.{map, take}
use Rattle.text_out.specs.Wrote.{Wrote}
use Rattle.vhdl_text.specs.Pieces.{entries_from}
use Rattle.vhdl_text.specs.Literals.{literal}
use Rattle.unit_text.proofs.node.write_gains.Given as goal

-- the entries so far were written
abbrev pub invariant-loop-index : goal.invariant-loop-index
invariant-loop-index g l =
    Wrote g.W.TextWriter.given l.fn.out l.out (entries_from 0 (take l.index (map (λ i. literal i.item) l.instructions)))
