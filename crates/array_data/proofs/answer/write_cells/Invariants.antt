use Rattle.std.proofs.Common.{take}
use Rattle.std.specs.List.{flat_map}
use Rattle.text_out.specs.Wrote.{Wrote}
use Rattle.array_data.specs.Answer.{cell_text}
use Rattle.array_data.proofs.answer.write_cells.Given as goal

-- the cells so far were written
abbrev pub invariant-loop-cell : goal.invariant-loop-cell
invariant-loop-cell g l = Wrote g.W.TextWriter.given l.fn.out l.out (flat_map cell_text (take l.cell-index l.cells))
