use Rattle.std.proofs.Common.{◌++◌, decimal, take}
use Rattle.std.specs.List.{flat_map}
use Rattle.text_out.specs.Wrote.{Wrote}
use Rattle.vhdl_text.proofs.words.write_each_behind.Given as goal

-- those so far were written
abbrev pub invariant-loop-piece : goal.invariant-loop-piece
invariant-loop-piece g l =
    Wrote g.W.TextWriter.given l.fn.out l.out
    (flat_map (λ piece. decimal l.fn.number ++ piece.now) (take l.piece-index l.pieces))
