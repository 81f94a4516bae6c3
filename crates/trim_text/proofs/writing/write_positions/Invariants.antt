use Rattle.std.proofs.Common.{◌++◌, codes, decimal, take}
use Rattle.std.specs.List.{flat_map}
use Rattle.text_out.specs.Wrote.{Wrote}
use Rattle.trim_text.proofs.writing.write_positions.Given as goal

-- the positions so far were written
abbrev pub invariant-loop-position : goal.invariant-loop-position
invariant-loop-position g l =
    Wrote g.W.TextWriter.given l.fn.out l.out
    (flat_map (λ position. codes " " ++ decimal position) (take l.position-index l.positions))
