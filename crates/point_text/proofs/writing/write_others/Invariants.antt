use Rattle.std.proofs.Common.{◌∷◌, take}
use Rattle.std.specs.Fmt.{signed_decimal}
use Rattle.std.specs.List.{flat_map}
use Rattle.text_out.specs.Wrote.{Wrote}
use Rattle.point_text.proofs.writing.write_others.Given as goal

-- the values so far were written
abbrev pub invariant-loop-value : goal.invariant-loop-value
invariant-loop-value g l = Wrote g.W.TextWriter.given l.fn.out l.out
    (flat_map (λ value. 44 ∷ signed_decimal value) (take l.value-index l.values))
