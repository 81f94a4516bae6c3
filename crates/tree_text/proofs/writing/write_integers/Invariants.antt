use Rattle.std.proofs.Common.{◌++◌, codes, take}
use Rattle.std.specs.Fmt.{signed_decimal}
use Rattle.std.specs.List.{flat_map}
use Rattle.text_out.specs.Wrote.{Wrote}
use Rattle.tree_text.proofs.writing.write_integers.Given as goal

-- those so far were written
abbrev pub invariant-loop-number : goal.invariant-loop-number
invariant-loop-number g l = Wrote g.W.TextWriter.given l.fn.out l.out
    (flat_map (λ number. codes " " ++ signed_decimal number) (take l.number-index l.numbers))
