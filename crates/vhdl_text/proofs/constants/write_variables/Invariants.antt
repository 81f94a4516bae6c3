use Rattle.std.specs.List.{range_with_len, flat_map}
use Rattle.text_out.specs.Wrote.{Wrote}
use Rattle.vhdl_text.specs.Constants.{variable_constant}
use Rattle.vhdl_text.proofs.constants.write_variables.Given as goal

-- the constants so far were written
abbrev pub invariant-loop-number : goal.invariant-loop-number
invariant-loop-number g l = Wrote g.W.TextWriter.given l.fn.out l.out
    (flat_map (λ n. variable_constant n l.fn.auto) (range_with_len 0 l.number))
