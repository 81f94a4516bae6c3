use Rattle.std.specs.List.{range_with_len, flat_map}
use Rattle.text_out.specs.Wrote.{Wrote}
use Rattle.vhdl_text.specs.declared.constants.Column.TheVariants.{Read}
use Rattle.vhdl_text.specs.Constants.{event_constant}
use Rattle.vhdl_text.proofs.constants.write_reads.Given as goal

-- the constants so far were written
abbrev pub invariant-loop-read : goal.invariant-loop-read
invariant-loop-read g l = Wrote g.W.TextWriter.given l.fn.out l.out
    (flat_map (λ k. event_constant (Read k) l.fn.auto) (range_with_len 0 l.read))
