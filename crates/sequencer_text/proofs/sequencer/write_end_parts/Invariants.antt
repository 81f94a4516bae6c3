use Rattle.std.specs.List.{flat_map, range_with_len}
use Rattle.text_out.specs.Wrote.{Wrote}
use Rattle.sequencer_text.specs.Sequencers.{end_part_text}
use Rattle.sequencer_text.proofs.sequencer.write_end_parts.Given as goal

-- those so far were written
abbrev pub invariant-loop-place : goal.invariant-loop-place
invariant-loop-place g l =
    Wrote g.W.TextWriter.given l.fn.out l.out
    (flat_map (end_part_text l.fn.part l.fn.sequencer) (range_with_len 0 l.place))
