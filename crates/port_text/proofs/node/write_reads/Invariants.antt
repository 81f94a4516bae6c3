use Rattle.std.specs.List.{flat_map, range_with_len}
use Rattle.text_out.specs.Wrote.{Wrote}
use Rattle.port_text.specs.Nodes.{read_text}
use Rattle.port_text.proofs.node.write_reads.Given as goal

-- those so far were written
abbrev pub invariant-loop-read : goal.invariant-loop-read
invariant-loop-read g l =
    Wrote g.W.TextWriter.given l.fn.out l.out (flat_map (read_text l.fn.part l.fn.unit) (range_with_len 0 l.read))
