use Rattle.std.proofs.Common.{take}
use Rattle.std.specs.List.{flat_map}
use Rattle.text_out.specs.Wrote.{Wrote}
use Rattle.port_text.specs.Ports.{put_text}
use Rattle.port_text.proofs.ports.write_puts.Given as goal

-- those so far were written
abbrev pub invariant-loop-control : goal.invariant-loop-control
invariant-loop-control g l =
    Wrote g.W.TextWriter.given l.fn.out l.out
    (flat_map (put_text l.fn.part l.fn.process) (take l.control-index l.controls))
