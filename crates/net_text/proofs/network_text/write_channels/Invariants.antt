use Rattle.std.proofs.Common.{take}
use Rattle.std.specs.List.{flat_map, enumerate_from}
use Rattle.text_out.specs.Wrote.{Wrote}
use Rattle.net_text.specs.NetworkText.{channel_numbers, channel_text}
use Rattle.net_text.proofs.network_text.write_channels.Given as goal

-- the lines so far were written
abbrev pub invariant-loop-number : goal.invariant-loop-number
invariant-loop-number g l =
    Wrote g.W.TextWriter.given l.fn.out l.out
    (flat_map (λ numbered. channel_text numbered.0 (channel_numbers l.network numbered.0 numbered.1))
    (enumerate_from 0 (take l.number l.network.channels)))
