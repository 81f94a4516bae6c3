use Rattle.std.proofs.Common.{◌≡◌, ◌-◌}
use Rattle.cert_lines.specs.Reading.{many}
use Rattle.cert_text.specs.Reading.{source}
use Rattle.cert_lines.proofs.Many.{items_before}
use Rattle.cert_text.proofs.reading.read_sources.Given as goal

-- the sources so far, and those to come, are what all say
abbrev pub invariant-loop : goal.invariant-loop
invariant-loop l =
    items_before l.sources (many source (l.count - l.counter) l.lines) ≡ many source l.count l.fn.lines
