use Rattle.std.proofs.Common.{◌≡◌, ◌-◌}
use Rattle.cert_lines.specs.Reading.{line, many}
use Rattle.cert_lines.proofs.Many.{items_before}
use Rattle.cert_text.proofs.lines.read_lines.Given as goal

-- the items so far, and those of the lines to come, are what all lines say
abbrev pub invariant-loop : goal.invariant-loop
invariant-loop g l =
    items_before l.items (many (line g.T.FromLine.judged) (l.count - l.counter) l.lines)
    ≡ many (line g.T.FromLine.judged) l.count l.fn.lines
