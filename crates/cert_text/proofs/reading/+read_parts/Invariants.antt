use Rattle.std.proofs.Common.{◌≡◌, ◌+◌, ◌-◌, ◌*◌}
use Rattle.cert_lines.specs.Reading.{many}
use Rattle.cert_text.specs.Kept.{lists_of}
use Rattle.cert_text.specs.Reading.{part}
use Rattle.cert_text.proofs.Lists.{list_before}
use Rattle.cert_text.proofs.reading.+read_parts.Given as goal

-- the list so far, and what the parts to come stand for, are what all parts stand for
abbrev pub invariant-read_parts-loop : goal.invariant-read_parts-loop
invariant-read_parts-loop g l =
    list_before l.list (many (part g.T.FromLine.judged l.version l.levels) (l.count - l.counter) l.lines)
    ≡ lists_of (part g.T.FromLine.judged l.version l.levels) l.count l.fn.lines

abbrev pub decreases-read_parts : goal.decreases-read_parts
decreases-read_parts g l = 2 * l.levels + 1

abbrev pub decreases-read_part : goal.decreases-read_part
decreases-read_part g l = 2 * l.levels
