use Rattle.std.proofs.Common.{◌≡◌, ◌-◌}
use Rattle.cert_lines.specs.Reading.{line, many}
use Rattle.tree_text.specs.Lines.{map_line}
use Rattle.cert_lines.proofs.Many.{items_before}
use Rattle.tree_text.proofs.reading.read_place.Given as goal

-- those so far, and those to come, are what all say
abbrev pub invariant-loop : goal.invariant-loop
invariant-loop l = items_before l.place (many (line map_line) (l.count - l.counter) l.lines)
    ≡ many (line map_line) l.count l.fn.lines
