use Rattle.std.proofs.Common.{◌≡◌, ◌-◌}
use Rattle.cert_lines.specs.Reading.{many}
use Rattle.tree_text.specs.Reading.{proof}
use Rattle.cert_lines.proofs.Many.{items_before}
use Rattle.tree_text.proofs.reading.read_proofs.Given as goal

-- those so far, and those to come, are what all say
abbrev pub invariant-loop : goal.invariant-loop
invariant-loop l = items_before l.proofs (many (proof 512) (l.count - l.counter) l.lines)
    ≡ many (proof 512) l.count l.fn.lines
