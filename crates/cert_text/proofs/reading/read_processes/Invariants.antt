use Rattle.std.proofs.Common.{◌≡◌, ◌-◌}
use Rattle.cert_lines.specs.Reading.{many}
use Rattle.cert_text.specs.Kept.{process_kept}
use Rattle.cert_lines.proofs.Many.{items_before}
use Rattle.cert_text.proofs.reading.read_processes.Given as goal

-- the processes so far, and those to come, are what all say
abbrev pub invariant-loop : goal.invariant-loop
invariant-loop l =
    items_before l.processes (many (process_kept l.version) (l.count - l.counter) l.lines)
    ≡ many (process_kept l.version) l.count l.fn.lines
