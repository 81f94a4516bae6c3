use Rattle.std.proofs.Common.{◌≡◌, ◌+◌, ◌≤◌, length}
use Rattle.cert_text.specs.Stretches.{stretches}
use Rattle.cert_text.proofs.writing.stretch_count.Given as goal

-- those so far, and those of the rest
abbrev pub invariant-loop-entry : goal.invariant-loop-entry
invariant-loop-entry l = record {
  whole : l.count + length (stretches l.rest) ≡ length (stretches l.entries);
  few : l.count + length l.rest ≤ length l.entries;
}

abbrev pub decreases-loop-entry : goal.decreases-loop-entry
decreases-loop-entry l = length l.rest
