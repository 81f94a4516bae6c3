use Rattle.std.proofs.Common.{◌≡◌, ◌*◌, ◌≤◌, length, take}
use Rattle.std.specs.List.{sum_by}
use Rattle.sanlp.proofs.reads.reads_before.Given as goal

-- the reads of the statements so far were counted, at most 8 for each
abbrev pub invariant-loop-number : goal.invariant-loop-number
invariant-loop-number l =
    (l.total ≡ sum_by (λ s. length s.reads) (take l.number l.nest.statements)) × (l.total ≤ 8 * l.number)
