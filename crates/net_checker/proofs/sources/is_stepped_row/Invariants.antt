use Rattle.std.proofs.Common.{◌≡◌, ◌+◌, ◌*◌}
use Rattle.net_checker.proofs.TagRows.{IsSteppedTo}
use Rattle.net_checker.proofs.sources.is_stepped_row.Given as goal

-- the place after so many steps, and that the vectors up to it are those of the row
abbrev pub invariant-loop : goal.invariant-loop
invariant-loop l = record {
  here : l.place ≡ l.first + l.counter * l.step;
  passed : IsSteppedTo l.vectors l.first l.step l.from l.second l.counter;
}
