use Rattle.std.proofs.Common.{◌≡◌, ◌++◌, drop}
use Rattle.loop_bind.specs.Terminals.{extent_rows}
use Rattle.loop_bind.proofs.terminals.rows_round.Given as goal

abbrev pub invariant-loop-number : goal.invariant-loop-number
invariant-loop-number l = l.rows ++ extent_rows l.number (drop l.number l.extents) ≡ extent_rows 0 l.extents
