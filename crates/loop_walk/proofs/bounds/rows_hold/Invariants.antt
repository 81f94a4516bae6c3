use Rattle.std.proofs.Common.{◌≡◌, take, true}
use Rattle.sanlp.specs.Loops.{all_hold}
use Rattle.loop_walk.proofs.bounds.rows_hold.Given as goal

abbrev pub invariant-loop-row : goal.invariant-loop-row
invariant-loop-row l = all_hold (take l.row-index l.rows) l.at ≡ true
