use Rattle.std.proofs.Common.{◌≡◌, ◌++◌}
use Rattle.tree_order.specs.Positions.{own_sums}
use Rattle.tree_order.proofs.carry.push_own_rows.Given as goal

abbrev pub invariant-loop-i : goal.invariant-loop-i
invariant-loop-i l = l.rows ≡ l.initial.rows ++ own_sums l.first l.i
