use Rattle.std.proofs.Common.{◌≡◌, take}
use Rattle.tree_order.proofs.carry.copy_rows.Given as goal

abbrev pub invariant-loop-terms : goal.invariant-loop-terms
invariant-loop-terms l = l.copies ≡ take l.terms-index l.rows
