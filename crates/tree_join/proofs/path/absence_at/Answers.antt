use Rattle.std.proofs.Common.{length, ap, arith}
use Rattle.tree_join.proofs.path.absence_at.Goals as goal

pub bounds-proofs-0 : goal.bounds-proofs-0
bounds-proofs-0 c = let h = c.requires in omega (arith, ap length h.1)
