use Rattle.std.proofs.Common.{◌≡◌, ◌-◌, drop, length}
use Rattle.sanlp.specs.Trace.{trace}
use Rattle.loop_walk.specs.Walks.{IsWalkOf, rest}
use Rattle.cell_rows.specs.CellMap.{places_in}
use Rattle.shadow_sweep.specs.LastWrites.{writes_in}
use Rattle.shadow_sweep.specs.Stretches.{AreStretchesOf}
use Rattle.shadow_sweep.proofs.SweepState.{IsSwept}
use Rattle.shadow_sweep.proofs.sources.sweep_counted.Given as goal

abbrev pub invariant-loop-point : goal.invariant-loop-point
invariant-loop-point l = record {
  walk : IsWalkOf l.nest l.walk;
  left : drop (length (trace l.nest) - length (rest l.nest l.walk)) (trace l.nest) ≡ rest l.nest l.walk;
  swept : IsSwept l.nest (length (trace l.nest) - length (rest l.nest l.walk)) l.turns.items
      (writes_in l.cells) l.lists.items;
  stretches : AreStretchesOf (places_in l.cells) l.accesses l.stretches.items;
}

abbrev pub decreases-loop-point : goal.decreases-loop-point
decreases-loop-point l = length (rest l.nest l.walk)
