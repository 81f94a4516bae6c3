use Rattle.std.proofs.Common.{◌≡◌, map}
use Rattle.std.specs.List.{range_with_len}
use Rattle.unit_text.specs.Units.{gain, loop_values}
use Rattle.unit_text.proofs.unit.gains_of.Given as goal

abbrev pub invariant-loop-place : goal.invariant-loop-place
invariant-loop-place l = l.gains ≡ map (gain (loop_values l.number l.points)) (range_with_len 0 l.place)
