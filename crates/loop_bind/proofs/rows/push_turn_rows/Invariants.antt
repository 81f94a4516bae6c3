use Rattle.std.proofs.Common.{◌≡◌, ◌++◌, ◌∷◌, map, take}
use Rattle.loop_bind.specs.Forms.{loop_form}
use Rattle.loop_bind.specs.Rows.{turn_row}
use Rattle.loop_bind.proofs.rows.push_turn_rows.Given as goal

abbrev pub invariant-loop-high : goal.invariant-loop-high
invariant-loop-high l =
    l.rows ≡ l.fn.rows ++ loop_form l.number ∷ map (turn_row l.number l.first l.step) (take l.high-index l.upper)
