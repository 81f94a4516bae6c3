use Rattle.std.proofs.Common.{◌≡◌, ◌++◌, map, take}
use Rattle.loop_bind.specs.Forms.{loop_form, difference_form}
use Rattle.loop_bind.proofs.rows.push_range_rows.Given as goal

abbrev pub invariant-loop-low : goal.invariant-loop-low
invariant-loop-low l =
    l.rows ≡ l.initial.rows ++ map (λ f. difference_form (loop_form l.number) f) (take l.low-index l.lower)

abbrev pub invariant-loop-high : goal.invariant-loop-high
invariant-loop-high l =
    l.rows ≡ l.initial.rows ++ map (λ f. difference_form f (loop_form l.number)) (take l.high-index l.upper)
