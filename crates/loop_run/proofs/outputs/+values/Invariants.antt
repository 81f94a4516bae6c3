use Rattle.std.proofs.Common.{◌≡◌, ◌+◌, ◌*◌, ◌-ℤ◌, pos, [], ◌∷◌, ◌++◌, length}
use Rattle.std.specs.List.{flat_map}
use Rattle.sanlp.specs.Cells.{counted, natural}
use Rattle.loop_run.specs.CellMemory.{memory_of}
use Rattle.loop_run.specs.Outputs.{values_inside}
use Rattle.loop_run.proofs.outputs.+values.Given as goal

abbrev pub invariant-push_values-loop-subscript : goal.invariant-push_values-loop-subscript
invariant-push_values-loop-subscript l =
    l.values ++ flat_map (λ v. values_inside (memory_of l.cells) l.array l.inner (l.at ++ v ∷ []))
    (counted l.subscript (natural (l.subscript-end -ℤ l.subscript)))
    ≡ l.initial.values
    ++ flat_map (λ v. values_inside (memory_of l.cells) l.array l.inner (l.at ++ v ∷ []))
    (counted (pos 0) (natural l.subscript-end))

abbrev pub decreases-push_values : goal.decreases-push_values
decreases-push_values l = 2 * length l.extents.now

abbrev pub decreases-push_values_at : goal.decreases-push_values_at
decreases-push_values_at l = 2 * length l.extents.now + 1
