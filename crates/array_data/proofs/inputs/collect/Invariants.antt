use Rattle.std.proofs.Common.{◌≡◌, ◌+◌, drop, length}
use Rattle.array_data.specs.Judging.{collected}
use Rattle.array_data.proofs.Fields.{behind}
use Rattle.array_data.proofs.inputs.collect.Given as goal

-- the lists so far, and those of the arrays that are left
abbrev pub invariant-loop-values : goal.invariant-loop-values
invariant-loop-values l =
    (behind l.lists (collected (length l.lists) (drop (length l.lists) l.arrays) l.values-iterator.rest.items)
    ≡ collected 0 l.arrays l.fn.given)
    × (length l.lists + length l.values-iterator.rest.items ≡ length l.arrays)
