use Rattle.std.proofs.Common.{◌≡◌, false}
use Rattle.std.specs.Prelude.{slice_index_or}
use Rattle.std.specs.List.{filter, range_with_len}
use Rattle.channel_plan.proofs.writers.places.Given as goal

abbrev pub invariant-loop-place : goal.invariant-loop-place
invariant-loop-place l =
    l.places.items ≡ filter (λ place. slice_index_or l.marks place false) (range_with_len 0 l.place)
