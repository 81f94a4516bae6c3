use Rattle.std.proofs.Common.{◌≡◌, map, take}
use Rattle.sanlp.specs.Access.{cell_at}
use Rattle.shadow_sweep.specs.LastWrites.{with_sources, writes_in}
use Rattle.shadow_sweep.proofs.along.add_sources_along.Given as goal

abbrev pub invariant-loop-read : goal.invariant-loop-read
invariant-loop-read l =
    l.lists.items
    ≡ with_sources l.initial.lists.items l.first (map (writes_in l.cells) (map (cell_at l.at) (take l.read l.reads)))
