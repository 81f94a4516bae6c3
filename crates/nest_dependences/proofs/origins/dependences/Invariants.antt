use Rattle.std.proofs.Common.{◌≡◌, map}
use Rattle.std.specs.Prelude.{All}
use Rattle.std.specs.List.{flat_map, range_with_len}
use Rattle.deps_text.specs.Dependences.{HasOrigin, read_of, reads_at}
use Rattle.nest_dependences.proofs.origins.dependences.Given as goal

-- the dependences of the reads of the statements so far are there
abbrev pub invariant-loop-statement : goal.invariant-loop-statement
invariant-loop-statement l =
    (map read_of l.list ≡ flat_map (reads_at l.nest) (range_with_len 0 l.statement)) × All (HasOrigin l.nest) l.list
