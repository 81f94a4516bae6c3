use Rattle.std.proofs.Common.{◌≡◌, ◌++◌, map}
use Rattle.std.specs.Prelude.{All}
use Rattle.std.specs.List.{range_with_len}
use Rattle.deps_text.specs.Dependences.{HasOrigin, read_of}
use Rattle.nest_dependences.proofs.origins.push_reads.Given as goal

-- the dependences of the reads so far were added
abbrev pub invariant-loop-number : goal.invariant-loop-number
invariant-loop-number l =
    (map read_of l.list ≡ map read_of l.fn.list ++ map (λ k. (l.statement, k)) (range_with_len 0 l.number))
    × (All (HasOrigin l.nest) l.fn.list → All (HasOrigin l.nest) l.list)
