use Rattle.std.proofs.Common.{◌≡◌, ◌<◌, ◌+ℤ◌, ◌-ℤ◌, ℕ, pos, get_or, length}
use Rattle.net_checker.proofs.sources.is_step.Given as goal

-- the vectors are as long, and so far the numbers are as far apart
abbrev pub invariant-loop-k : goal.invariant-loop-k
invariant-loop-k l =
    (k : ℕ) → k < l.k → get_or l.after k (pos 0)
    ≡ get_or l.at k (pos 0) +ℤ (get_or l.second k (pos 0) -ℤ get_or l.from k (pos 0))
