use Rattle.std.proofs.Common.{◌≡◌, ℕ, ◌<◌, None}
use Rattle.net_core.specs.Machine.{net_of}
use Rattle.net_checker.specs.Entries.{unended}
use Rattle.net_checker.specs.TagStates.{cut_in}
use Rattle.net_checker.proofs.entries.unended.Given as goal

-- each process so far is at its script's end
abbrev pub invariant-loop-process : goal.invariant-loop-process
invariant-loop-process l = (p : ℕ) → p < l.process → unended (net_of l.network) (cut_in l.state) p ≡ None
