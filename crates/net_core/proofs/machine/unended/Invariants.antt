use Rattle.std.proofs.Common.{◌≡◌, ℕ, ◌<◌, length}
use Rattle.net_core.specs.Machine.{net_of}
use Rattle.net_core.specs.Held.{run_of}
use Rattle.net_core.proofs.machine.unended.Given as goal

abbrev pub invariant-loop-at : goal.invariant-loop-at
invariant-loop-at g l =
    (q : ℕ) → q < l.at → ((run_of l.state).local q).position ≡ length ((net_of l.network).script q)
