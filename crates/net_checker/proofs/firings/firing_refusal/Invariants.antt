use Rattle.std.proofs.Common.{◌≡◌, ℕ, ◌<◌, None}
use Rattle.net_core.specs.Machine.{net_of}
use Rattle.net_checker.specs.Firings.{process_firing}
use Rattle.net_checker.proofs.firings.firing_refusal.Given as goal

abbrev pub invariant-loop-process : goal.invariant-loop-process
invariant-loop-process l =
    (q : ℕ) → q < l.process → process_firing l.candidate.nest.now (net_of l.candidate.network.now) q ≡ None
