use Rattle.std.proofs.Common.{◌≡◌, ◌<◌, ℕ, length, slice_index}
use Rattle.net_core.specs.Machine.{net_of}
use Rattle.net_core.proofs.PutCounts.{puts_below}
use Rattle.net_core.proofs.opening.put_counts.Given as goal

abbrev pub invariant-loop-process : goal.invariant-loop-process
invariant-loop-process l =
    (length l.counts.items ≡ length l.wired.network.now.channels)
    × ((c : ℕ) → c < length l.wired.network.now.channels
    → slice_index l.counts.items c ≡ puts_below (net_of l.wired.network.now) c l.process-index)
