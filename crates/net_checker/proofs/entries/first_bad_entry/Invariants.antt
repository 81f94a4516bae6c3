use Rattle.std.proofs.Common.{◌≡◌, ◌++◌, length}
use Rattle.net_core.specs.Machine.{net_of}
use Rattle.net_checker.proofs.Walk.{IsWalked}
use Rattle.net_checker.proofs.entries.first_bad_entry.Given as goal

abbrev pub invariant-loop-process : goal.invariant-loop-process
invariant-loop-process l = record {
  whole : l.yielded ++ l.process-iterator ≡ l.schedule;
  number : l.entry ≡ length l.yielded;
  walked : IsWalked l.fitting.nest.now (net_of l.fitting.network.now) l.schedule l.state l.entry;
}
