use Rattle.net_core.specs.Machine.{net_of}
use Rattle.net_checker.proofs.Walk.{IsWalked}
use Rattle.net_checker.proofs.entries.listed_refusal.Given as goal

abbrev pub invariant-loop-entry : goal.invariant-loop-entry
invariant-loop-entry l = IsWalked l.fitting.nest.now (net_of l.fitting.network.now) l.schedule l.state l.entry
