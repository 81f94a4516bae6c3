use Rattle.std.proofs.Common.{◌≡◌}
use Rattle.net_checker.specs.FittingFires.{puts_first}
use Rattle.net_checker.proofs.fitting_fires.puts_first.Given as goal

-- what is left decides
abbrev pub invariant-loop-event : goal.invariant-loop-event
invariant-loop-event l = puts_first l.event-iterator ≡ puts_first l.script
