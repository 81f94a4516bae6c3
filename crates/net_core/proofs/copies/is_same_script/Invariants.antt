use Rattle.std.proofs.Common.{◌≡◌}
use Rattle.std.specs.Prelude.{◌↔◌}
use Rattle.net_core.proofs.copies.is_same_script.Given as goal

-- what is left of both decides
abbrev pub invariant-loop-event : goal.invariant-loop-event
invariant-loop-event l = (l.script ≡ l.other) ↔ (l.event-iterator ≡ l.rest)
