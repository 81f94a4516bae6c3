use Rattle.std.proofs.Common.{◌≡◌, drop}
use Rattle.std.specs.List.{find}
use Rattle.port_text.specs.Limits.{has_long_sequencer}
use Rattle.port_text.proofs.unit.first_with_long_sequencer.Given as goal

abbrev pub invariant-loop-unit : goal.invariant-loop-unit
invariant-loop-unit l = find has_long_sequencer (drop l.unit-index l.units) ≡ find has_long_sequencer l.units
