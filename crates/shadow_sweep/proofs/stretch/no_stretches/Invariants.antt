use Rattle.std.proofs.Common.{◌≡◌}
use Rattle.std.specs.Prelude.{replicate}
use Rattle.shadow_sweep.specs.Stretches.{no_stretch}
use Rattle.shadow_sweep.proofs.stretch.no_stretches.Given as goal

abbrev pub invariant-loop : goal.invariant-loop
invariant-loop l = l.stretches.items ≡ replicate l.counter no_stretch
