use Rattle.std.proofs.Common.{◌≡◌, None, replicate}
use Rattle.array_data.proofs.inputs.no_values.Given as goal

abbrev pub invariant-loop : goal.invariant-loop
invariant-loop l = l.given ≡ replicate l.counter None
