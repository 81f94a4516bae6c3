use Rattle.std.proofs.Common.{◌≡◌, ◌++◌, []}
use Rattle.std.specs.Prelude.{replicate}
use Rattle.shadow_sweep.proofs.state.add_lists.Given as goal

abbrev pub invariant-loop : goal.invariant-loop
invariant-loop l = l.lists.items ≡ l.initial.lists.items ++ replicate l.counter []
