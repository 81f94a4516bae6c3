use Rattle.std.proofs.Common.{◌≡◌, ◌++◌, replicate}
use Rattle.source_tree.specs.declared.cert.Origin.TheVariants.{Sweep}
use Rattle.swept_net.proofs.making.add_swept.Given as goal

abbrev pub invariant-loop : goal.invariant-loop
invariant-loop l = l.sources ≡ l.initial.sources ++ replicate l.counter Sweep
