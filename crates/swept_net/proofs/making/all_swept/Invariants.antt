use Rattle.std.proofs.Common.{◌≡◌, take, length, replicate}
use Rattle.std.specs.List.{sum_by}
use Rattle.source_tree.specs.declared.cert.Origin.TheVariants.{Sweep}
use Rattle.swept_net.proofs.making.all_swept.Given as goal

abbrev pub invariant-loop-statement : goal.invariant-loop-statement
invariant-loop-statement l =
    l.sources ≡ replicate (sum_by (λ s. length s.reads) (take l.statement-index l.nest.statements)) Sweep
