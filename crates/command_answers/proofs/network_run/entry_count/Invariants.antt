use Rattle.std.proofs.Common.{◌≡◌, count_by}
use Rattle.sanlp.specs.Trace.{trace}
use Rattle.command_answers.proofs.EntryCounts.{is_below}
use Rattle.command_answers.proofs.network_run.entry_count.Given as goal

abbrev pub invariant-loop-vectors : goal.invariant-loop-vectors
invariant-loop-vectors l = l.count ≡ count_by (is_below l.vectors-index) (trace l.nest)
