use Rattle.std.proofs.Common.{◌≡◌, [], map, take, length}
use Rattle.std.specs.Prelude.{replicate}
use Rattle.std.specs.List.{sum_by, range_with_len}
use Rattle.source_tree.specs.Sources.{read_number}
use Rattle.shadow_sweep.proofs.state.first_reads.Given as goal

abbrev pub invariant-loop-statement : goal.invariant-loop-statement
invariant-loop-statement l = record {
  firsts : l.firsts.items ≡ map (λ p. read_number l.nest p 0) (range_with_len 0 l.statement-index);
  lists : l.lists.items ≡ replicate (sum_by (λ s. length s.reads) (take l.statement-index l.nest.statements)) [];
}
