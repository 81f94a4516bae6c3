use Rattle.std.proofs.Common.{◌≡◌, map, length, take}
use Rattle.std.specs.List.{range_with_len, sum_by}
use Rattle.source_tree.specs.Sources.{read_number}
use Rattle.network_numbers.proofs.links.first_reads.Given as goal

abbrev pub invariant-loop-statement : goal.invariant-loop-statement
invariant-loop-statement l = record {
  firsts : l.firsts.items ≡ map (λ p. read_number l.nest p 0) (range_with_len 0 l.statement-index);
  first : l.first ≡ sum_by (λ s. length s.reads) (take l.statement-index l.nest.statements);
}
