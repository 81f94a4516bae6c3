use Rattle.std.proofs.Common.{◌≡◌, ◌++◌, ◌∷◌, ◌+◌, [], ap, sym, ◌∙◌, arith, map}
use Rattle.std.specs.List.{range_with_len}
use Rattle.std.proofs.lemmas.List.FromFn.{map-range_with_len_more}
use Rattle.channel_plan.proofs.Nests.{few_before}
use Rattle.source_tree.specs.Sources.{read_number}
use Rattle.network_numbers.proofs.ReadLists.{reads_more}
use Rattle.network_numbers.proofs.links.first_reads.Goals as goal

pub overflow_add-first : goal.overflow_add-first
overflow_add-first c =
    let n = c.args.nest.now in
    omega (
      arith,
      few_before n (c.loop-statement.statement-index + 1),
      reads_more n c.loop-statement.statement-index c.statement-item.result c.as_slice-statement-items.result.now
          c.as_slice-statement-items.ensures c.loop-statement-test.true c.statement-item.is,
      c.loop-statement.invariant.first,
      c.len-first.ensures,
    )

pub loop-statement-preserved : goal.loop-statement-preserved
loop-statement-preserved c =
    let n = c.args.nest.now in
    let k = c.loop-statement.statement-index in
    let number : c.loop-statement.first ≡ read_number n k 0 = omega (arith, c.loop-statement.invariant.first) in
    record {
      firsts = c.in_ok-push.ensures.items
          ∙ ap (λ xs. xs ++ c.loop-statement.first ∷ []) c.loop-statement.invariant.firsts
          ∙ ap (λ m. map (λ p. read_number n p 0) (range_with_len 0 k) ++ m ∷ []) number
          ∙ sym (map-range_with_len_more (λ p. read_number n p 0) 0 k k (omega arith));
      first = omega (
        arith,
        reads_more n k c.statement-item.result c.as_slice-statement-items.result.now
            c.as_slice-statement-items.ensures c.loop-statement-test.true c.statement-item.is,
        c.loop-statement.invariant.first,
        c.len-first.ensures,
      );
    }
