use Rattle.std.proofs.Common.{◌≡◌, length, map, arith, ap, ◌∙◌}
use Rattle.std.specs.List.{range_with_len}
use Rattle.source_tree.specs.Sources.{read_number}
use Rattle.shadow_sweep.proofs.Starts.{first_started, lists_started}
use Rattle.shadow_sweep.proofs.state.first_reads.Goals as goal

pub loop-statement-preserved : goal.loop-statement-preserved
loop-statement-preserved c = record {
  firsts =
      first_started c.args.nest.now c.loop-statement.statement-index c.len.result c.loop-statement.lists.items
      c.loop-statement.firsts.items _
      (c.len.ensures ∙ c.loop-statement.lists.ok.0) c.loop-statement.invariant.lists c.loop-statement.invariant.firsts
      c.in_ok-push.ensures.items;
  lists = lists_started c.args.nest.now.statements c.as_slice-statement-items.result.now c.loop-statement.statement-index
      c.statement-item.result c.loop-statement.lists.items _ c.len-in-loop-statement.result
      c.as_slice-statement-items.ensures c.loop-statement-test.true c.statement-item.is c.len-in-loop-statement.ensures
      c.loop-statement.invariant.lists c.in_ok-add_lists.ensures;
}

pub returns-clause-firsts : goal.returns-clause-firsts
returns-clause-firsts c =
    let all : c.loop-statement.statement-index ≡ length c.args.nest.now.statements =
    omega (arith, ap length c.as_slice-statement-items.ensures) in
    c.loop-statement.invariant.firsts ∙ ap (λ k. map (λ p. read_number c.args.nest.now p 0) (range_with_len 0 k)) all
