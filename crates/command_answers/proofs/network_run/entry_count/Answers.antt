use Rattle.std.proofs.Common.{◌≡◌, ◌+◌, ◌∙◌, length, count_by, sym, ap, arith}
use Rattle.sanlp.specs.Trace.{trace}
use Rattle.sanlp.proofs.NestFacts.{points_length}
use Rattle.process_derive.proofs.Bounds.{few_entries}
use Rattle.command_answers.proofs.EntryCounts.{all_entries, few_below, is_below, item_is, none_below, statement_more}
use Rattle.command_answers.proofs.network_run.entry_count.Goals as goal

pub loop-vectors-init : goal.loop-vectors-init
loop-vectors-init c = sym (none_below (trace c.args.nest.now))

pub overflow_add-count : goal.overflow_add-count
overflow_add-count c =
    let n = c.args.nest.now in
    let item = item_is n c.args.points.now.of c.as_slice-vectors-items.result.now c.loop-vectors.vectors-index
    c.vectors-item.result c.requires.points c.as_slice-vectors-items.ensures c.loop-vectors-test.true c.vectors-item.is in
    omega (
      arith,
      c.loop-vectors.invariant,
      statement_more n c.loop-vectors.vectors-index,
      few_below n (c.loop-vectors.vectors-index + 1),
      few_entries n c.requires.size,
      ap length item,
      c.len.ensures,
    )

pub loop-vectors-preserved : goal.loop-vectors-preserved
loop-vectors-preserved c =
    let n = c.args.nest.now in
    let item = item_is n c.args.points.now.of c.as_slice-vectors-items.result.now c.loop-vectors.vectors-index
    c.vectors-item.result c.requires.points c.as_slice-vectors-items.ensures c.loop-vectors-test.true c.vectors-item.is in
    omega (
      arith,
      c.loop-vectors.invariant,
      statement_more n c.loop-vectors.vectors-index,
      ap length item,
      c.len.ensures,
    )

pub returns : goal.returns
returns c =
    let n = c.args.nest.now in
    let all : c.loop-vectors.vectors-index ≡ length n.statements =
    omega (
      arith,
      c.loop-vectors-test.false,
      c.loop-vectors.auto.vectors-index-end,
      points_length n,
      ap length c.requires.points,
      ap length c.as_slice-vectors-items.ensures,
    ) in
    c.loop-vectors.invariant ∙ ap (λ m. count_by (is_below m) (trace c.args.nest.now)) all ∙ all_entries n
