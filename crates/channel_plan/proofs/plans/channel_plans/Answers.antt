use Rattle.std.proofs.Common.{◌≡◌, ◌+◌, ◌-◌, ◌++◌, take, drop, length, subst, sym, ap, ◌∙◌, arith}
use Rattle.channel_plan.specs.Reads.{AreFew, channels_to}
use Rattle.channel_plan.proofs.Nests.{few_before, few_turns, plans_all, readers_part, turns_are}
use Rattle.channel_plan.proofs.plans.channel_plans.Goals as goal

pub overflow_add-next : goal.overflow_add-next
overflow_add-next c =
    omega (
      arith,
      (readers_part c.args.nest.now c.args.turns.now c.as_slice-table.result.now c.as_slice-statement-items.result.now
          c.loop-reader.reader c.loop-reader.first c.len.result c.statement-item.result c.requires.turns
          (c.as_slice-table.ensures ∙ c.requires.sources) c.as_slice-statement-items.ensures c.loop-reader-test.true
          c.statement-item.is c.loop-reader.invariant.first c.len.ensures).small,
    )

pub offset_bounds-table-first : goal.offset_bounds-table-first
offset_bounds-table-first c =
    omega (arith, few_before c.args.nest.now c.loop-reader.reader, c.loop-reader.invariant.first)

pub slice_bounds-add_channels_to-end : goal.slice_bounds-add_channels_to-end
slice_bounds-add_channels_to-end c =
    (readers_part c.args.nest.now c.args.turns.now c.as_slice-table.result.now c.as_slice-statement-items.result.now
    c.loop-reader.reader c.loop-reader.first c.len.result c.statement-item.result c.requires.turns
    (c.as_slice-table.ensures ∙ c.requires.sources) c.as_slice-statement-items.ensures c.loop-reader-test.true
    c.statement-item.is c.loop-reader.invariant.first c.len.ensures).within

pub add_channels_to-requires-clause-few : goal.add_channels_to-requires-clause-few
add_channels_to-requires-clause-few c =
    let n = c.args.nest.now in
    let turns = c.requires.turns ∙ turns_are n in
    subst AreFew (sym turns) (few_turns n c.requires.size)

pub add_channels_to-requires-clause-reads : goal.add_channels_to-requires-clause-reads
add_channels_to-requires-clause-reads c =
    omega (
      arith,
      (readers_part c.args.nest.now c.args.turns.now c.as_slice-table.result.now c.as_slice-statement-items.result.now
          c.loop-reader.reader c.loop-reader.first c.len.result c.statement-item.result c.requires.turns
          (c.as_slice-table.ensures ∙ c.requires.sources) c.as_slice-statement-items.ensures c.loop-reader-test.true
          c.statement-item.is c.loop-reader.invariant.first c.len.ensures).short,
    )

pub add_channels_to-requires-clause-among : goal.add_channels_to-requires-clause-among
add_channels_to-requires-clause-among c =
    (readers_part c.args.nest.now c.args.turns.now c.as_slice-table.result.now c.as_slice-statement-items.result.now
    c.loop-reader.reader c.loop-reader.first c.len.result c.statement-item.result c.requires.turns
    (c.as_slice-table.ensures ∙ c.requires.sources) c.as_slice-statement-items.ensures c.loop-reader-test.true
    c.statement-item.is c.loop-reader.invariant.first c.len.ensures).among

pub loop-reader-preserved : goal.loop-reader-preserved
loop-reader-preserved c =
    let n = c.args.nest.now in
    let part =
    readers_part n c.args.turns.now c.as_slice-table.result.now c.as_slice-statement-items.result.now
    c.loop-reader.reader c.loop-reader.first c.len.result c.statement-item.result c.requires.turns
    (c.as_slice-table.ensures ∙ c.requires.sources) c.as_slice-statement-items.ensures c.loop-reader-test.true
    c.statement-item.is c.loop-reader.invariant.first c.len.ensures in
    record {
      first = part.next;
      plans = c.in_ok-add_channels_to.ensures
          ∙ ap (λ old. old ++ channels_to c.args.turns.now c.loop-reader.reader
          (take (c.loop-reader.first + c.len.result - c.loop-reader.first)
          (drop c.loop-reader.first c.as_slice-table.result.now))) c.loop-reader.invariant.plans
          ∙ part.added;
    }

pub returns : goal.returns
returns c =
    let n = c.args.nest.now in
    let all : c.loop-reader.reader ≡ length n.statements =
    omega (arith, ap length c.as_slice-statement-items.ensures) in
    c.from_vec.ensures ∙ plans_all n c.loop-reader.reader c.loop-reader.plans.items all c.loop-reader.invariant.plans
