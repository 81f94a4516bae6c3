use Rattle.std.proofs.Common.{◌≡◌, ◌≤◌, ◌+◌, ◌-◌, ◌∷◌, [], length, length-append, ap, ◌∙◌, arith}
use Rattle.sanlp.specs.Points.{points_of}
use Rattle.sanlp.specs.WellFormed.{output_numbers}
use Rattle.sanlp.proofs.NestFacts.{points_length}
use Rattle.net_core.specs.Shape.{turns}
use Rattle.thread_runner.proofs.BenchLists.{few_outputs, space_more, turns_read}
use Rattle.thread_runner.proofs.bench.empty_lists.Goals as goal

pub bounds-as_slice-sink : goal.bounds-as_slice-sink
bounds-as_slice-sink c =
    let n = c.args.nest.now in
    let count : c.output_count-end.result ≡ length (output_numbers n.arrays) =
    c.output_count-end.ensures ∙ ap (λ l. length (output_numbers l)) c.as_slice.ensures in
    let some : 1 ≤ c.loop.sink = omega (arith, c.loop-test.true, count, few_outputs n, c.loop.invariant.sink) in
    omega (
      arith,
      some,
      c.loop.invariant.sink,
      points_length c.args.nest.now,
      ap length (c.as_slice-in-loop.ensures ∙ c.requires),
    )

pub loop-preserved : goal.loop-preserved
loop-preserved c =
    let i = c.loop.invariant in
    let n = c.args.nest.now in
    let count : c.output_count-end.result ≡ length (output_numbers n.arrays) =
    c.output_count-end.ensures ∙ ap (λ l. length (output_numbers l)) c.as_slice.ensures in
    let some : 1 ≤ c.loop.sink = omega (arith, c.loop-test.true, count, few_outputs n, c.loop.invariant.sink) in
    record {
      number =
          ap length c.in_ok-push.ensures.items ∙ length-append c.loop.lists.items (c.in_ok-with_capacity.field-0 ∷ [])
          ∙ ap (λ k. k + 1) i.number;
      sink = omega (arith, some, i.sink);
      space = space_more (turns (points_of c.args.nest.now)) (length c.args.nest.now.statements) c.loop.counter
          (c.loop.sink - 1) c.loop.lists.items c.push.new.self.items c.in_ok-with_capacity.field-0 i.space
          c.in_ok-push.ensures.items i.number (omega (arith, some, i.sink)) c.in_ok-with_capacity.ensures.items
          (turns_read (points_of n) c.as_slice-in-loop.result.now
          (c.loop.sink - 1) c.index-as_slice-sink.result c.len.result _ (c.as_slice-in-loop.ensures ∙ c.requires)
          (omega (arith, some, i.sink, points_length n, ap length (c.as_slice-in-loop.ensures ∙ c.requires)))
          c.index-as_slice-sink.is c.len.ensures c.in_ok-with_capacity.ensures.exact);
    }
