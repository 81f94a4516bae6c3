use Rattle.std.proofs.Common.{◌≡◌, ◌∷◌, [], ◌++◌, ℤ, List, length, vec_capacity, subst, length-append, ap, sym, ◌∙◌}
use Rattle.std.proofs.Common.{arith, true, false}
use Rattle.std.specs.declared.vec.Vec.{Vec}
use Rattle.std.specs.Global.{Global}
use Rattle.sanlp.specs.Cells.{is_output}
use Rattle.sanlp.specs.Points.{points_of}
use Rattle.net_core.specs.Shape.{turns}
use Rattle.net_core.proofs.SinkLists.{numbers_printed, numbers_other, lists_printed, lists_other}
use Rattle.plain_data.proofs.Lists.{drop_read_same}
use Rattle.thread_runner.specs.Benches.{HaveSpace}
use Rattle.thread_runner.proofs.BenchLists.{space_less}
use Rattle.thread_runner.proofs.bench.gathered.Goals.{then-is_output+in-Some, else-is_output}
use Rattle.thread_runner.proofs.bench.gathered.Goals as goal

pub loop-array-preserved : goal.loop-array-preserved
loop-array-preserved g c =
    let i = c.loop-array.invariant in
    let at = c.loop-array.array-index in
    let nest = c.args.nest.now in
    let f = g.K.Keeper.values c.args.keeper.now in
    let here =
    drop_read_same nest.arrays c.as_slice-array-items.result.now at c.array-item.result c.as_slice-array-items.ensures
    c.loop-array-test.true c.array-item.is in
    elim c.if-is_output.branch [
      | then-is_output+in-Some w ↦
          let out : is_output c.array-item.result.kind ≡ true = sym c.is_output.ensures ∙ w.if-is_output.true in
          let value : w.filled.result ≡ f c.loop-array.sink = w.filled.ensures ∙ w.kept.ensures in
          let grown : c.if-is_output.arrays.items ≡ c.loop-array.arrays.items ++ f c.loop-array.sink ∷ [] =
          ap (λ (v : Vec (List ℤ) Global). v.items) w.arrays-is ∙ w.push_reserved.ensures.items
          ∙ ap (λ x. c.loop-array.arrays.items ++ x ∷ []) value in
          let shrunk : c.loop-array.lists.items ≡ c.if-is_output.lists.items ++ w.in-Some.list ∷ [] =
          w.in-Some.ensures.items
          ∙ ap (λ (v : Vec (Vec ℤ Global) Global). v.items ++ w.in-Some.list ∷ []) (sym w.lists-is) in
          let fewer = numbers_printed nest.arrays at c.array-item.result here out in
          record {
            added = rw w.sink-is (lists_printed nest.arrays at c.array-item.result here f c.loop-array.sink
                c.loop-array.arrays.items c.if-is_output.arrays.items out grown) ∙ i.added;
            sinks = omega (arith, i.sinks, fewer, w.sink-is);
            lists = omega (
              arith,
              i.lists,
              fewer,
              ap length shrunk,
              length-append c.if-is_output.lists.items (w.in-Some.list ∷ []),
            );
            space = space_less (turns (points_of nest)) (length nest.statements) c.loop-array.lists.items
                c.if-is_output.lists.items w.in-Some.list i.space shrunk;
            number =
                omega (
                  arith,
                  i.number,
                  ap length grown,
                  length-append c.loop-array.arrays.items (f c.loop-array.sink ∷ []),
                );
            capacity =
                ap (λ (v : Vec (List ℤ) Global). vec_capacity v) w.arrays-is ∙ w.push_reserved.ensures.capacity
                ∙ i.capacity;
          }
      | else-is_output w ↦
          let other : is_output c.array-item.result.kind ≡ false = sym c.is_output.ensures ∙ w.if-is_output.false in
          let grown : c.if-is_output.arrays.items ≡ c.loop-array.arrays.items ++ [] ∷ [] =
          ap (λ (v : Vec (List ℤ) Global). v.items) w.arrays-is ∙ w.push_reserved-else-is_output.ensures.items
          ∙ ap (λ x. c.loop-array.arrays.items ++ x ∷ []) w.new.ensures in
          let same : c.if-is_output.lists.items ≡ c.loop-array.lists.items =
          ap (λ (v : Vec (Vec ℤ Global) Global). v.items) w.lists-is in
          let as_many = numbers_other nest.arrays at c.array-item.result here other in
          record {
            added = rw w.sink-is (lists_other nest.arrays at c.array-item.result here f c.loop-array.sink
                c.loop-array.arrays.items c.if-is_output.arrays.items other grown) ∙ i.added;
            sinks = omega (arith, i.sinks, as_many, w.sink-is);
            lists = omega (arith, i.lists, as_many, ap length same);
            space = subst (HaveSpace (turns (points_of nest)) (length nest.statements)) (sym same) i.space;
            number = omega (arith, i.number, ap length grown, length-append c.loop-array.arrays.items ([] ∷ []));
            capacity =
                ap (λ (v : Vec (List ℤ) Global). vec_capacity v) w.arrays-is
                ∙ w.push_reserved-else-is_output.ensures.capacity ∙ i.capacity;
          }
    ]
