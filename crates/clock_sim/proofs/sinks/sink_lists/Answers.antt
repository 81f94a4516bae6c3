use Rattle.std.proofs.Common.{◌≡◌, ◌∙◌, ◌++◌, ◌∷◌, [], ℕ, ℤ, List, true, false, ap, sym, arith}
use Rattle.sanlp.specs.Cells.{is_output}
use Rattle.net_core.specs.Held.{run_of}
use Rattle.net_core.proofs.SinkLists.{numbers_printed, numbers_other, lists_printed, lists_other}
use Rattle.clock_sim.proofs.sinks.sink_lists.Goals.{then-is_output+in_ok-from_slice+in_ok-push}
use Rattle.clock_sim.proofs.sinks.sink_lists.Goals.{else-is_output+in_ok-push-2}
use Rattle.clock_sim.proofs.sinks.sink_lists.Goals as goal
use Rattle.plain_data.proofs.Lists.{drop_read_same}

pub loop-array-preserved : goal.loop-array-preserved
loop-array-preserved c =
    let i = c.loop-array.invariant in
    let at = c.loop-array.array-index in
    let declared = c.args.nest.now.arrays in
    let array = c.array-item.result in
    let kept : ℕ → List ℤ = λ p. ((run_of c.args.state.now).local p).kept in
    let lists = c.loop-array.lists in
    let here =
    drop_read_same declared c.as_slice-array-items.result.now at array c.as_slice-array-items.ensures c.loop-array-test.true
    c.array-item.is in
    elim c.if-is_output.branch [
      | then-is_output+in_ok-from_slice+in_ok-push w ↦
          let printed : is_output array.kind ≡ true = sym c.is_output.ensures ∙ w.if-is_output.true in
          let grown : c.if-is_output.lists ≡ lists ++ kept c.loop-array.sink ∷ [] =
          w.lists-is ∙ w.in_ok-push.ensures.ok
          ∙ ap (λ (l : List ℤ). lists ++ l ∷ []) (w.in_ok-from_slice.ensures ∙ w.kept.ensures) in
          record {
            added = rw w.sink-is
                (lists_printed declared at array here kept c.loop-array.sink lists c.if-is_output.lists printed grown)
                ∙ i.added;
            sinks = omega (arith, i.sinks, numbers_printed declared at array here printed, w.sink-is);
          }
      | else-is_output+in_ok-push-2 w ↦
          let other : is_output array.kind ≡ false = sym c.is_output.ensures ∙ w.if-is_output.false in
          let grown : c.if-is_output.lists ≡ lists ++ [] ∷ [] =
          w.lists-is ∙ w.in_ok-push-2.ensures.ok ∙ ap (λ (l : List ℤ). lists ++ l ∷ []) w.new.ensures in
          record {
            added = rw w.sink-is
                (lists_other declared at array here kept c.loop-array.sink lists c.if-is_output.lists other grown)
                ∙ i.added;
            sinks = omega (arith, i.sinks, numbers_other declared at array here other, w.sink-is);
          }
    ]
