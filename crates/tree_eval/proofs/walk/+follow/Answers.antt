use Rattle.std.proofs.Common.{rules, ◌∙◌, sym, ap, length, true, false, FitsSigned, w64, arith}
use Rattle.std.proofs.lemmas.Int.{to_z-of_z}
use Rattle.source_tree.specs.declared.tree.Tree.TheViews.{the_lemmas}
use Rattle.source_tree.specs.Walk.{is_ready}
use Rattle.source_tree.proofs.WalkOutcomes.{ready_test, ready_writer, writer_some, walked_zero, walked_dead}
use Rattle.tree_eval.proofs.TestSides.{test_known}
use Rattle.tree_eval.proofs.walk.+follow.Goals as goal

pub follow-requires : goal.follow-requires
follow-requires t c = (
  search (rules, the_lemmas),
  (
    c.requires.0,
    c.requires.1,
    ap (λ p. is_ready c.requires.0 p c.requires.1) c.get.ensures
        ∙ (ready_test c.requires.0 c.requires.1 c.args.tree.now c.in-Test.form c.in-Test.yes c.in-Test.no
        c.in-Test.is
        c.requires.2).1,
  ),
)

pub follow-requires-else-value-ge0 : goal.follow-requires-else-value-ge0
follow-requires-else-value-ge0 t c = (
  search (rules, the_lemmas),
  (
    c.requires.0,
    c.requires.1,
    ap (λ p. is_ready c.requires.0 p c.requires.1) c.get-else-value-ge0.ensures
        ∙ (ready_test c.requires.0 c.requires.1 c.args.tree.now c.in-Test.form c.in-Test.yes c.in-Test.no
        c.in-Test.is
        c.requires.2).2,
  ),
)

pub returns-then-value-ge0 : goal.returns-then-value-ge0
returns-then-value-ge0 t c =
    let fits : FitsSigned w64 c.in_ok-value-in-Test.value = search rules in
    test_known c.args.at.now c.as_slice.result.now c.args.tree.now c.in-Test.form c.in-Test.yes c.in-Test.no
    c.get.result.now c.in_ok-value-in-Test.value true c.follow.result
    c.in-Test.is
    c.as_slice.ensures.value
    c.in_ok-value-in-Test.ensures (simp to_z-of_z at c.if-value-ge0.true) c.get.ensures c.follow.ensures

pub returns-else-value-ge0 : goal.returns-else-value-ge0
returns-else-value-ge0 t c =
    let fits : FitsSigned w64 c.in_ok-value-in-Test.value = search rules in
    test_known c.args.at.now c.as_slice.result.now c.args.tree.now c.in-Test.form c.in-Test.yes c.in-Test.no
    c.get-else-value-ge0.result.now c.in_ok-value-in-Test.value false c.follow-else-value-ge0.result
    c.in-Test.is
    c.as_slice.ensures.value c.in_ok-value-in-Test.ensures (simp to_z-of_z at c.if-value-ge0.false)
    c.get-else-value-ge0.ensures c.follow-else-value-ge0.ensures

pub append_mapped-requires : goal.append_mapped-requires
append_mapped-requires t c =
    omega (
      arith,
      ap length c.empty-mapped.ensures,
      ap length c.as_slice-in-Writer.ensures,
      (ready_writer c.requires.0 c.requires.1 c.args.tree.now c.in-Writer.statement c.in-Writer.forms
          c.in-Writer.field-2 c.in-Writer.is c.requires.2).0,
    )

pub returns-then-append_mapped : goal.returns-then-append_mapped
returns-then-append_mapped t c =
    sym (writer_some c.args.at.now c.as_slice-in-Writer-2.result.now c.empty-mapped.result c.append_mapped.new.out
    c.args.tree.now c.in-Writer.statement c.in-Writer.forms c.as_slice-in-Writer.result.now c.in-Writer.field-2
    c.in-Writer.is c.as_slice-in-Writer-2.ensures.value c.as_slice-in-Writer.ensures c.empty-mapped.ensures
    c.if-append_mapped.ensures)

pub returns-in-Zero : goal.returns-in-Zero
returns-in-Zero t c = walked_zero c.args.at.now c.args.tree.now _ c.in-Zero.is

pub returns-in-Dead : goal.returns-in-Dead
returns-in-Dead t c = walked_dead c.args.at.now c.args.tree.now _ c.in-Dead.is
