use Rattle.std.proofs.Common.{◌+ℤ◌, [], ◌∷◌, ◌++◌, rules, length, ap, sym, refl, ◌∙◌, true, false, arith, FitsSigned, w64}
use Rattle.std.proofs.lemmas.Int.{ints, to_z-of_z}
use Rattle.source_tree.specs.declared.tree.Tree.TheViews.{the_lemmas}
use Rattle.source_tree.specs.Walk.{is_ready}
use Rattle.source_tree.proofs.WalkOutcomes.{ready_test, ready_writer, writer_some, walked_zero, walked_dead}
use Rattle.tree_eval.specs.declared.leaf.Leaf.TheVariants.{Writer, Zero, Dead}
use Rattle.tree_eval.specs.Stretches.{values_at}
use Rattle.tree_eval.proofs.Rows.{leaf_row, test_row}
use Rattle.tree_eval.proofs.row.+follow_row.Goals as goal

pub follow_row-requires : goal.follow_row-requires
follow_row-requires t c = (
  search (rules, the_lemmas),
  (
    (
      c.requires.ready.0,
      c.requires.ready.1,
      ap (λ p. is_ready c.requires.ready.0 p c.requires.ready.1) c.get.ensures
          ∙ (ready_test c.requires.ready.0 c.requires.ready.1 c.args.tree.now c.in-Test.form c.in-Test.yes
          c.in-Test.no
          c.in-Test.is c.requires.ready.2).1,
    ),
    (omega (arith, ints), (omega (arith, ints), c.requires.short)),
  ),
)

pub follow_row-requires-else-line-ge0 : goal.follow_row-requires-else-line-ge0
follow_row-requires-else-line-ge0 t c = (
  search (rules, the_lemmas),
  (
    (
      c.requires.ready.0,
      c.requires.ready.1,
      ap (λ p. is_ready c.requires.ready.0 p c.requires.ready.1) c.get-else-line-ge0.ensures
          ∙ (ready_test c.requires.ready.0 c.requires.ready.1 c.args.tree.now c.in-Test.form c.in-Test.yes
          c.in-Test.no
          c.in-Test.is c.requires.ready.2).2,
    ),
    (omega (arith, ints), (omega (arith, ints), c.requires.short)),
  ),
)

pub append_lines-requires-clause-room : goal.append_lines-requires-clause-room
append_lines-requires-clause-room t c =
    omega (
      arith,
      ap length c.empty-starts.ensures,
      ap length c.as_slice.ensures,
      (ready_writer c.requires.ready.0 c.requires.ready.1 c.args.tree.now c.in-Writer.statement c.in-Writer.forms
          c.in-Writer.field-2 c.in-Writer.is c.requires.ready.2).0,
    )

pub returns-then-line-ge0 : goal.returns-then-line-ge0
returns-then-line-ge0 t c =
    let first : FitsSigned w64 c.args.first = c.ranges.first in
    let all : FitsSigned w64 c.args.turns = c.ranges.turns in
    let turns : FitsSigned w64 c.turns_on_side-turns.result = search rules in
    let value : FitsSigned w64 c.in_ok-line-in-Test.line.value = search rules in
    test_row c.args.tree.now c.in-Test.form c.in-Test.yes c.in-Test.no c.get.result.now c.args.outer.now
    c.args.first
    c.args.turns c.turns_on_side-turns.result c.in_ok-line-in-Test.line true c.follow_row.result
    c.in-Test.is
    (simp to_z-of_z at c.in_ok-line-in-Test.ensures) (omega (arith, ints)) c.requires.few
    c.turns_on_side-turns.ensures.side (simp to_z-of_z at c.if-line-ge0.true) c.get.ensures
    (simp to_z-of_z at c.follow_row.ensures)

pub returns-else-line-ge0 : goal.returns-else-line-ge0
returns-else-line-ge0 t c =
    let first : FitsSigned w64 c.args.first = c.ranges.first in
    let all : FitsSigned w64 c.args.turns = c.ranges.turns in
    let turns : FitsSigned w64 c.turns_on_side-turns.result = search rules in
    let value : FitsSigned w64 c.in_ok-line-in-Test.line.value = search rules in
    test_row c.args.tree.now c.in-Test.form c.in-Test.yes c.in-Test.no c.get-else-line-ge0.result.now
    c.args.outer.now
    c.args.first c.args.turns c.turns_on_side-turns.result c.in_ok-line-in-Test.line false
    c.follow_row-else-line-ge0.result c.in-Test.is
    (simp to_z-of_z at c.in_ok-line-in-Test.ensures)
    (omega (arith, ints)) c.requires.few c.turns_on_side-turns.ensures.side (simp to_z-of_z at c.if-line-ge0.false)
    c.get-else-line-ge0.ensures (simp to_z-of_z at c.follow_row-else-line-ge0.ensures)

pub returns-then-append_lines : goal.returns-then-append_lines
returns-then-append_lines t c =
    let first : FitsSigned w64 c.args.first = c.ranges.first in
    let all : FitsSigned w64 c.args.turns = c.ranges.turns in
    let adds = simp to_z-of_z at c.if-append_lines.ensures in
    simp to_z-of_z (leaf_row c.args.tree.now c.args.outer.now c.args.first c.args.turns
    (Writer c.in-Writer.statement c.append_lines.new.starts c.append_lines.new.steps) adds.small c.requires.not_negative
    c.requires.few
    (λ turn from to. sym (writer_some (c.args.outer.now ++ (c.args.first +ℤ turn) ∷ [])
    (c.args.outer.now ++ (c.args.first +ℤ turn) ∷ []) (values_at turn c.empty-starts.result c.empty-steps.result)
    (values_at turn c.append_lines.new.starts c.append_lines.new.steps) c.args.tree.now c.in-Writer.statement
    c.in-Writer.forms c.as_slice.result.now c.in-Writer.field-2 c.in-Writer.is refl c.as_slice.ensures
    (ap (λ xs. values_at turn xs c.empty-steps.result) c.empty-starts.ensures) (adds.are turn from to))))

pub returns-in-Zero : goal.returns-in-Zero
returns-in-Zero t c =
    let all : FitsSigned w64 c.args.turns = c.ranges.turns in
    simp to_z-of_z (leaf_row c.args.tree.now c.args.outer.now c.args.first c.args.turns Zero tt c.requires.not_negative
    c.requires.few
    (λ turn from to. walked_zero (c.args.outer.now ++ (c.args.first +ℤ turn) ∷ []) c.args.tree.now _ c.in-Zero.is))

pub returns-in-Dead : goal.returns-in-Dead
returns-in-Dead t c =
    let all : FitsSigned w64 c.args.turns = c.ranges.turns in
    simp to_z-of_z (leaf_row c.args.tree.now c.args.outer.now c.args.first c.args.turns Dead tt c.requires.not_negative
    c.requires.few
    (λ turn from to. walked_dead (c.args.outer.now ++ (c.args.first +ℤ turn) ∷ []) c.args.tree.now _ c.in-Dead.is))
