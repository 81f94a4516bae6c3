use Rattle.std.proofs.Common.{FitsSigned, rules, arith}
use Rattle.std.specs.Int.{w128}
use Rattle.std.proofs.lemmas.Int.{to_z-of_z}
use Rattle.net_maker.proofs.Levels.{dead_is, divides_is, else_is, same_is, test_is, then_is, tree_ended, writer_is, zero_is}
use Rattle.source_tree.proofs.Views.{kept_divisor}
use Rattle.net_maker.proofs.ranges.+tree_is_within.Goals as goal

pub returns-then-levels-eq0 : goal.returns-then-levels-eq0
returns-then-levels-eq0 t c = tree_ended c.args.levels c.args.tree.now c.if-levels-eq0.true

pub returns-then-tree_is_within : goal.returns-then-tree_is_within
returns-then-tree_is_within t c =
    let step = test_is c.args.levels c.args.tree.now (omega arith) c.in-Test.form c.in-Test.above c.in-Test.below
    c.in-Test.is in
    then_is c.tree_is_within.result c.tree_is_within-then-tree_is_within.result
    (rw c.get.ensures at c.tree_is_within.ensures)
    (rw c.get-then-tree_is_within.ensures at c.tree_is_within-then-tree_is_within.ensures)
    c.if-tree_is_within.true (λ a b. step.1 (c.form_fits.ensures, a, b)) (λ p. (step.0 p).2)

pub returns-else-tree_is_within : goal.returns-else-tree_is_within
returns-else-tree_is_within t c =
    let step = test_is c.args.levels c.args.tree.now (omega arith) c.in-Test.form c.in-Test.above c.in-Test.below
    c.in-Test.is in
    else_is c.tree_is_within.result (rw c.get.ensures at c.tree_is_within.ensures) c.if-tree_is_within.false
    (λ p. (step.0 p).1)

pub returns-then-tree_is_within-2 : goal.returns-then-tree_is_within-2
returns-then-tree_is_within-2 t c =
    let step = divides_is c.args.levels c.args.tree.now (omega arith) c.in-Divides.form
    c.get-divisor.result
    c.in-Divides.above c.in-Divides.below
    (kept_divisor c.in-Divides.above c.in-Divides.below c.in-Divides.is c.get-divisor.ensures) in
    let fits : FitsSigned w128 c.get-divisor.result = search rules in
    then_is c.tree_is_within-in-Divides.result c.tree_is_within-then-tree_is_within-2.result
    (rw c.get-in-Divides.ensures at c.tree_is_within-in-Divides.ensures)
    (rw c.get-then-tree_is_within-2.ensures at c.tree_is_within-then-tree_is_within-2.ensures)
    c.if-tree_is_within-2.true (λ a b. step.1 ((c.form_fits-in-Divides.ensures, simp to_z-of_z at c.number_fits.ensures), a, b))
    (λ p. (step.0 p).2)

pub returns-else-tree_is_within-2 : goal.returns-else-tree_is_within-2
returns-else-tree_is_within-2 t c =
    let step = divides_is c.args.levels c.args.tree.now (omega arith) c.in-Divides.form
    c.get-divisor.result
    c.in-Divides.above c.in-Divides.below
    (kept_divisor c.in-Divides.above c.in-Divides.below c.in-Divides.is c.get-divisor.ensures) in
    else_is c.tree_is_within-in-Divides.result
    (rw c.get-in-Divides.ensures at c.tree_is_within-in-Divides.ensures) c.if-tree_is_within-2.false
    (λ p. (step.0 p).1)

pub returns-then-place_has_text : goal.returns-then-place_has_text
returns-then-place_has_text t c =
    let step = writer_is c.args.levels c.args.tree.now (omega arith) c.in-Writer.statement c.in-Writer.place
    c.in-Writer.proofs c.in-Writer.is in
    then_is c.place_has_text.result c.proofs_have_text.result
    (rw c.as_slice.ensures at c.place_has_text.ensures)
    (rw c.as_slice-then-place_has_text.ensures at c.proofs_have_text.ensures) c.if-place_has_text.true
    (λ a b. step.1 (a, b)) (λ p. (step.0 p).1)

pub returns-else-place_has_text : goal.returns-else-place_has_text
returns-else-place_has_text t c =
    let step = writer_is c.args.levels c.args.tree.now (omega arith) c.in-Writer.statement c.in-Writer.place
    c.in-Writer.proofs c.in-Writer.is in
    else_is c.place_has_text.result (rw c.as_slice.ensures at c.place_has_text.ensures) c.if-place_has_text.false
    (λ p. (step.0 p).0)

pub returns-in-Zero : goal.returns-in-Zero
returns-in-Zero t c =
    let step = zero_is c.args.levels c.args.tree.now (omega arith) c.in-Zero.proofs c.in-Zero.is in
    same_is c.proofs_have_text-in-Zero.result (rw c.as_slice-in-Zero.ensures at c.proofs_have_text-in-Zero.ensures)
    step.1 step.0

pub returns-in-Dead : goal.returns-in-Dead
returns-in-Dead t c =
    let step = dead_is c.args.levels c.args.tree.now (omega arith) c.in-Dead.proof c.in-Dead.is in
    same_is c.proof_is_within.result c.proof_is_within.ensures step.1 step.0
