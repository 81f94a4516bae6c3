use Rattle.std.proofs.Common.{rules, ◌∙◌, sym, ap, length, true, false, ℤ, FitsSigned}
use Rattle.std.proofs.Common.{to_z, of_z, arith}
use Rattle.std.proofs.Common.{List}
use Rattle.std.specs.Int.{w128}
use Rattle.std.proofs.lemmas.Int.{ints, to_z-of_z}
use Rattle.source_tree.specs.declared.tree.Tree.TheViews.{the_lemmas}
use Rattle.source_tree.specs.Walk.{is_ready, are_over}
use Rattle.source_tree.proofs.WalkOutcomes.{ready_test, ready_divides, ready_writer, test_taken, test_none, divides_taken}
use Rattle.source_tree.proofs.WalkOutcomes.{divides_none, more_ready, writer_some, writer_none, walked_zero, walked_dead}
use Rattle.source_tree.proofs.Views.{kept_divisor}
use Rattle.source_tree.proofs.walk.+follow.Goals as goal

pub eval-requires : goal.eval-requires
eval-requires t c =
    (ready_test c.requires.0
    (length c.args.values.now) c.args.tree.now c.in-Test.form c.in-Test.yes c.in-Test.no
    c.in-Test.is c.requires.2).0
    ∙ sym (ap length c.as_slice.ensures.value)

pub follow-requires : goal.follow-requires
follow-requires t c = (
  search (rules, the_lemmas),
  (
    c.requires.0,
    c.requires.1,
    ap (λ p. is_ready c.requires.0 p (length c.args.values.now)) c.get.ensures
        ∙ (ready_test c.requires.0 (length c.args.values.now) c.args.tree.now c.in-Test.form c.in-Test.yes
        c.in-Test.no
        c.in-Test.is c.requires.2).1,
  ),
)

pub follow-requires-else-value-ge0 : goal.follow-requires-else-value-ge0
follow-requires-else-value-ge0 t c = (
  search (rules, the_lemmas),
  (
    c.requires.0,
    c.requires.1,
    ap (λ p. is_ready c.requires.0 p (length c.args.values.now)) c.get-else-value-ge0.ensures
        ∙ (ready_test c.requires.0 (length c.args.values.now) c.args.tree.now c.in-Test.form c.in-Test.yes
        c.in-Test.no
        c.in-Test.is c.requires.2).2,
  ),
)

pub returns-then-value-ge0 : goal.returns-then-value-ge0
returns-then-value-ge0 t c =
    let fits : FitsSigned w128 c.in-Ok.value = search rules in
    test_taken c.args.values.now c.as_slice.result.now c.args.tree.now c.in-Test.form c.in-Test.yes c.in-Test.no
    c.get.result.now c.in-Ok.value true _
    c.in-Test.is
    c.as_slice.ensures.value c.in-Ok.ensures.exact
    (simp to_z-of_z at c.if-value-ge0.true) c.get.ensures c.follow.ensures

pub returns-else-value-ge0 : goal.returns-else-value-ge0
returns-else-value-ge0 t c =
    let fits : FitsSigned w128 c.in-Ok.value = search rules in
    test_taken c.args.values.now c.as_slice.result.now c.args.tree.now c.in-Test.form c.in-Test.yes c.in-Test.no
    c.get-else-value-ge0.result.now c.in-Ok.value false _
    c.in-Test.is
    c.as_slice.ensures.value c.in-Ok.ensures.exact
    (simp to_z-of_z at c.if-value-ge0.false) c.get-else-value-ge0.ensures c.follow-else-value-ge0.ensures

pub returns-in-Err : goal.returns-in-Err
returns-in-Err t c = test_none c.args.values.now c.as_slice.result.now c.args.tree.now c.in-Test.form
    c.in-Test.yes c.in-Test.no
    c.in-Test.is
    c.as_slice.ensures.value c.in-Err.ensures.exact

pub eval-requires-in-Divides : goal.eval-requires-in-Divides
eval-requires-in-Divides t c =
    (ready_divides c.requires.0
    (length c.args.values.now) c.args.tree.now c.in-Divides.form c.in-Divides.divisor c.in-Divides.yes
    c.in-Divides.no
    c.in-Divides.is c.requires.2).0 ∙ sym
    (ap length c.as_slice-in-Divides.ensures.value)

pub push_quotient-requires-clause-room : goal.push_quotient-requires-clause-room
push_quotient-requires-clause-room t c =
    omega (
      arith,
      c.requires.1,
      (ready_divides c.requires.0 (length c.args.values.now) c.args.tree.now c.in-Divides.form
          c.get-divisor.result c.in-Divides.yes c.in-Divides.no
          (kept_divisor c.in-Divides.yes c.in-Divides.no c.in-Divides.is c.get-divisor.ensures)
          c.requires.2).2,
    )

pub push_quotient-requires-clause-divisor : goal.push_quotient-requires-clause-divisor
push_quotient-requires-clause-divisor t c =
    let fits : FitsSigned w128 c.get-divisor.result = search rules in
    omega (
      arith,
      ints,
      to_z-of_z w128 c.get-divisor.result fits,
      (ready_divides c.requires.0 (length c.args.values.now) c.args.tree.now c.in-Divides.form
          c.get-divisor.result
          c.in-Divides.yes c.in-Divides.no
          (kept_divisor c.in-Divides.yes c.in-Divides.no c.in-Divides.is c.get-divisor.ensures)
          c.requires.2).1,
    )

pub is_divided-requires : goal.is_divided-requires
is_divided-requires t c =
    let fits : FitsSigned w128 c.get-divisor.result = search rules in
    omega (
      arith,
      ints,
      to_z-of_z w128 c.get-divisor.result fits,
      (ready_divides c.requires.0 (length c.args.values.now) c.args.tree.now c.in-Divides.form
          c.get-divisor.result
          c.in-Divides.yes c.in-Divides.no
          (kept_divisor c.in-Divides.yes c.in-Divides.no c.in-Divides.is c.get-divisor.ensures)
          c.requires.2).1,
    )

pub follow-requires-then-is_divided : goal.follow-requires-then-is_divided
follow-requires-then-is_divided t c = (
  search (rules, the_lemmas),
  (
    c.requires.0,
    c.requires.1,
    more_ready c.requires.0 c.args.values.now c.push_quotient.new.values (to_z w128 (of_z w128 c.in-Ok-eval.value))
        (to_z w128 (of_z w128 c.get-divisor.result)) _ c.in-Divides.yes c.get-then-is_divided.ensures
        c.push_quotient.ensures
        (ready_divides c.requires.0
        (length c.args.values.now) c.args.tree.now c.in-Divides.form c.get-divisor.result
        c.in-Divides.yes c.in-Divides.no
        (kept_divisor c.in-Divides.yes c.in-Divides.no c.in-Divides.is c.get-divisor.ensures) c.requires.2).3,
  ),
)

pub follow-requires-else-is_divided : goal.follow-requires-else-is_divided
follow-requires-else-is_divided t c = (
  search (rules, the_lemmas),
  (
    c.requires.0,
    c.requires.1,
    more_ready c.requires.0 c.args.values.now c.push_quotient.new.values (to_z w128 (of_z w128 c.in-Ok-eval.value))
        (to_z w128 (of_z w128 c.get-divisor.result)) _ c.in-Divides.no c.get-else-is_divided.ensures
        c.push_quotient.ensures
        (ready_divides c.requires.0
        (length c.args.values.now) c.args.tree.now c.in-Divides.form c.get-divisor.result
        c.in-Divides.yes c.in-Divides.no
        (kept_divisor c.in-Divides.yes c.in-Divides.no c.in-Divides.is c.get-divisor.ensures) c.requires.2).4,
  ),
)

pub returns-then-is_divided : goal.returns-then-is_divided
returns-then-is_divided t c =
    let fits : FitsSigned w128 c.get-divisor.result = search rules in
    let fits' : FitsSigned w128 c.in-Ok-eval.value = search rules in
    divides_taken c.args.values.now c.as_slice-in-Divides.result.now c.push_quotient.new.values c.args.tree.now
    c.in-Divides.form c.get-divisor.result _ c.in-Divides.yes c.in-Divides.no
    c.get-then-is_divided.result.now
    c.in-Ok-eval.value _ c.is_divided.result true _
    (kept_divisor c.in-Divides.yes c.in-Divides.no c.in-Divides.is c.get-divisor.ensures)
    c.as_slice-in-Divides.ensures.value
    c.in-Ok-eval.ensures.exact
    (to_z-of_z w128 c.in-Ok-eval.value fits')
    (to_z-of_z w128 c.get-divisor.result fits) c.push_quotient.ensures
    c.is_divided.ensures c.if-is_divided.true c.get-then-is_divided.ensures c.follow-then-is_divided.ensures

pub returns-else-is_divided : goal.returns-else-is_divided
returns-else-is_divided t c =
    let fits : FitsSigned w128 c.get-divisor.result = search rules in
    let fits' : FitsSigned w128 c.in-Ok-eval.value = search rules in
    divides_taken c.args.values.now c.as_slice-in-Divides.result.now c.push_quotient.new.values c.args.tree.now
    c.in-Divides.form c.get-divisor.result _ c.in-Divides.yes c.in-Divides.no
    c.get-else-is_divided.result.now
    c.in-Ok-eval.value _ c.is_divided.result false _
    (kept_divisor c.in-Divides.yes c.in-Divides.no c.in-Divides.is c.get-divisor.ensures)
    c.as_slice-in-Divides.ensures.value
    c.in-Ok-eval.ensures.exact
    (to_z-of_z w128 c.in-Ok-eval.value fits')
    (to_z-of_z w128 c.get-divisor.result fits) c.push_quotient.ensures
    c.is_divided.ensures c.if-is_divided.false c.get-else-is_divided.ensures c.follow-else-is_divided.ensures

pub returns-in-Err-eval : goal.returns-in-Err-eval
returns-in-Err-eval t c =
    divides_none c.args.values.now c.as_slice-in-Divides.result.now c.args.tree.now c.in-Divides.form
    c.in-Divides.divisor
    c.in-Divides.yes c.in-Divides.no
    c.in-Divides.is
    c.as_slice-in-Divides.ensures.value c.in-Err-eval.ensures.exact

pub returns-in-Err-append_mapped : goal.returns-in-Err-append_mapped
returns-in-Err-append_mapped t c =
    writer_none c.args.values.now c.as_slice-in-Writer-2.result.now c.args.tree.now c.in-Writer.statement c.in-Writer.forms
    c.as_slice-in-Writer.result.now c.in-Writer.field-2 c.in-Writer.is
    c.as_slice-in-Writer-2.ensures.value c.as_slice-in-Writer.ensures c.in-Err-append_mapped.ensures

pub returns-in-Ok-append_mapped : goal.returns-in-Ok-append_mapped
returns-in-Ok-append_mapped t c =
    writer_some c.args.values.now c.as_slice-in-Writer-2.result.now c.empty-at.result c.append_mapped.new.out
    c.args.tree.now c.in-Writer.statement c.in-Writer.forms c.as_slice-in-Writer.result.now c.in-Writer.field-2
    c.in-Writer.is
    c.as_slice-in-Writer-2.ensures.value c.as_slice-in-Writer.ensures c.empty-at.ensures c.in-Ok-append_mapped.ensures

pub append_mapped-requires-clause-room : goal.append_mapped-requires-clause-room
append_mapped-requires-clause-room t c =
    omega (
      arith,
      ap length c.empty-at.ensures,
      ap length c.as_slice-in-Writer.ensures,
      (ready_writer c.requires.0
          (length c.args.values.now) c.args.tree.now c.in-Writer.statement c.in-Writer.forms c.in-Writer.field-2
          c.in-Writer.is c.requires.2).0,
    )

pub append_mapped-requires-clause-over : goal.append_mapped-requires-clause-over
append_mapped-requires-clause-over t c =
    ap (λ (values : List ℤ).
    are_over (length values) c.as_slice-in-Writer.result.now) c.as_slice-in-Writer-2.ensures.value
    ∙ ap (are_over (length c.args.values.now)) c.as_slice-in-Writer.ensures
    ∙ (ready_writer c.requires.0
    (length c.args.values.now) c.args.tree.now c.in-Writer.statement c.in-Writer.forms c.in-Writer.field-2 c.in-Writer.is
    c.requires.2).1

pub returns-in-Zero : goal.returns-in-Zero
returns-in-Zero t c = sym (walked_zero c.args.values.now c.args.tree.now _ c.in-Zero.is)

pub returns-in-Dead : goal.returns-in-Dead
returns-in-Dead t c = sym (walked_dead c.args.values.now c.args.tree.now _ c.in-Dead.is)
