-- The next test is asked: its yes and its no are the contexts below one answer more, so the trees below them are checked there,
-- and their Divides in the context here. Each answer adds two rows and a variable, and at most six tests have one.
use Rattle.std.proofs.Common.{◌≡◌, ◌+◌, ◌<◌, ◌∷◌, ◌++◌, [], length, false, refl, sym, ap, ◌∙◌, subst}
use Rattle.std.proofs.Common.{rules, arith, length-append}
use Rattle.std.specs.Prelude.{Some, slice_get}
use Rattle.std.proofs.lemmas.Int.{ints}
use Rattle.std.proofs.lemmas.Option.{slice_get_within}
use Rattle.std.proofs.lemmas.Result.{IfOk-weaker}
use Rattle.affine_core.specs.Affine.{widened_form}
use Rattle.last_writer.proofs.JointTrees.{answers_more, divides_checked, few_loops, few_rows, made_more, no_checked, no_in}
use Rattle.last_writer.proofs.JointTrees.{answers_no, small_at, vars_below}
use Rattle.tree_graphs.specs.Contexts.{IsMadeAs}
use Rattle.stride_trees.specs.Answers.{answered_context}
use Rattle.stride_trees.specs.Answers.{below_answer}
use Rattle.stride_trees.specs.Leaves.{context_of}
use Rattle.source_tree.specs.Checked.{IsCheckedIn}
use Rattle.source_tree.specs.Systems.{every, root_context}
use Rattle.source_tree.specs.References.{occurrence_of}
use Rattle.stride_trees.specs.Divisions.{always_divides}
use Rattle.last_writer.proofs.source.+answered.Goals as goal

-- All tests have an answer

pub answered-joined-requires-clause-all : goal.answered-joined-requires-clause-all
answered-joined-requires-clause-all t c = omega (arith, c.in_default.ensures, c.requires.answered.answers)

pub answered-joined-requires-clause-few : goal.answered-joined-requires-clause-few
answered-joined-requires-clause-few t c =
    let w = c.args.w.now in
    let h = c.requires.answered in
    omega (arith, c.requires.count, few_rows w h, h.few, h.answers)

-- The trees of both answers to the next test

pub answered-answered_next-requires : goal.answered-answered_next-requires
answered-answered_next-requires t c =
    (omega arith, (c.requires.answered, (c.requires.made, (c.requires.rows, (c.requires.count, c.in-Some.ensures)))))

pub answered-answered_next-requires-2 : goal.answered-answered_next-requires-2
answered-answered_next-requires-2 t c =
    (omega arith, (c.requires.answered, (c.requires.made, (c.requires.rows, (c.requires.count, c.in-Some.ensures)))))

pub answered-divides-requires-clause-wider : goal.answered-divides-requires-clause-wider
answered-divides-requires-clause-wider t c =
    let w = c.args.w.now in
    let h = c.requires.answered in
    omega (
      arith,
      vars_below w c.args.context.now h c.requires.made,
      (small_at w c.in-Some.test.now h c.in-Some.ensures).over,
    )

pub answered-divides-requires-clause-few : goal.answered-divides-requires-clause-few
answered-divides-requires-clause-few t c =
    let w = c.args.w.now in
    let h = c.requires.answered in
    omega (arith, vars_below w c.args.context.now h c.requires.made, few_loops w h, h.few, h.answers)

pub answered-returns-in-Ok : goal.answered-returns-in-Ok
answered-returns-in-Ok t c =
    let w = c.args.w.now in
    let h = c.requires.answered in
    let test = c.in-Some.test.now in
    IfOk-weaker c.divides.result _ _
    (λ tree is. divides_checked w test tree (widened_form c.args.context.now.vars test.form) c.in_ok-yes.yes c.in-Ok.no h
    c.in-Some.ensures is (ap (λ v. widened_form v test.form) (sym c.requires.made.vars)) c.in_ok-yes.ensures
    (rw c.in-Ok.is at c.answered_next-2.ensures)) c.divides.ensures

-- The tree below one answer more

pub answered_next-below_test-requires-clause-few : goal.answered_next-below_test-requires-clause-few
answered_next-below_test-requires-clause-few t c =
    let w = c.args.w.now in
    let h = c.requires.answered in
    omega (arith, vars_below w c.args.context.now h c.requires.made, few_loops w h, h.few, h.answers)

pub answered_next-below_test-requires-clause-test : goal.answered_next-below_test-requires-clause-test
answered_next-below_test-requires-clause-test t c =
    let w = c.args.w.now in
    let h = c.requires.answered in (
      length w.read.statement.now.loops,
      small_at w c.args.test.now h c.requires.test,
      omega (arith, vars_below w c.args.context.now h c.requires.made),
    )

pub answered_next-is_nowhere-requires : goal.answered_next-is_nowhere-requires
answered_next-is_nowhere-requires t c =
    omega (arith, ints, (small_at c.args.w.now c.args.test.now c.requires.answered c.requires.test).divisor)

pub answered_next-nowhere-requires-clause-test : goal.answered_next-nowhere-requires-clause-test
answered_next-nowhere-requires-clause-test t c =
    let w = c.args.w.now in
    (length w.read.statement.now.loops, small_at w c.args.test.now c.requires.answered c.requires.test)

pub answered_next-nowhere-requires-clause-always : goal.answered_next-nowhere-requires-clause-always
answered_next-nowhere-requires-clause-always t c =
    (answers_no c.args.answer (always_divides c.args.test.now) (sym c.is_nowhere.ensures ∙ c.if-is_nowhere.true)).1

pub answered_next-overflow_cast-before : goal.answered_next-overflow_cast-before
answered_next-overflow_cast-before t c =
    let w = c.args.w.now in
    let h = c.requires.answered in
    omega (arith, c.len-before.ensures, c.requires.count, few_rows w h, h.few, h.answers)

pub answered_next-nowhere-requires-clause-before : goal.answered_next-nowhere-requires-clause-before
answered_next-nowhere-requires-clause-before t c =
    let w = c.args.w.now in
    let h = c.requires.answered in
    omega (arith, c.len-before.ensures, c.requires.count, few_rows w h, h.few, h.answers)

pub answered_next-returns-then-is_nowhere : goal.answered_next-returns-then-is_nowhere
answered_next-returns-then-is_nowhere t c =
    let w = c.args.w.now in
    let test = c.args.test.now in
    let r = occurrence_of w.read in
    let no : c.args.answer ≡ false =
    (answers_no c.args.answer (always_divides test) (sym c.is_nowhere.ensures ∙ c.if-is_nowhere.true)).0 in
    IfOk-weaker c.nowhere.result _ _
    (λ tree checked. no_checked w test c.args.answer tree c.requires.test no
    (checked w.nest.now r _ (context_of w).vars
    (no_in w test c.args.context.now c.in_ok-next.next _ c.len-before.ensures c.requires.made
    (subst (λ answer. IsMadeAs c.in_ok-next.next (below_answer (context_of w) test answer)) no
    (c.in_ok-next.ensures.made (context_of w) c.requires.made)) c.in_ok-next.ensures.rows c.in_ok-next.ensures.count)))
    c.nowhere.ensures

pub answered_next-answered-requires : goal.answered_next-answered-requires
answered_next-answered-requires t c =
    let w = c.args.w.now in
    let h = c.requires.answered in
    let test = c.args.test.now in
    let answer = c.args.answer in
    let at : slice_get w.tests.now (length w.answers.now) ≡ Some test = c.requires.test in
    let within : length w.answers.now < length w.tests.now = slice_get_within w.tests.now (length w.answers.now) test at in
    let more : c.as_slice.result.now ≡ w.answers.now ++ answer ∷ [] = c.as_slice.ensures ∙ c.in_ok-answers.ensures in
    let one : length c.as_slice.result.now ≡ length w.answers.now + 1 =
    ap length more ∙ length-append w.answers.now (answer ∷ []) in (
      omega (arith, within, one),
      (
        answers_more w _ answer h within refl refl refl refl more refl,
        (
          made_more w c.as_slice.result.now test answer c.in_ok-next.next at more
              (c.in_ok-next.ensures.made (context_of w) c.requires.made),
          (
            c.in_ok-next.ensures.rows,
            omega (arith, c.in_ok-next.ensures.count, c.requires.count, one),
          ),
        ),
      ),
    )

pub answered_next-returns : goal.answered_next-returns
answered_next-returns t c =
    let w = c.args.w.now in
    let r = occurrence_of w.read in
    let more : c.as_slice.result.now ≡ w.answers.now ++ c.args.answer ∷ [] = c.as_slice.ensures ∙ c.in_ok-answers.ensures in
    IfOk-weaker c.answered.result _ _
    (λ tree. subst (λ answers. IsCheckedIn w.nest.now r every (answered_context (root_context r) w.tests.now answers) tree)
    more) c.answered.ensures
