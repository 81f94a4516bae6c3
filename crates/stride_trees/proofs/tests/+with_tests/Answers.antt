-- The tests are made from the last one on: the tree below a test stands in the context of its yes, which has one
-- variable and two rows more, and the leaf beside it in that of its no.
use Rattle.std.proofs.Common.{◌≡◌, ◌∷◌, [], length, sym, ap, subst, arith, rules}
use Rattle.std.specs.Prelude.{All, IfOk}
use Rattle.std.proofs.lemmas.List.{nil_from_length}
use Rattle.std.proofs.lemmas.List.Elements.{All-head, All-tail}
use Rattle.std.proofs.lemmas.Result.{IfOk-weaker}
use Rattle.stride_trees.specs.Strides.{IsTested, IsTestOf}
use Rattle.stride_trees.proofs.TestNodes.{form_small, room, tested_last, tested_next}
use Rattle.stride_trees.proofs.tests.+with_tests.Goals as goal

pub returns-in_default : goal.returns-in_default
returns-in_default t c =
    let none : c.args.divisions.now ≡ [] =
    nil_from_length c.args.divisions.now c.in_default.ensures.cases in
    subst (λ ds. IsTested c.args.s.now c.args.vars c.args.here ds c.args.tree c.args.tree) (sym none)
    (tested_last c.args.s.now c.args.vars c.args.here c.args.tree)

pub overflow_add-vars : goal.overflow_add-vars
overflow_add-vars t c = omega (arith, c.requires.few, (room c.args.s.now c.requires.strided).loops)

pub with_tests-requires : goal.with_tests-requires
with_tests-requires t c =
    let P = IsTestOf c.args.s.now in
    let d = c.in-Some.division.now in
    let ds = c.in-Some.divisions.now in
    let first : c.args.divisions.now ≡ d ∷ ds = search rules in (
      omega (arith, ap length first),
      (
        c.requires.strided,
        (
          All-tail P d ds (subst (All P) first c.requires.tests),
          (
            omega (arith, c.requires.vars),
            (
              omega (arith, c.requires.few, ap length first),
              omega (arith, c.requires.here, ap length first),
            ),
          ),
        ),
      ),
    )

pub no_leaf-requires-clause-test : goal.no_leaf-requires-clause-test
no_leaf-requires-clause-test t c =
    let P = IsTestOf c.args.s.now in
    let d = c.in-Some.division.now in
    let ds = c.in-Some.divisions.now in
    let first : c.args.divisions.now ≡ d ∷ ds = search rules in
    All-head P d ds (subst (All P) first c.requires.tests)

pub widened-form-requires-clause-wider : goal.widened-form-requires-clause-wider
widened-form-requires-clause-wider t c =
    let P = IsTestOf c.args.s.now in
    let d = c.in-Some.division.now in
    let ds = c.in-Some.divisions.now in
    let first : c.args.divisions.now ≡ d ∷ ds = search rules in
    let test : P d = All-head P d ds (subst (All P) first c.requires.tests) in
    omega (arith, (form_small c.args.s.now d c.requires.strided test).over, c.requires.vars)

pub widened-form-requires-clause-short : goal.widened-form-requires-clause-short
widened-form-requires-clause-short t c =
    omega (arith, c.requires.few, (room c.args.s.now c.requires.strided).loops)

pub returns-in-Ok : goal.returns-in-Ok
returns-in-Ok t c =
    let s = c.args.s.now in
    let P = IsTestOf s in
    let d = c.in-Some.division.now in
    let ds = c.in-Some.divisions.now in
    let first : c.args.divisions.now ≡ d ∷ ds = search rules in
    let test : P d = All-head P d ds (subst (All P) first c.requires.tests) in
    subst (λ all. IfOk c.divides.result (IsTested s c.args.vars c.args.here all c.args.tree)) (sym first)
    (IfOk-weaker c.divides.result _ _
    (λ tree is. tested_next s c.args.vars c.args.here d ds c.args.tree c.in_ok-above.above c.in-Ok.below tree
    c.widened-form.result c.requires.strided test c.requires.vars (omega (arith, c.requires.few, ap length first))
    c.in_ok-above.ensures (rw c.in-Ok.is at c.no_leaf.ensures) c.widened-form.ensures.form is) c.divides.ensures)
