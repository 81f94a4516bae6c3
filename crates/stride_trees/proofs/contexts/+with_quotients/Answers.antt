-- Each test is small over the reader's loops, so the context below its yes is as small as the one before.
use Rattle.std.proofs.Common.{◌≡◌, ◌∷◌, sym, ap, subst, rules, arith, length}
use Rattle.std.specs.Prelude.{All}
use Rattle.std.proofs.lemmas.List.{nil_from_length}
use Rattle.std.proofs.lemmas.List.Elements.{All-head, All-tail}
use Rattle.std.proofs.lemmas.Result.{IfOk-weaker}
use Rattle.affine_core.specs.Affine.{widened_form}
use Rattle.tree_graphs.specs.Contexts.{IsMadeAs}
use Rattle.source_tree.specs.Systems.{divides_yes}
use Rattle.stride_trees.specs.Divisions.{divided_context}
use Rattle.stride_trees.specs.Strides.{depth_of_read, IsTestOf}
use Rattle.stride_trees.proofs.TestNodes.{small_test}
use Rattle.stride_trees.proofs.contexts.+with_quotients.Goals as goal

pub returns-in_default : goal.returns-in_default
returns-in_default t c = (
  c.requires.rows,
  λ cx made. subst (λ ds. IsMadeAs c.args.context (divided_context cx ds))
      (sym (nil_from_length c.args.divisions.now c.in_default.ensures.cases)) made,
)

pub below_test-requires-clause-test : goal.below_test-requires-clause-test
below_test-requires-clause-test t c =
    let s = c.args.s.now in
    let P = IsTestOf s in
    let d = c.in-Some.division.now in
    let ds = c.in-Some.divisions.now in
    let first : c.args.divisions.now ≡ d ∷ ds = search rules in (
      depth_of_read s,
      small_test s d c.requires.strided (All-head P d ds (subst (All P) first c.requires.tests)),
      c.requires.reader,
    )

pub with_quotients-requires : goal.with_quotients-requires
with_quotients-requires t c =
    let P = IsTestOf c.args.s.now in
    let d = c.in-Some.division.now in
    let ds = c.in-Some.divisions.now in
    let first : c.args.divisions.now ≡ d ∷ ds = search rules in (
      omega (arith, ap length first),
      (
        c.requires.strided,
        (
          All-tail P d ds (subst (All P) first c.requires.tests),
          (
            omega (arith, c.in_ok-next.ensures.vars, c.requires.reader),
            (omega (arith, c.in_ok-next.ensures.vars, c.requires.few, ap length first), c.in_ok-next.ensures.rows),
          ),
        ),
      ),
    )

pub returns : goal.returns
returns t c =
    let d = c.in-Some.division.now in
    let first : c.args.divisions.now ≡ d ∷ c.in-Some.divisions.now = search rules in
    IfOk-weaker c.with_quotients.result _ _
    (λ last h. (
      h.0,
      λ cx made. subst (λ ds. IsMadeAs last (divided_context cx ds)) (sym first)
          (h.1 (divides_yes cx (widened_form cx.vars d.form) d.divisor) (c.in_ok-next.ensures.made cx made)),
    ))
    c.with_quotients.ensures
