use Rattle.std.proofs.Common.{◌+◌, ◌++◌, ◌∷◌, ◌<◌, [], sym, ap, ◌∙◌, subst, arith}
use Rattle.stride_trees.specs.Converted.{turns_left, IsConverting}
use Rattle.stride_trees.specs.Leaves.{Converts, IsJoinedBelow}
use Rattle.stride_trees.specs.declared.leaves.Open.TheVariants.{First}
use Rattle.stride_trees.specs.declared.leaves.Part.TheVariants.{Joined}
use Rattle.stride_trees.proofs.Opens.{at_leaf, down_test, low_at}
use Rattle.source_tree.proofs.Views.{kept_test}
use Rattle.stride_trees.proofs.leaves.down.Goals as goal

pub returns-in-Ok : goal.returns-in-Ok
returns-in-Ok c = λ whole h.
    let opens = c.args.opens.now in
    let all = c.push.new.self in
    subst (λ tree. IsConverting c.args.w.now c.args.rows whole all (Joined tree)
    × (turns_left all (Joined tree) < turns_left opens (Joined c.args.tree))) (sym c.into_inner.ensures)
    (down_test c.args.w.now c.args.rows whole opens all c.args.tree c.get-form.result c.in-Test.yes
    c.in-Test.no h
    (kept_test c.in-Test.yes c.in-Test.no c.in-Test.is c.get-form.ensures)
    (c.in-Ok.ensures.ok ∙ ap (λ below. opens ++ First c.get-form.result below ∷ []) c.into_inner-no.ensures))

pub overflow_cast-here : goal.overflow_cast-here
overflow_cast-here c =
    let h = c.requires.part in
    let low = low_at c.args.w.now c.args.rows h.0 c.args.opens.now c.args.tree h.1.0 h.1.1 in
    omega (arith, low.few, c.len.ensures)

pub overflow_add-here : goal.overflow_add-here
overflow_add-here c =
    let h = c.requires.part in
    let low = low_at c.args.w.now c.args.rows h.0 c.args.opens.now c.args.tree h.1.0 h.1.1 in
    omega (arith, low.few, c.len.ensures)

pub converted_leaf-requires-clause-here : goal.converted_leaf-requires-clause-here
converted_leaf-requires-clause-here c =
    let h = c.requires.part in
    let low = low_at c.args.w.now c.args.rows h.0 c.args.opens.now c.args.tree h.1.0 h.1.1 in
    omega (arith, low.few, c.len.ensures)

pub converted_leaf-requires-clause-leaf : goal.converted_leaf-requires-clause-leaf
converted_leaf-requires-clause-leaf c =
    let h = c.requires.part in
    let low = low_at c.args.w.now c.args.rows h.0 c.args.opens.now c.args.tree h.1.0 h.1.1 in (
      subst (λ n. IsJoinedBelow c.args.w.now (c.args.rows + n) c.args.tree) (sym c.len.ensures) low.joined,
      c.in_default.not-Test,
    )

pub returns : goal.returns
returns c = λ whole h.
    at_leaf c.args.w.now c.args.rows whole c.args.opens.now c.args.tree c.in_ok-converted_leaf-in_default.field-0 h
    (subst (λ n. Converts c.args.w.now (c.args.rows + n) c.args.tree c.in_ok-converted_leaf-in_default.field-0) c.len.ensures
    c.in_ok-converted_leaf-in_default.ensures)
