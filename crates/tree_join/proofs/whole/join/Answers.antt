use Rattle.std.proofs.Common.{◌*◌, [], length, sym, ap, ◌∙◌, subst, arith}
use Rattle.std.specs.Prelude.{None}
use Rattle.std.specs.List.{range_with_len}
use Rattle.std.proofs.lemmas.Result.{IfOk-weaker}
use Rattle.tree_join.specs.Joining.{IsPathOf}
use Rattle.tree_join.proofs.PathStarts.{root_path}
use Rattle.tree_join.proofs.whole.join.Goals as goal

pub numbers-requires : goal.numbers-requires
numbers-requires c = omega (arith, c.in_ok-candidates.ensures.few, c.len.ensures)

pub tree_of-requires-clause-path : goal.tree_of-requires-clause-path
tree_of-requires-clause-path c =
    let r = c.args.read.now in
    let candidates = c.in_ok-candidates.candidates in
    let left = c.in_ok-left.left in
    subst (λ context. IsPathOf r c.as_slice.result.now context None [] left (70000 * length left) None)
    (sym c.in_ok-context.ensures)
    (subst (λ all. IsPathOf r all r.context.now None [] left (70000 * length left) None) (sym c.as_slice.ensures)
    (root_path r candidates left c.requires c.in_ok-candidates.ensures
    (c.in_ok-left.ensures ∙ ap (range_with_len 0) c.len.ensures)))

pub returns-clause-joined : goal.returns-clause-joined
returns-clause-joined c = IfOk-weaker c.tree_of.result _ _ (λ tree made. made.0) c.tree_of.ensures

pub returns-clause-low : goal.returns-clause-low
returns-clause-low c = IfOk-weaker c.tree_of.result _ _ (λ tree made. made.1) c.tree_of.ensures
