use Rattle.std.proofs.Common.{◌≡◌, ◌^◌, ◌++◌, ◌∷◌, [], ℕ, refl, ap, ◌∙◌, subst, arith}
use Rattle.std.specs.Prelude.{Some, IfOk}
use Rattle.std.proofs.lemmas.Result.{IfOk-weaker}
use Rattle.affine_core.specs.declared.form.Form.{Form}
use Rattle.int_polyhedra.specs.declared.system.System.{System}
use Rattle.int_polyhedra.specs.Steps.{negation_of}
use Rattle.lex_max.specs.Answer.{IsAnswer}
use Rattle.tree_graphs.proofs.Small.{opposite_fits, opposite_form}
use Rattle.lex_max.proofs.TestTrees.{answer_test}
use Rattle.source_tree.specs.declared.tree.Tree.TheViews.{Test}
use Rattle.lex_max.proofs.decide.cycle_test.Goals as goal
use Rattle.tree_sums.proofs.Within.{IsWithin-weaker}

pub returns-in-Ok : goal.returns-in-Ok
returns-in-Ok c =
    let w = c.args.graph.now.writes in
    let context = c.args.context.now in
    let form = c.args.cycle.now.form in
    let one = c.requires.cycle in
    let no = c.in-Ok.no in
    let yes = c.args.yes in
    let other = opposite_form form in
    let other_is = opposite_fits form (IsWithin-weaker (2 ^ 40) (2 ^ 60) form (omega arith) one.within) in
    let below : System = record context { rows = context.rows ++ other ∷ [] } in
    let zero = subst (λ r. IfOk r (λ tree. (below : System) (row : Form) (tests : ℕ)
    → negation_of form ≡ Some row → below ≡ record context { rows = context.rows ++ row ∷ [] }
    → IsAnswer w below tests tree)) c.in-Ok.is c.zero_below.ensures in
    IfOk-weaker c.test.result _ _
    (λ tree is above m above_is answer.
    answer_test w context above below form other m yes no tree (is ∙ ap (λ f. Test f yes no) c.copy.ensures)
    (one.over) (IsWithin-weaker (2 ^ 40) (2 ^ 48) form (omega arith) one.within) other_is above_is refl answer
    (zero below other m other_is refl)) c.test.ensures
