use Rattle.std.proofs.Common.{refl, sym, ap, subst, ◌∙◌}
use Rattle.std.proofs.lemmas.Result.{IfOk-weaker}
use Rattle.tree_join.specs.Walking.{turns_of_frame, GoesOn, IsClosing}
use Rattle.std.specs.Prelude.{◌+◌, sum_by}
use Rattle.tree_join.specs.declared.path.Step.TheVariants.{Made}
use Rattle.tree_join.specs.declared.path.Walk.{Walk}
use Rattle.tree_order.specs.Reads.{pairs_of}
use Rattle.int_polyhedra.specs.declared.system.System.{System}
use Rattle.std.specs.Prelude.{length}
use Rattle.tree_trim.specs.Sides.{AreJoinedSides}
use Rattle.tree_trim.specs.Trees.{branch_or_test}
use Rattle.tree_join.proofs.Turning.{closed, test_made}
use Rattle.tree_join.proofs.path.close.Goals as goal

pub first_made-requires : goal.first_made-requires
first_made-requires c = subst (λ frame. IsClosing c.args.task.now c.args.walk.now frame c.args.tree) c.in-First.is c.requires

pub returns-in-First : goal.returns-in-First
returns-in-First c =
    IfOk-weaker c.first_made.result _ _
    (λ step. subst (λ frame. GoesOn c.args.task.now
    (turns_of_frame frame + sum_by turns_of_frame c.args.walk.now.frames) c.first_made.new.walk step) (sym c.in-First.is))
    c.first_made.ensures

pub last_row-requires : goal.last_row-requires
last_row-requires c = let h = c.requires in (h.context, h.row, h.context_is)

pub returns-in_ok-made-in-Second : goal.returns-in_ok-made-in-Second
returns-in_ok-made-in-Second c =
    let h = subst (λ frame. IsClosing c.args.task.now c.args.walk.now frame c.args.tree) c.in-Second.is c.requires in
    let last = c.last_row.ensures h.context h.row h.context_is in
    let new : Walk = record c.args.walk.now { context = c.last_row.new.context } in
    let tree = c.in_ok-made-in-Second.made in
    subst (λ frame. GoesOn c.args.task.now (turns_of_frame frame + sum_by turns_of_frame c.args.walk.now.frames) new
    (Made tree)) (sym c.in-Second.is)
    (closed c.args.task.now c.args.walk.now new c.in-Second.form c.in-Second.yes c.args.tree tree h
    (test_made c.args.task.now c.args.walk.now c.in-Second.form c.in-Second.yes c.args.tree tree h
    (c.in_ok-made-in-Second.ensures.tree ∙ ap (λ (s : System). branch_or_test (length s.rows) c.in-Second.form c.in-Second.yes c.args.tree) last.0)
    (λ sides. c.in_ok-made-in-Second.ensures.joined (pairs_of c.args.task.now.read.now) h.context
    (subst (λ (s : System). AreJoinedSides (pairs_of c.args.task.now.read.now) h.context (length s.rows) c.in-Second.form c.in-Second.yes
    c.args.tree) (sym last.0) sides))) last.0 refl refl)
