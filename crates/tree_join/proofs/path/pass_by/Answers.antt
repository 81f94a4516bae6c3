use Rattle.std.proofs.Common.{◌≡◌, ◌∙◌, get_or, refl, ap, arith}
use Rattle.std.specs.List.{filter}
use Rattle.std.specs.Prelude.{Some, slice_get}
use Rattle.std.proofs.lemmas.Option.{slice_get-get_or, slice_get_within}
use Rattle.tree_order.specs.Positions.{own_sums}
use Rattle.tree_join.specs.declared.path.Walk.{Walk}
use Rattle.tree_join.proofs.Advancing.{absent_on}
use Rattle.tree_join.proofs.PathSteps.{is_other}
use Rattle.tree_join.proofs.path.pass_by.Goals as goal

pub own_rows-requires : goal.own_rows-requires
own_rows-requires c = omega (arith, c.len.ensures, c.requires.way.1.0.context_is.few)

pub bounds-task-number : goal.bounds-task-number
bounds-task-number c = let a = c.requires.absent
    in slice_get_within c.args.task.now.candidates.now c.args.number a.0 a.1

pub returns : goal.returns
returns c =
    let task = c.args.task.now in
    let walk = c.args.walk.now in
    let number = c.args.number in
    let a = c.requires.absent in
    let new : Walk = record walk { seen = c.push.new.self; left = c.in_ok-walk.field-0 } in
    absent_on task walk new number c.requires.way c.requires.left refl
    (c.in_ok-walk.ensures ∙ ap (filter (is_other number)) c.as_slice.ensures) refl _ a.0
    (slice_get-get_or task.candidates.now number c.index-task-number.result
    (slice_get_within task.candidates.now number a.0 a.1)) a.1
    (c.in_ok-rows.ensures ∙ ap (own_sums 0) c.len.ensures) a.2 a.3 c.in_ok-push.ensures.ok
