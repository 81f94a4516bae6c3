use Rattle.std.proofs.Common.{◌*◌, length, take, refl, sym, ap, ◌∙◌, subst, arith}
use Rattle.std.specs.Prelude.{All}
use Rattle.source_tree.specs.Checked.{AreRefuted}
use Rattle.source_tree.specs.Places.{cell_rows, domain_rows}
use Rattle.source_tree.specs.Systems.{Context}
use Rattle.tree_graphs.specs.Asked.{read_of, write_of}
use Rattle.lex_max.specs.Choices.{chosen_place}
use Rattle.lex_max.specs.Leaves.{AreOrderCerts, AreShown, IsLeafOf}
use Rattle.tree_graphs.specs.Simple.{IsLightSum}
use Rattle.tree_graphs.specs.Joint.{point_systems}
use Rattle.lex_max.proofs.LevelProofs.{cells_part, leaf_here, leaf_refuted, many, many_behind, order_part}
use Rattle.lex_max.proofs.LevelProofs.{outside_part, plain_here}
use Rattle.lex_max.proofs.LeafProofs.{plain_of}
use Rattle.tree_graphs.proofs.ProblemBounds.{writes_fit}
use Rattle.lex_max.proofs.Ready.{ready_of}
use Rattle.lex_max.proofs.leaf.leaf_proofs.Goals as goal

pub overflow_mul-cells : goal.overflow_mul-cells
overflow_mul-cells c =
    omega (arith, (writes_fit c.args.graph.now.writes).few_subscripts)

pub overflow_add-before : goal.overflow_add-before
overflow_add-before c =
    let f = writes_fit c.args.graph.now.writes in
    omega (arith, f.few_subscripts, f.few_rows)

pub front-requires : goal.front-requires
front-requires c =
    let r = c.requires in
    let all = many c.args.graph.now.writes c.args.graph.now.edges.now c.args.graph.now.bounds.now c.args.context.now
    c.args.choices.now c.args.certs.now (length c.args.graph.now.writes.rows.now) (2 * length
    c.args.graph.now.writes.write_forms.now)
    (ready_of c.args.graph.now) r.context r.chosen r.certs refl refl in
    omega (arith, all)

pub back-requires : goal.back-requires
back-requires c =
    let r = c.requires in
    let all = many c.args.graph.now.writes c.args.graph.now.edges.now c.args.graph.now.bounds.now c.args.context.now
    c.args.choices.now c.args.certs.now (length c.args.graph.now.writes.rows.now) (2 * length
    c.args.graph.now.writes.write_forms.now)
    (ready_of c.args.graph.now) r.context r.chosen r.certs refl refl in
    omega (arith, all)

pub front-requires-2 : goal.front-requires-2
front-requires-2 c =
    let r = c.requires in
    let all = many_behind c.args.graph.now.writes c.args.graph.now.edges.now c.args.graph.now.bounds.now
    c.args.context.now
    c.args.choices.now c.args.certs.now (length c.args.graph.now.writes.rows.now) (2 * length
    c.args.graph.now.writes.write_forms.now)
    (ready_of c.args.graph.now) r.context r.chosen r.certs refl refl in
    omega (arith, all, ap length c.back.ensures)

pub back-requires-2 : goal.back-requires-2
back-requires-2 c =
    let r = c.requires in
    let all = many c.args.graph.now.writes c.args.graph.now.edges.now c.args.graph.now.bounds.now c.args.context.now
    c.args.choices.now c.args.certs.now (length c.args.graph.now.writes.rows.now) (2 * length
    c.args.graph.now.writes.write_forms.now)
    (ready_of c.args.graph.now) r.context r.chosen r.certs refl refl in
    omega (arith, all)

pub push_after-requires-clause-certs : goal.push_after-requires-clause-certs
push_after-requires-clause-certs c =
    let r = c.requires in
    let w = c.args.graph.now.writes in
    let edges = c.args.graph.now.edges.now in
    let bounds = c.args.graph.now.bounds.now in
    let context = c.args.context.now in
    let choices = c.args.choices.now in
    let n = length w.rows.now in
    let m = 2 * length w.write_forms.now in
    let here = c.len-here.result in
    let leaf = plain_here w edges bounds context choices c.args.certs.now n m (ready_of c.args.graph.now) r.context
    r.chosen r.certs
    refl refl here c.len-here.ensures in (
      plain_of w context,
      context,
      chosen_place choices,
      subst (AreOrderCerts w here (plain_of w context) context (chosen_place choices)) (sym c.back-2.ensures)
          (order_part w edges bounds context choices c.args.certs.now n m (ready_of c.args.graph.now) r.context r.chosen
          r.certs
          refl refl (plain_of w context) here leaf),
    )

pub push_after-requires-clause-here : goal.push_after-requires-clause-here
push_after-requires-clause-here c = omega (arith, c.requires.context.few, c.len-here.ensures)

pub push_between-requires-clause-chosen : goal.push_between-requires-clause-chosen
push_between-requires-clause-chosen c = (c.args.context.now, c.requires.chosen)

pub push_between-requires-clause-here : goal.push_between-requires-clause-here
push_between-requires-clause-here c = omega (arith, c.requires.context.few, c.len-here.ensures)

both : (c : goal.In_ok-push_between) (cx : Context)
    → IsLeafOf c.args.graph.now.writes cx c.args.context.now (chosen_place c.args.choices.now) c.len-here.result
    → AreRefuted (point_systems (read_of c.args.graph.now.writes) (write_of c.args.graph.now.writes)
    c.args.graph.now.writes.level cx
    (chosen_place c.args.choices.now))
    c.push_between.new.proofs × All IsLightSum c.push_between.new.proofs
both c cx leaf =
    let r = c.requires in
    let w = c.args.graph.now.writes in
    let edges = c.args.graph.now.edges.now in
    let bounds = c.args.graph.now.bounds.now in
    let context = c.args.context.now in
    let choices = c.args.choices.now in
    let certs = c.args.certs.now in
    let place = chosen_place choices in
    let n = length w.rows.now in
    let m = 2 * length w.write_forms.now in
    let f = writes_fit w in
    let rows = w.rows.now in
    let writes = w.write_forms.now in
    let reads = w.read_forms.now in
    let here = c.len-here.result in
    leaf_refuted w cx place c.new-proofs.result c.push_outside.new.proofs c.push_cell.new.proofs c.push_after.new.proofs
    c.push_between.new.proofs c.new-proofs.ensures
    (c.in_ok-push_outside.ensures cx context place rows leaf f.rows
    (subst (AreShown context (domain_rows rows place)) (sym c.front.ensures)
    (outside_part w edges bounds context choices certs n m (ready_of c.args.graph.now) r.context r.chosen r.certs refl
    refl)))
    (c.in_ok-push_cell.ensures cx context place writes reads leaf f.cells
    (subst (AreShown context (cell_rows writes reads place)) (sym (c.front-2.ensures ∙ ap (take m) c.back.ensures))
    (cells_part w edges bounds context choices certs n m (ready_of c.args.graph.now) r.context r.chosen r.certs refl
    refl)))
    (c.in_ok-push_after.ensures cx context place
    (subst (AreOrderCerts w here cx context place) (sym c.back-2.ensures)
    (order_part w edges bounds context choices certs n m (ready_of c.args.graph.now) r.context r.chosen r.certs refl
    refl
    cx here leaf)))
    (c.in_ok-push_between.ensures cx context leaf)

pub returns-clause-refuted : goal.returns-clause-refuted
returns-clause-refuted c cx vars_is rows_is =
    let r = c.requires in
    (both c cx
    (leaf_here c.args.graph.now.writes c.args.graph.now.edges.now c.args.graph.now.bounds.now c.args.context.now
    c.args.choices.now
    c.args.certs.now (length c.args.graph.now.writes.rows.now) (2 * length c.args.graph.now.writes.write_forms.now)
    (ready_of c.args.graph.now) r.context
    r.chosen r.certs refl refl cx c.len-here.result c.len-here.ensures vars_is rows_is)).0

pub returns-clause-light : goal.returns-clause-light
returns-clause-light c =
    let r = c.requires in
    (both c (plain_of c.args.graph.now.writes c.args.context.now)
    (plain_here c.args.graph.now.writes c.args.graph.now.edges.now c.args.graph.now.bounds.now c.args.context.now
    c.args.choices.now c.args.certs.now (length c.args.graph.now.writes.rows.now)
    (2 * length c.args.graph.now.writes.write_forms.now) (ready_of c.args.graph.now) r.context r.chosen r.certs
    refl refl c.len-here.result c.len-here.ensures)).1
