use Rattle.std.proofs.Common.{◌≡◌, ◌+◌, ◌++◌, ◌∷◌, ◌<◌, ◌∙◌, [], length, sym, refl, ap, subst, arith}
use Rattle.std.specs.Prelude.{Some}
use Rattle.std.proofs.lemmas.Result.{IfOk-weaker}
use Rattle.tree_graphs.specs.Heights.{height_of}
use Rattle.tree_order.specs.Positions.{IsAt, IsNode}
use Rattle.tree_order.specs.Seen.{absent_at, best_in, sightings_of}
use Rattle.tree_order.specs.declared.seen.Position.{Position}
use Rattle.tree_graphs.proofs.Heights.{height_sides}
use Rattle.tree_graphs.proofs.Nodes.{simple_kinds}
use Rattle.tree_join.specs.Walking.{height, most_turns}
use Rattle.tree_join.specs.declared.path.Next.TheVariants.{Follow}
use Rattle.tree_join.proofs.Advancing.{zero_on}
use Rattle.tree_join.proofs.Moves.{above_within, below_over, below_within, ready_side}
use Rattle.tree_join.proofs.Sides.{followed_form, followed_sides, is_at_from, point_here}
use Rattle.tree_join.proofs.PathSteps.{path_context, path_context_less, path_less}
use Rattle.tree_join.proofs.Walks.{turns_both, turns_most}
use Rattle.tree_join.proofs.NoCandidate.{zero_sum}
use Rattle.int_polyhedra.specs.declared.system.Proof.TheVariants.{Sum}
use Rattle.tree_graphs.specs.Paths.{term_of}
use Rattle.source_tree.specs.declared.tree.Tree.TheVariants.{Zero}
use Rattle.source_tree.proofs.Views.{kept_test}
use Rattle.tree_join.proofs.path.follow_on.Goals as goal

pub invariant_of-here : goal.invariant_of-here
invariant_of-here c =
    let path = c.requires.1.0 in
    record { fits = path_context c.args.task.now.read.now c.args.walk.now.context _ path.read path.context_is }

pub follow-requires : goal.follow-requires
follow-requires c = (c.args.at.candidate.now, c.requires.1.1.node)

pub ask-requires-clause-frames : goal.ask-requires-clause-frames
ask-requires-clause-frames c = c.requires.0

pub ask-requires-clause-sides : goal.ask-requires-clause-sides
ask-requires-clause-sides c =
    let task = c.args.task.now in
    let walk = c.args.walk.now in
    let r = task.read.now in
    let context = walk.context in
    let at = c.args.at in
    let candidate = at.candidate.now in
    let path = c.requires.1.0 in
    let node = c.in_ok-node.field-0.node in
    let rows = c.in_ok-node.field-0.rows in
    let above = c.in_ok-above-in-Test.above in
    let below = c.in_ok-below-in-Test.below in
    let here = length context.rows in
    let rows_above : above.rows ≡ rows ++ (term_of here ∷ []) ∷ [] =
    c.in_ok-above-in-Test.ensures.rows ∙ ap (λ xs. xs ++ (term_of c.len-here.result ∷ []) ∷ []) c.as_slice.ensures
    ∙ ap (λ n. rows ++ (term_of n ∷ []) ∷ []) c.len-here.ensures in
    let rows_below : below.rows ≡ rows ++ (term_of here ∷ []) ∷ [] =
    c.in_ok-below-in-Test.ensures.rows ∙ ap (λ xs. xs ++ (term_of c.len-here.result ∷ []) ∷ []) c.as_slice-in-Test.ensures
    ∙ ap (λ n. rows ++ (term_of n ∷ []) ∷ []) c.len-here.ensures in
    let is_node = c.in_ok-node.ensures.node candidate c.requires.1.1.node in
    let sides = followed_sides r context candidate node.now rows c.get-form.result c.in-Test.yes c.in-Test.no
    (kept_test c.in-Test.yes c.in-Test.no c.in-Test.is c.get-form.ensures)
    c.requires.1.1.candidate is_node above below c.in_ok-above-in-Test.ensures.candidate c.in_ok-below-in-Test.ensures.candidate
    (c.in_ok-above-in-Test.ensures.node ∙ c.get.ensures) (c.in_ok-below-in-Test.ensures.node ∙ c.get-in-Test.ensures) rows_above rows_below in
    let test = followed_form r context candidate node.now rows c.get-form.result c.in-Test.yes c.in-Test.no
    (kept_test c.in-Test.yes c.in-Test.no c.in-Test.is c.get-form.ensures)
    c.requires.1.1.candidate is_node in
    let low = height_sides node.now c.get-form.result c.in-Test.yes c.in-Test.no
    (kept_test c.in-Test.yes c.in-Test.no c.in-Test.is c.get-form.ensures) in
    let low_above : height_of above.node.now < height_of at.node.now =
    omega (arith, ap height_of (c.in_ok-above-in-Test.ensures.node ∙ c.get.ensures), low.0, c.in_ok-node.ensures.lower) in
    let low_below : height_of below.node.now < height_of at.node.now =
    omega (arith, ap height_of (c.in_ok-below-in-Test.ensures.node ∙ c.get-in-Test.ensures), low.1, c.in_ok-node.ensures.lower) in
    (record {
      test = test;
      above = ready_side r task.candidates.now context walk.seen walk.left (Follow at) (Follow above)
          c.get-form.result path
          (omega (arith, low_above)) (ap Some c.in_ok-above-in-Test.ensures.candidate) test.over
          (above_within context c.get-form.result test) sides.0;
      below = λ other negated. ready_side r task.candidates.now context walk.seen walk.left (Follow at) (Follow below) other
          path (omega (arith, low_below)) (ap Some c.in_ok-below-in-Test.ensures.candidate)
          (below_over context c.get-form.result other test negated)
          (below_within context c.get-form.result other test negated)
          (sides.1 other negated);
    })

pub returns-in-Test : goal.returns-in-Test
returns-in-Test c =
    let at = c.args.at in
    let n = length c.args.walk.now.left in
    let node = c.in_ok-node.field-0.node in
    let low = height_sides node.now c.get-form.result c.in-Test.yes c.in-Test.no
    (kept_test c.in-Test.yes c.in-Test.no c.in-Test.is c.get-form.ensures) in
    let above = c.in_ok-above-in-Test.above in
    let below = c.in_ok-below-in-Test.below in
    let low_above : height_of above.node.now < height_of at.node.now =
    omega (arith, ap height_of (c.in_ok-above-in-Test.ensures.node ∙ c.get.ensures), low.0, c.in_ok-node.ensures.lower) in
    let low_below : height_of below.node.now < height_of at.node.now =
    omega (arith, ap height_of (c.in_ok-below-in-Test.ensures.node ∙ c.get-in-Test.ensures), low.1, c.in_ok-node.ensures.lower) in
    IfOk-weaker c.ask.result _ _
    (λ step told. told (most_turns (height n (Follow at)))
    (turns_both (height n (Follow above)) (height n (Follow below)) (height n (Follow at)) (omega (arith, low_above))
    (omega (arith, low_below)))) c.ask.ensures

pub absence_at-requires : goal.absence_at-requires
absence_at-requires c =
    let r = c.args.task.now.read.now in
    let context = c.args.walk.now.context in
    let path = c.requires.1.0 in
    let own = path_context_less r.context.now.vars _ 0 context (omega arith) path.context_is in
    let at : Position = record {
      candidate = c.args.at.candidate;
      node = c.in_ok-node.field-0.node;
      rows = c.in_ok-node.field-0.rows;
    } in
    let at_is : IsAt r context at = record {
      candidate = c.requires.1.1.candidate;
      node = c.in_ok-node.ensures.node c.args.at.candidate.now c.requires.1.1.node;
    } in
    let one = zero_sum r context own at at_is c.in-Zero.proofs c.in-Zero.is in
    (one.terms, c.as_slice-in-Zero.ensures ∙ one.is)

pub returns-in-Zero : goal.returns-in-Zero
returns-in-Zero c =
    let task = c.args.task.now in
    let walk = c.args.walk.now in
    let r = task.read.now in
    let context = walk.context in
    let path = c.requires.1.0 in
    let own = path_context_less r.context.now.vars _ 0 context (omega arith) path.context_is in
    let at : Position = record {
      candidate = c.args.at.candidate;
      node = c.in_ok-node.field-0.node;
      rows = c.in_ok-node.field-0.rows;
    } in
    let at_is : IsAt r context at = record {
      candidate = c.requires.1.1.candidate;
      node = c.in_ok-node.ensures.node c.args.at.candidate.now c.requires.1.1.node;
    } in
    let one = zero_sum r context own at at_is c.in-Zero.proofs c.in-Zero.is in
    let absence = c.in_ok-absence-in-Zero.absence in
    let told = c.in_ok-absence-in-Zero.ensures in
    let terms = told.terms one.terms (c.as_slice-in-Zero.ensures ∙ one.is) in
    let absent : IsAt r context (absent_at absence) =
    is_at_from r context (absent_at absence) at.candidate.now (Zero (Sum one.terms ∷ [])) at.rows told.candidate
    (ap (λ ts. Zero (Sum ts ∷ [])) terms) told.rows at_is.candidate
    (subst (λ node. IsNode context at.candidate.now node at.rows) (c.in-Zero.is ∙ ap Zero one.is) at_is.node) in
    zero_on task walk (record walk { seen = c.push.new.self }) refl refl refl c.args.at (absent_at absence) c.requires (sym told.candidate) absent absence refl
    c.in_ok-push-in-Zero.ensures.ok

pub arrive-requires-clause-way : goal.arrive-requires-clause-way
arrive-requires-clause-way c =
    let task = c.args.task.now in
    let walk = c.args.walk.now in
    let r = task.read.now in
    let context = walk.context in
    let at : Position = record {
      candidate = c.args.at.candidate;
      node = c.in_ok-node.field-0.node;
      rows = c.in_ok-node.field-0.rows;
    } in
    let at_is : IsAt r context at = record {
      candidate = c.requires.1.1.candidate;
      node = c.in_ok-node.ensures.node c.args.at.candidate.now c.requires.1.1.node;
    } in
    let n = length walk.left in (
      c.requires.0,
      (
        path_less r task.candidates.now context (best_in walk.seen) (sightings_of walk.seen) walk.left
            (height n (Follow c.args.at)) (height n (Follow at)) (Some c.args.at.candidate.now)
            (omega (arith, c.in_ok-node.ensures.lower)) c.requires.1.0,
        at_is,
      ),
    )

pub returns-in-Writer : goal.returns-in-Writer
returns-in-Writer c =
    let n = length c.args.walk.now.left in
    let at : Position = record {
      candidate = c.args.at.candidate;
      node = c.in_ok-node.field-0.node;
      rows = c.in_ok-node.field-0.rows;
    } in
    let lower = turns_most (height n (Follow at)) (height n (Follow c.args.at))
    (omega (arith, c.in_ok-node.ensures.lower)) in
    IfOk-weaker c.arrive.result _ _ (λ step told. (told.0, omega (arith, told.1, lower))) c.arrive.ensures

pub arrive-requires-clause-point : goal.arrive-requires-clause-point
arrive-requires-clause-point c =
    let r = c.args.task.now.read.now in
    let context = c.args.walk.now.context in
    let at : Position = record {
      candidate = c.args.at.candidate;
      node = c.in_ok-node.field-0.node;
      rows = c.in_ok-node.field-0.rows;
    } in
    let at_is : IsAt r context at = record {
      candidate = c.requires.1.1.candidate;
      node = c.in_ok-node.ensures.node c.args.at.candidate.now c.requires.1.1.node;
    } in
    (_, point_here r context at _ _ _ at_is c.in-Writer.is)

pub unreachable-requires : goal.unreachable-requires
unreachable-requires c =
    let k = c.in_ok-node.ensures.node c.args.at.candidate.now c.requires.1.1.node in
    simple_kinds k.tests c.in_ok-node.field-0.node.now k.simple c.in_default.not-Test c.in_default.not-Writer
    c.in_default.not-Zero
