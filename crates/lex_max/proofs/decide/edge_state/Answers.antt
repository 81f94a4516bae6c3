use Rattle.std.proofs.Common.{◌≡◌, List, subst, arith}
use Rattle.std.specs.Prelude.{IfOk, IfSome}
use Rattle.affine_core.specs.declared.form.Form.{Form}
use Rattle.int_polyhedra.specs.declared.system.System.{System}
use Rattle.tree_graphs.specs.Asked.{depth_of_write}
use Rattle.lex_max.specs.Choices.{chosen_place}
use Rattle.tree_graphs.specs.Edges.{edge_parts, IsEdge}
use Rattle.lex_max.specs.EdgeStates.{IsEdgeState}
use Rattle.tree_graphs.specs.Facts.{form_parts}
use Rattle.lex_max.specs.declared.decide.EdgeState.{EdgeState}
use Rattle.tree_graphs.specs.declared.edges.Edge.{Edge}
use Rattle.tree_graphs.specs.declared.writes.Writes.{Writes}
use Rattle.lex_max.proofs.Uppers.{edge_at}
use Rattle.tree_sums.specs.Parts.{Part}
use Rattle.lex_max.proofs.Ready.{ready_of}
use Rattle.lex_max.proofs.decide.edge_state.Goals as goal

-- An edge to a variable

pub upper_terms-requires-clause-chosen : goal.upper_terms-requires-clause-chosen
upper_terms-requires-clause-chosen c = (c.args.context.now, c.requires.chosen)

pub upper_terms-requires-clause-to : goal.upper_terms-requires-clause-to
upper_terms-requires-clause-to c = omega (arith, c.depth.ensures)

pub returns-then-edge-depth : goal.returns-then-edge-depth
returns-then-edge-depth c = c.in_ok-shown.ensures c.args.context.now c.requires.chosen

-- An edge back to 0

pub cycle_back-requires-clause-chosen : goal.cycle_back-requires-clause-chosen
cycle_back-requires-clause-chosen c = (c.args.context.now, c.requires.chosen)

pub cycle_back-requires-clause-back : goal.cycle_back-requires-clause-back
cycle_back-requires-clause-back c =
    let w = c.args.graph.now.writes in
    let edge : IsEdge w.vars (depth_of_write w) c.args.edge.now =
    edge_at w c.args.graph.now.edges.now c.args.graph.now.bounds.now (ready_of c.args.graph.now) c.args.number
    c.args.edge.now
    c.requires.edge in
    omega (arith, edge.to, c.depth.ensures)

pub cycle_state-requires-clause-cycle : goal.cycle_state-requires-clause-cycle
cycle_state-requires-clause-cycle c =
    c.in_ok-cycle.ensures.cycle

-- what a cycle of this form tells, whatever edge has it
abbrev Tells : Writes → List Edge → System → Form → EdgeState → Type 0
Tells w edges context form state = (place : List Form) (edge : Edge)
    → ((part : Part) → form_parts form part ≡ edge_parts place edge part)
    → IsEdgeState w edges context place edge state

pub returns-in-Ok-Some : goal.returns-in-Ok-Some
returns-in-Ok-Some c =
    let P = Tells c.args.graph.now.writes c.args.graph.now.edges.now c.args.context.now c.in_ok-cycle.cycle.form in
    let told = subst (λ r. IfOk r (λ told. IfSome told P)) c.in-Ok-Some.is c.cycle_state.ensures in
    (subst (λ o. IfSome o P) c.in-Ok-Some.field-0-is told)
    (chosen_place c.args.choices.now) c.args.edge.now c.in_ok-cycle.ensures.form

pub returns-in-Ok-None : goal.returns-in-Ok-None
returns-in-Ok-None c = (c.in_ok-cycle.ensures.cycle, c.in_ok-cycle.ensures.form)
