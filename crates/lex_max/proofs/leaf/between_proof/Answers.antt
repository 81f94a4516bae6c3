use Rattle.std.proofs.Common.{◌+◌, ◌^◌, ◌<◌, ◌++◌, ◌∷◌, [], length, sym, ap, ◌∙◌, subst, arith}
use Rattle.std.specs.Prelude.{All}
use Rattle.std.proofs.lemmas.List.Elements.{All-weaker}
use Rattle.std.proofs.lemmas.Result.{IfOk-weaker}
use Rattle.int_polyhedra.specs.declared.system.Proof.TheVariants.{Sum}
use Rattle.int_polyhedra.specs.declared.system.Term.{Term}
use Rattle.tree_graphs.specs.Paths.{term_of, terms_from}
use Rattle.tree_graphs.proofs.ProblemBounds.{writes_fit}
use Rattle.lex_max.proofs.ReturnEdges.{form_chosen, item_chosen}
use Rattle.lex_max.proofs.Ready.{ready_of}
use Rattle.lex_max.proofs.leaf.between_proof.Goals as goal

pub bounds-choices-level : goal.bounds-choices-level
bounds-choices-level c = omega (arith, c.requires.chosen.1.all, c.requires.level)

pub path_to-requires : goal.path_to-requires
path_to-requires c =
    let w = c.args.graph.now.writes in
    let edges = c.args.graph.now.edges.now in
    let bounds = c.args.graph.now.bounds.now in
    let choices = c.args.choices.now in
    let r = c.requires in
    let item = c.index-choices-level.result in
    form_chosen w edges bounds (ready_of c.args.graph.now) r.chosen.0 choices r.chosen.1 c.args.level item
    (item_chosen w edges bounds (ready_of c.args.graph.now) r.chosen.0 choices r.chosen.1 c.args.level item r.level
    c.index-choices-level.is)

pub append_from-requires : goal.append_from-requires
append_from-requires c =
    let few = c.args.graph.now.graph.graph.few in
    let here = c.requires.here in
    let edges = c.args.graph.now.edges.now in
    subst (All (λ (t : Term). c.args.here + t.row < 2 ^ 32)) (sym c.as_slice.ensures)
    (All-weaker (λ (t : Term). t.row < length edges) (λ (t : Term). c.args.here + t.row < 2 ^ 32)
    (λ t lt. omega (arith, lt, few, here)) c.in_ok-path.path c.in_ok-path.ensures.path.name_edges)

pub overflow_cast-count : goal.overflow_cast-count
overflow_cast-count c = omega (arith, c.args.graph.now.graph.graph.few)

pub overflow_add-behind : goal.overflow_add-behind
overflow_add-behind c = omega (arith, c.args.graph.now.graph.graph.few, c.requires.here)

pub level_row-row-requires-clause-here : goal.level_row-row-requires-clause-here
level_row-row-requires-clause-here c =
    omega (arith, c.args.graph.now.graph.graph.few, c.requires.here)

pub level_row-row-requires-clause-level : goal.level_row-row-requires-clause-level
level_row-row-requires-clause-level c =
    omega (arith, c.requires.level, (writes_fit c.args.graph.now.writes).few_loops)

pub returns : goal.returns
returns c =
    let w = c.args.graph.now.writes in
    let edges = c.args.graph.now.edges.now in
    let bounds = c.args.graph.now.bounds.now in
    let choices = c.args.choices.now in
    let r = c.requires in
    let item = c.index-choices-level.result in
    let here = c.args.here in
    let path = c.in_ok-path.path in
    IfOk-weaker c.sum_with_row.result _ _
    (λ proof is. record {
      choice = item;
      chosen = item_chosen w edges bounds (ready_of c.args.graph.now) r.chosen.0 choices r.chosen.1 c.args.level item
          r.level
          c.index-choices-level.is;
      path = path;
      is_path = c.in_ok-path.ensures.path;
      light = c.in_ok-path.ensures.light;
      is = is
          ∙ ap (λ ts. Sum (ts ++ term_of c.level_row-row.result ∷ []))
          (c.as_slice-2.ensures ∙ c.in_ok-append_from.ensures ∙ ap (λ ts. ts ++ terms_from here c.as_slice.result.now)
          c.new-terms.ensures ∙ ap (terms_from here) c.as_slice.ensures)
          ∙ ap (λ n. Sum (terms_from here path ++ term_of n ∷ []))
          c.level_row-row.ensures;
    }) c.sum_with_row.ensures
