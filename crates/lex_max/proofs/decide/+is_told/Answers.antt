use Rattle.std.proofs.Common.{◌≡◌, ◌+◌, ◌^◌, ◌++◌, ◌∷◌, [], List, length, map, sym, ap, ◌∙◌, subst, arith}
use Rattle.std.proofs.Common.{rules, append_assoc}
use Rattle.std.specs.Bool.{OnTrue}
use Rattle.std.specs.Prelude.{All, IfOk}
use Rattle.std.proofs.lemmas.List.{append-nil, nil_from_length}
use Rattle.std.proofs.lemmas.List.Elements.{All-head, All-tail}
use Rattle.affine_core.specs.declared.form.Form.{Form}
use Rattle.tree_graphs.specs.Cycles.{IsCycle}
use Rattle.tree_graphs.specs.Facts.{form_parts, IsFact}
use Rattle.tree_graphs.specs.declared.cycles.Cycle.{Cycle}
use Rattle.int_polyhedra.specs.declared.system.System.{System}
use Rattle.int_polyhedra.specs.declared.system.Term.{Term}
use Rattle.lex_max.specs.ChoiceSteps.{with_cycles}
use Rattle.lex_max.proofs.DecisionContexts.{context_is, context_more}
use Rattle.lex_max.proofs.decide.+is_told.Goals as goal
use Rattle.tree_sums.proofs.Within.{IsWithin-weaker}

without : (context : System) (cycles : List Cycle) → cycles ≡ [] → context ≡ with_cycles context cycles
without context cycles none =
    ap (λ (rows : List Form). record context { rows = rows }) (sym (append-nil context.rows))
    ∙ ap (with_cycles context) (sym none)

behind : (context more : System) (cycles rest : List Cycle) (cycle : Cycle) → cycles ≡ cycle ∷ rest
    → more ≡ record context { rows = context.rows ++ cycle.form ∷ [] }
    → with_cycles more rest ≡ with_cycles context cycles
behind context more cycles rest cycle first is =
    ap (λ (m : System). with_cycles m rest) is
    ∙ ap (λ (rows : List Form). record context { rows = rows })
    (append_assoc context.rows (cycle.form ∷ []) (map (λ (c : Cycle). c.form) rest))
    ∙ ap (with_cycles context) (sym first)

pub returns-in_default : goal.returns-in_default
returns-in_default t c =
    let none = nil_from_length c.args.cycles.now c.in_default.ensures.cases in
    subst (λ (s : System). IfOk c.is_known.result
    (λ told. OnTrue told ((terms : List Term) × IsFact s 65536 (form_parts c.args.form.now) terms)))
    (without c.args.context.now c.args.cycles.now none) c.is_known.ensures

pub returns : goal.returns
returns t c =
    let cycle = c.in-Some.cycle.now in
    let rest = c.in-Some.cycles.now in
    let first : c.args.cycles.now ≡ cycle ∷ rest = search rules in
    let more_is = c.in_ok-more.ensures
    ∙ ap (λ (f : Form). record c.args.context.now { rows = c.args.context.now.rows ++ f ∷ [] }) c.copy.ensures in
    subst (λ (s : System). IfOk c.is_told.result
    (λ told. OnTrue told ((terms : List Term) × IsFact s 65536 (form_parts c.args.form.now) terms)))
    (behind c.args.context.now c.in_ok-more.more c.args.cycles.now rest cycle first more_is) c.is_told.ensures

pub invariant_of-here : goal.invariant_of-here
invariant_of-here t c =
    record {
      fits = context_is c.args.graph.now.writes (length c.args.cycles.now) c.args.context.now
          c.requires.context;
    }

pub is_known-requires : goal.is_known-requires
is_known-requires t c = c.requires.over ∙ sym c.requires.context.vars

pub is_told-requires : goal.is_told-requires
is_told-requires t c =
    let w = c.args.graph.now.writes in
    let context = c.args.context.now in
    let edges = c.args.graph.now.edges.now in
    let P = IsCycle w.vars edges in
    let cycle = c.in-Some.cycle.now in
    let rest = c.in-Some.cycles.now in
    let first : c.args.cycles.now ≡ cycle ∷ rest = search rules in
    let all = subst (All P) first c.requires.cycles in
    let one = All-head P cycle rest all in
    let more_is = c.in_ok-more.ensures
    ∙ ap (λ (f : Form). record context { rows = context.rows ++ f ∷ [] }) c.copy.ensures in (
      omega (arith, ap length first),
      (
        context_more w (length rest) (length c.args.cycles.now) context c.in_ok-more.more cycle.form
            more_is one.over (IsWithin-weaker (2 ^ 40) (2 ^ 41) cycle.form (omega arith) one.within)
            (omega (arith, ap length first)) c.requires.context,
        (All-tail P cycle rest all, c.requires.over),
      ),
    )
