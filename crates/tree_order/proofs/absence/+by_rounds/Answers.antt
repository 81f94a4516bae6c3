use Rattle.std.proofs.Common.{◌≡◌, ◌+◌, ◌∷◌, List, length, ap, subst, rules, arith}
use Rattle.std.specs.Prelude.{IfSome}
use Rattle.std.proofs.lemmas.Option.{IfSome_then}
use Rattle.std.proofs.lemmas.Result.{IfOk-weaker}
use Rattle.tree_order.specs.Absence.{AreBack, IsContradicted}
use Rattle.tree_order.proofs.Rounds.{back_next}
use Rattle.tree_graphs.specs.declared.edges.Edge.{Edge}
use Rattle.tree_order.proofs.absence.+by_rounds.Goals as goal

pub by_back-requires : goal.by_back-requires
by_back-requires t c =
    let first : c.args.backs.now ≡ c.in-Some.back.now ∷ c.in-Some.backs.now = search rules in
    let a = c.requires in (
      a.0,
      a.1,
      c.in-Some.backs.now,
      subst (λ backs. AreBack c.args.context.now.system.now a.0 a.1 c.args.bounds.now c.args.zero
          c.args.outs.edges.now c.args.outs.first backs c.args.number) first a.2,
    )

pub by_rounds-requires : goal.by_rounds-requires
by_rounds-requires t c =
    let first : c.args.backs.now ≡ c.in-Some.back.now ∷ c.in-Some.backs.now = search rules in
    let a = c.requires in (
      omega (arith, ap length first),
      (
        a.0,
        a.1,
        back_next c.args.context.now.system.now a.0 a.1 c.args.bounds.now c.args.zero c.args.outs.edges.now
            c.args.outs.first
            c.in-Some.back.now c.in-Some.backs.now c.args.number
            (subst (λ backs. AreBack c.args.context.now.system.now a.0 a.1 c.args.bounds.now c.args.zero
            c.args.outs.edges.now
            c.args.outs.first backs c.args.number) first a.2),
      ),
    )

pub returns-in-Some-found : goal.returns-in-Some-found
returns-in-Some-found t c = λ own edges a.
    let first : c.args.backs.now ≡ c.in-Some.back.now ∷ c.in-Some.backs.now = search rules in
    let told = subst (λ o. IfSome o (λ ts. (own edges : List Edge)
    → AreBack c.args.context.now.system.now own edges c.args.bounds.now c.args.zero c.args.outs.edges.now
    c.args.outs.first
    c.in-Some.backs.now (c.args.number + 1)
    → IsContradicted c.args.context.now.system.now edges ts)) c.in-Some-found.is c.in_ok-found.ensures in
    told own edges
    (back_next c.args.context.now.system.now own edges c.args.bounds.now c.args.zero c.args.outs.edges.now
    c.args.outs.first
    c.in-Some.back.now c.in-Some.backs.now c.args.number
    (subst (λ backs. AreBack c.args.context.now.system.now own edges c.args.bounds.now c.args.zero c.args.outs.edges.now
    c.args.outs.first backs c.args.number) first a))

pub returns-in-None : goal.returns-in-None
returns-in-None t c =
    let first : c.args.backs.now ≡ c.in-Some.back.now ∷ c.in-Some.backs.now = search rules in
    IfOk-weaker c.by_back.result _ _
    (λ found h. IfSome_then found h
    (λ ts told own edges a.
    told own edges c.in-Some.backs.now
    (subst (λ backs. AreBack c.args.context.now.system.now own edges c.args.bounds.now c.args.zero c.args.outs.edges.now
    c.args.outs.first backs c.args.number) first a))) c.by_back.ensures
