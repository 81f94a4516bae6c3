use Rattle.std.proofs.Common.{◌≡◌, ◌+◌, ◌∷◌, List, length, ap, subst, rules, arith}
use Rattle.std.specs.Prelude.{IfSome}
use Rattle.std.proofs.lemmas.Option.{IfSome_then}
use Rattle.std.proofs.lemmas.Result.{IfOk-weaker}
use Rattle.tree_order.specs.Absence.{AreOut, IsContradicted}
use Rattle.tree_order.proofs.Rounds.{out_next}
use Rattle.tree_graphs.specs.declared.edges.Edge.{Edge}
use Rattle.tree_order.proofs.absence.+by_outs.Goals as goal

pub by_out-requires : goal.by_out-requires
by_out-requires t c =
    let first : c.args.outs.now ≡ c.in-Some.out.now ∷ c.in-Some.outs.now = search rules in
    let a = c.requires in (
      a.0,
      a.1,
      c.in-Some.outs.now,
      subst (λ outs. AreOut c.args.context.now.system.now a.0 a.1 c.args.bounds.now c.args.zero outs
          c.args.number c.args.back.now c.args.back_number) first a.2,
    )

pub by_outs-requires : goal.by_outs-requires
by_outs-requires t c =
    let first : c.args.outs.now ≡ c.in-Some.out.now ∷ c.in-Some.outs.now = search rules in
    let a = c.requires in (
      omega (arith, ap length first),
      (
        a.0,
        a.1,
        out_next c.args.context.now.system.now a.0 a.1 c.args.bounds.now c.args.zero c.in-Some.out.now
            c.in-Some.outs.now
            c.args.number c.args.back.now c.args.back_number
            (subst (λ outs. AreOut c.args.context.now.system.now a.0 a.1 c.args.bounds.now c.args.zero outs
            c.args.number
            c.args.back.now c.args.back_number) first a.2),
      ),
    )

pub returns-in-Some-found : goal.returns-in-Some-found
returns-in-Some-found t c = λ own edges a.
    let first : c.args.outs.now ≡ c.in-Some.out.now ∷ c.in-Some.outs.now = search rules in
    let told = subst (λ o. IfSome o (λ ts. (own edges : List Edge)
    → AreOut c.args.context.now.system.now own edges c.args.bounds.now c.args.zero
    c.in-Some.outs.now (c.args.number + 1) c.args.back.now c.args.back_number
    → IsContradicted c.args.context.now.system.now edges ts)) c.in-Some-found.is c.in_ok-found.ensures in
    told own edges
    (out_next c.args.context.now.system.now own edges c.args.bounds.now c.args.zero c.in-Some.out.now c.in-Some.outs.now
    c.args.number c.args.back.now c.args.back_number
    (subst (λ outs. AreOut c.args.context.now.system.now own edges c.args.bounds.now c.args.zero outs c.args.number
    c.args.back.now
    c.args.back_number) first a))

pub returns-in-None : goal.returns-in-None
returns-in-None t c =
    let first : c.args.outs.now ≡ c.in-Some.out.now ∷ c.in-Some.outs.now = search rules in
    IfOk-weaker c.by_out.result _ _
    (λ found h. IfSome_then found h
    (λ ts told own edges a.
    told own edges c.in-Some.outs.now
    (subst (λ outs. AreOut c.args.context.now.system.now own edges c.args.bounds.now c.args.zero outs c.args.number
    c.args.back.now
    c.args.back_number) first a))) c.by_out.ensures
