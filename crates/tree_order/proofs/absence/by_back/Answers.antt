use Rattle.std.proofs.Common.{arith}
use Rattle.std.proofs.lemmas.Option.{IfSome_then}
use Rattle.std.proofs.lemmas.Result.{IfOk-weaker}
use Rattle.tree_order.proofs.Rounds.{back_out}
use Rattle.tree_order.proofs.absence.by_back.Goals as goal

pub by_outs-requires : goal.by_outs-requires
by_outs-requires c =
    let a = c.requires in (
      a.0,
      a.1,
      back_out c.args.context.now.system.now a.0 a.1 c.args.bounds.now c.args.zero c.args.outs.edges.now
          c.args.outs.first
          c.args.back.now a.2 c.args.number a.3 (omega (arith, c.if-back-zero.false)),
    )

pub returns : goal.returns
returns c =
    IfOk-weaker c.by_outs.result _ _
    (λ found h. IfSome_then found h
    (λ ts told own edges backs a.
    told own edges
    (back_out c.args.context.now.system.now own edges c.args.bounds.now c.args.zero c.args.outs.edges.now
    c.args.outs.first
    c.args.back.now backs c.args.number a (omega (arith, c.if-back-zero.false)))))
    c.by_outs.ensures
