use Rattle.std.proofs.Common.{ap, sym, ◌∙◌, arith}
use Rattle.std.specs.Option.{option_copied}
use Rattle.std.proofs.lemmas.Option.{IfSome_then}
use Rattle.std.proofs.lemmas.Result.{IfOk-weaker}
use Rattle.tree_order.proofs.Rounds.{out_round}
use Rattle.tree_order.proofs.absence.by_out.Goals as goal

pub by_round-requires : goal.by_round-requires
by_round-requires c =
    let a = c.requires in (
      a.1,
      a.3.to.fit,
      out_round c.args.context.now.system.now a.0 a.1 c.args.bounds.now c.args.zero c.args.out.now a.2 c.args.number
          c.args.back.now c.args.back_number c.in-Some.bound.now a.3 (omega (arith, c.if-out-zero.false))
          (sym c.at.ensures ∙ ap option_copied c.in-Some.is),
    )

pub returns : goal.returns
returns c =
    IfOk-weaker c.by_round.result _ _
    (λ found h. IfSome_then found h
    (λ ts told own edges outs a.
    told edges a.to.fit
    (out_round c.args.context.now.system.now own edges c.args.bounds.now c.args.zero c.args.out.now outs c.args.number
    c.args.back.now c.args.back_number c.in-Some.bound.now a (omega (arith, c.if-out-zero.false))
    (sym c.at.ensures ∙ ap option_copied c.in-Some.is))))
    c.by_round.ensures
