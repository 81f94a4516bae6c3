use Rattle.std.proofs.Common.{Some, sym, ap, ◌∙◌, arith}
use Rattle.net_checker.specs.declared.verdict.Refusal.TheVariants.{Shape}
use Rattle.net_checker.proofs.FirstFault.{whole_wrong, process_wrong, shape_fine}
use Rattle.net_checker.proofs.shapes.shape_refusal.Goals as goal

pub returns-then-not-agrees : goal.returns-then-not-agrees
returns-then-not-agrees c =
    ap (λ k. Some (Shape k)) c.len.ensures
    ∙ whole_wrong c.args.nest.now c.args.network.now c.args.cert.now (sym c.agrees.ensures ∙ c.if-not-agrees.true)

pub returns-then-not-keeps_shape : goal.returns-then-not-keeps_shape
returns-then-not-keeps_shape c =
    process_wrong c.args.nest.now c.args.network.now c.args.cert.now c.loop-process.process
    (sym c.agrees.ensures ∙ c.if-not-agrees.false) (omega arith) c.loop-process.invariant
    (sym c.keeps_shape.ensures ∙ c.if-not-keeps_shape.true)

pub returns : goal.returns
returns c =
    shape_fine c.args.nest.now c.args.network.now c.args.cert.now (sym c.agrees.ensures ∙ c.if-not-agrees.false)
    (λ q lt. c.loop-process.invariant q (omega arith))
