use Rattle.std.proofs.Common.{◌≡◌, drop}
use Rattle.loop_bind.specs.Forms.{form_over}
use Rattle.loop_bind.specs.Values.{with_multiples, form_expr}
use Rattle.loop_bind.proofs.value.form_expr.Given as goal

abbrev pub invariant-loop-coef : goal.invariant-loop-coef
invariant-loop-coef l =
    (l.variable ≡ l.coef-index)
    × (with_multiples l.expr l.coef-index (drop l.coef-index l.coef-items) ≡ form_expr (form_over l.depth l.form))
