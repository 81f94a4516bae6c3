use Rattle.std.proofs.Common.{◌≡◌, ◌++◌, pos, replicate}
use Rattle.affine_core.proofs.form.append_zeros.Given as goal

abbrev pub invariant-loop : goal.invariant-loop
invariant-loop l = l.coefs ≡ l.initial.coefs ++ replicate l.counter (pos 0)
