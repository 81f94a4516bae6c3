use Rattle.std.proofs.Common.{◌≡◌, ◌<ℤ◌, ◌≤ℤ◌, ◌/◌, pos, arith}
use Rattle.std.specs.Prelude.{unsigned_abs}
use Rattle.std.proofs.Math.Nat.{div-le_self}
use Rattle.std.proofs.lemmas.Int.{ints}
use Rattle.tree_eval.proofs.Lines.{quotient_falls}
use Rattle.tree_eval.proofs.line.turns_kept.Goals as goal

pub returns-then-most-turns-clause-kept : goal.returns-then-most-turns-clause-kept
returns-then-most-turns-clause-kept c turn from to =
    let value : c.unsigned_abs.result ≡ unsigned_abs c.args.value = omega (arith, ints) in
    let step : c.unsigned_abs-2.result ≡ unsigned_abs c.args.step = omega (arith, ints) in
    let negative : c.args.step <ℤ pos 0 = grind (arith, ints) in
    let few : turn ≤ℤ pos (c.unsigned_abs.result / c.unsigned_abs-2.result) =
    omega (arith, ints, div-le_self c.unsigned_abs.result c.unsigned_abs-2.result) in
    quotient_falls c.args.value c.args.step turn c.unsigned_abs.result c.unsigned_abs-2.result value step negative
    c.requires.value from few

pub returns-else-most-turns-clause-kept : goal.returns-else-most-turns-clause-kept
returns-else-most-turns-clause-kept c turn from to =
    let value : c.unsigned_abs.result ≡ unsigned_abs c.args.value = omega (arith, ints) in
    let step : c.unsigned_abs-2.result ≡ unsigned_abs c.args.step = omega (arith, ints) in
    let negative : c.args.step <ℤ pos 0 = grind (arith, ints) in
    let few : turn ≤ℤ pos (c.unsigned_abs.result / c.unsigned_abs-2.result) = grind (arith, ints) in
    quotient_falls c.args.value c.args.step turn c.unsigned_abs.result c.unsigned_abs-2.result value step negative
    c.requires.value from few
