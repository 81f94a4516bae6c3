use Rattle.std.proofs.Common.{◌+◌, ◌*◌, ◌^◌, ◌<◌, arith, sym, lit≤}
use Rattle.std.proofs.lemmas.Str.Parse.{digits_value-take-le}
use Rattle.command_line.proofs.Digits.{digits_value-lt_limit, digits_value-next, digits_value-next-le}
use Rattle.command_line.proofs.words.digits_value.Goals as goal

below : (c : goal.After-from) → c.loop-digit.number * 10 + c.from.result < 10 ^ 18
below c =
    rw (c.loop-digit.invariant, c.from.ensures)
    (digits_value-next-le c.args.digits.now c.loop-digit.digit-index c.requires.digits c.requires.few
    c.loop-digit-test.true)

pub overflow_mul-number : goal.overflow_mul-number
overflow_mul-number c =
    omega (
      arith,
      rw (sym c.loop-digit.invariant) at (digits_value-next-le c.args.digits.now c.loop-digit.digit-index
          c.requires.digits c.requires.few c.loop-digit-test.true),
    )

pub overflow_add-number : goal.overflow_add-number
overflow_add-number c = omega (arith, below c)

pub loop-digit-preserved : goal.loop-digit-preserved
loop-digit-preserved c =
    rw (c.loop-digit.invariant, c.from.ensures)
    (digits_value-next c.args.digits.now c.loop-digit.digit-index c.requires.digits c.loop-digit-test.true)

pub returns-clause-small : goal.returns-clause-small
returns-clause-small c =
    omega (
      arith,
      c.loop-digit.invariant,
      digits_value-take-le 10 c.args.digits.now c.loop-digit.digit-index (lit≤ tt),
      digits_value-lt_limit c.args.digits.now c.requires.digits c.requires.few,
    )
