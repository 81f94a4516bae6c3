use Rattle.std.proofs.Common.{◌≡◌, min, take}
use Rattle.plain_data.specs.Digits.{decimal_number}
use Rattle.cert_lines.proofs.words.wide_value.Given as goal

abbrev pub invariant-loop-digit : goal.invariant-loop-digit
invariant-loop-digit l = l.value
    ≡ min (decimal_number (take l.digit-index l.digits)) 340282366920938463463374607431768211455
