use Rattle.std.proofs.Common.{◌≡◌, min, take}
use Rattle.plain_data.specs.Digits.{decimal_number}
use Rattle.plain_data.proofs.digits.capped_number.Given as goal

abbrev pub invariant-loop-digit : goal.invariant-loop-digit
invariant-loop-digit l = l.value ≡ min (decimal_number (take l.digit-index l.digits)) 18446744073709551615
