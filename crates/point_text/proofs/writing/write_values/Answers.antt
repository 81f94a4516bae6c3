use Rattle.std.proofs.Common.{arith}
use Rattle.std.proofs.lemmas.Grind.{common_steps}
use Rattle.point_text.proofs.Values.{values_joined}
use Rattle.point_text.proofs.writing.write_values.Goals as goal

pub returns-in-Some : goal.returns-in-Some
returns-in-Some g c =
    grind (arith, common_steps, values_joined c.in-Some.first.now c.in-Some.others.now, c.in-Some.ensures.cases)
