use Rattle.std.proofs.Common.{arith}
use Rattle.unit_text.proofs.Limits.{control_within, loops_within}
use Rattle.unit_text.proofs.laws.sequencers_are_no_longer_than_what_they_give.Goals as goal

pub returns : goal.returns
returns c = record {
  control = control_within;
  loops = loops_within;
  all = λ auto unit is few. omega (arith, control_within auto unit is, loops_within auto unit is, few);
}
