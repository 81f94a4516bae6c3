use Rattle.witness_plan.proofs.Downward.{is_downward}
use Rattle.witness_plan.proofs.laws.goes_downward.Goals as goal

pub returns : goal.returns
returns c = is_downward
