use Rattle.witness_plan.proofs.OtherCapacities.{net_kept, wired_kept}
use Rattle.witness_plan.proofs.laws.other_capacities.Goals as goal

pub returns : goal.returns
returns c = record { wired = wired_kept; same = net_kept }
