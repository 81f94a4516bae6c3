use Rattle.compaan_top.proofs.OwnStatuses.{calls_own}
use Rattle.compaan_top.proofs.law.calls_have_their_statuses.Goals as goal

pub returns : goal.returns
returns c = λ wanted input output complaint status ends. calls_own wanted input output complaint ends
