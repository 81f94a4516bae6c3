use Rattle.compaan_top.proofs.OwnStatuses.{no_one_status}
use Rattle.compaan_top.proofs.law.no_status_ends_every_call.Goals as goal

pub returns : goal.returns
returns c = λ status may. no_one_status status may
