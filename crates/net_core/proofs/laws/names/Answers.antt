use Rattle.net_core.proofs.PlaceValues.{every_run_named, ended_kept}
use Rattle.net_core.proofs.laws.names.Goals as goal

pub returns : goal.returns
returns g c =
    record {
      named = λ n rule v run wired gives is. every_run_named n rule wired v run gives is;
      kept = λ n rule v run wired gives whole. ended_kept n rule wired v run gives whole.0 whole.1;
    }
