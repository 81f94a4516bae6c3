use Rattle.port_runs.proofs.PortValues.{all_kept, ports_named}
use Rattle.port_runs.proofs.laws.port_runs_name.Goals as goal

pub returns : goal.returns
returns g c =
    record {
      named = λ n rule v run wired gives is. ports_named n rule wired v gives run is;
      kept = λ n rule v run wired gives is all. all_kept n rule wired v gives run is all;
    }
