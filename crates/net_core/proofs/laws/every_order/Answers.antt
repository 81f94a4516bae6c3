use Rattle.net_core.proofs.EveryOrder.{ends_always, stops_alike, same_run, same_positions, same_ends}
use Rattle.net_core.proofs.laws.every_order.Goals as goal

pub returns : goal.returns
returns g c =
    record {
      same = λ n rule other run wired is. same_run n rule other wired run is;
      alike = λ n rule other run wired is p. same_positions n rule other wired run is p;
      ends = λ n rule other run wired whole.
          let ends = same_ends n rule other wired run whole in
          ends_always n other wired run ends.0 ends.1;
      stops = λ n rule wired. stops_alike n rule wired;
    }
