use Rattle.witness_plan.proofs.OtherCapacities.{wired_at}
use Rattle.cap_trim.specs.Capacities.{with_room}
use Rattle.clock_sim.specs.Clocks.{clocked_run, clocks}
use Rattle.network_laws.proofs.FasterRuns.{all_ends, never_behind, never_slower}
use Rattle.network_laws.proofs.clocks.greater_capacities_are_never_slower.Goals as goal

pub returns : goal.returns
returns g c =
    record {
      ahead = λ n rule capacities k p wired more. never_behind n rule capacities wired more k p;
      clocks = λ n rule capacities wired ends more.
          let before = c.clocked_run_ends.ensures n rule wired ends in
          let there = wired_at n capacities wired in
          let always =
          c.every_order.ensures.ends (with_room n capacities) rule rule (clocked_run n rule (clocks n)) there
          (all_ends n rule capacities wired more before) in
          never_slower n rule capacities wired more before
          (c.clocked_run_ends.ensures (with_room n capacities) rule there always);
    }
