use Rattle.std.proofs.Common.{arith}
use Rattle.clock_sim.specs.Clocks.{clocked_run}
use Rattle.network_laws.proofs.LeastForClocks.{ends_within_more, full_run, least_found, lowered_ends, no_fewer_clocks}
use Rattle.network_laws.proofs.LeastForClocks.{within_clocks}
use Rattle.network_laws.proofs.capacities.minimal_capacities_keep_the_clocks.Goals as goal

pub returns : goal.returns
returns g c =
    record {
      clocks = λ n rule count wired. (
        λ ended.
            let always =
            c.every_order.ensures.ends n rule rule (clocked_run n rule count) wired (full_run n rule wired count ended) in (
              always,
              no_fewer_clocks n rule wired (c.clocked_run_ends.ensures n rule wired always) count ended,
            ),
        λ both. within_clocks n rule wired (c.clocked_run_ends.ensures n rule wired both.0) count both.1,
      );
      greater = λ n rule capacities count wired more ended. ends_within_more n rule wired capacities count more ended;
      alone = λ n rule capacities count at wired none within below ended.
          none (lowered_ends n rule wired capacities count at within below ended);
      together = λ n rule capacities count at wired least there within below ended.
          least.none_less at there (omega (arith, below))
          (lowered_ends n rule wired capacities count at within below ended);
      found = λ n rule count wired ended. least_found n rule wired count ended;
    }
