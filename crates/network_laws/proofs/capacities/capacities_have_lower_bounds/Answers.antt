use Rattle.std.proofs.Common.{arith}
use Rattle.cap_trim.specs.Capacities.{trimmed_network}
use Rattle.network_laws.specs.LowerBounds.{capacity_bound}
use Rattle.network_laws.proofs.EnoughCapacity.{bounded, limited_ends, some_needed, sum_by-range_same, total_bounded}
use Rattle.network_laws.proofs.capacities.capacities_have_lower_bounds.Goals as goal

pub returns : goal.returns
returns g c =
    record {
      enough = λ n rule capacities run wired whole. limited_ends n wired capacities rule run whole;
      bound = λ n rule capacities run at wired whole. bounded n wired capacities rule run whole at;
      some = λ n at wired put. some_needed n at wired put;
      total = λ n rule capacities run wired whole. total_bounded n wired capacities rule run whole;
      least = λ n rule capacities run wired met whole.
          omega (
            arith,
            total_bounded n wired capacities rule run whole,
            sum_by-range_same (trimmed_network n).capacity (capacity_bound n) n.channels 0
                (λ at lt. met at (omega arith)),
          );
    }
