use Rattle.network_laws.proofs.Minimal.{none_below}
use Rattle.network_laws.proofs.capacities.least_capacities_are_minimal.Goals as goal

pub returns : goal.returns
returns g c n rule capacities at run wired there within below whole =
    none_below n wired capacities at there rule run within below whole
