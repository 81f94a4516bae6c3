use Rattle.cap_trim.specs.Capacities.{trimmed_network}
use Rattle.cap_trim.proofs.LeastCapacities.{before_ends, last_some, last_sticks, last_within}
use Rattle.cap_trim.proofs.laws.has_least_capacities.Goals as goal

pub returns : goal.returns
unfolding trimmed_network
returns c =
    record {
      ends = λ n wired can. before_ends n n.channels can;
      within = λ n d. last_within n d;
      some = λ n d wired can there put. last_some n wired can d there put;
      sticks = λ n d wired can there put. last_sticks n wired can d there put;
    }
