use Rattle.net_core.specs.Machine.{net_of}
use Rattle.cap_trim.proofs.NeededPlaces.{IsRaised}
use Rattle.cap_trim.proofs.needed_places.needed_places.Given as goal

abbrev pub invariant-loop : goal.invariant-loop
invariant-loop l = IsRaised (net_of l.wired.network.now) l.places.items l.progress
