use Rattle.std.proofs.Common.{◌≡◌, ◌++◌, [], cond, drop, length, map}
use Rattle.port_sim.specs.Windows.{round, waiting}
use Rattle.port_sim.proofs.window.take_round.Given as goal

-- What is still to be taken is the round of what is left, or nothing.
abbrev pub invariant-loop-more : goal.invariant-loop-more
invariant-loop-more l =
    record {
      events : l.events.items ++ map waiting (cond l.more (round l.rest) [])
          ≡ l.initial.events.items ++ map waiting (round l.initial.rest);
      rest : drop (length (cond l.more (round l.rest) [])) l.rest
          ≡ drop (length (round l.initial.rest)) l.initial.rest;
    }

abbrev pub decreases-loop-more : goal.decreases-loop-more
decreases-loop-more l = length l.rest
