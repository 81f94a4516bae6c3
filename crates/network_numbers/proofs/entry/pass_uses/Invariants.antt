use Rattle.std.proofs.Common.{◌≡◌, take}
use Rattle.network_numbers.specs.Entries.{wanted_after}
use Rattle.network_numbers.proofs.entry.pass_uses.Given as goal

-- the sources so far were counted
abbrev pub invariant-loop-source : goal.invariant-loop-source
invariant-loop-source l = record {
  wanted : l.queue.wanted ≡ wanted_after l.plan (take l.source-index l.sources) l.fn.queue.wanted;
  greatest : l.queue.greatest ≡ l.fn.queue.greatest;
}
