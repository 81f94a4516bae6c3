use Rattle.std.proofs.Common.{◌≡◌, take, max}
use Rattle.std.specs.List.{fold}
use Rattle.network_numbers.specs.Entries.{wanted_by, lengths}
use Rattle.network_numbers.proofs.entry.pass_ends.Given as goal

-- the turns so far were counted
abbrev pub invariant-loop-place : goal.invariant-loop-place
invariant-loop-place l = record {
  wanted : l.queue.wanted ≡ wanted_by l.plan l.process (take l.place l.sources) l.fn.queue.wanted;
  greatest : l.queue.greatest
      ≡ fold max l.fn.queue.greatest (lengths l.plan l.process l.sources l.fn.queue.wanted l.first l.place);
}
