use Rattle.std.proofs.Common.{◌≡◌, ◌≤◌, ◌++◌, length, take, drop}
use Rattle.bundle.specs.Parts.{before_separator, after_separator}
use Rattle.bundle.proofs.parts.split_at_separator.Given as goal

abbrev pub invariant-loop-rest : goal.invariant-loop-rest
invariant-loop-rest l = record {
  within : l.start ≤ length l.bytes;
  rest : l.rest ≡ drop l.start l.bytes;
  before : before_separator l.bytes ≡ take l.start l.bytes ++ before_separator l.rest;
  after : after_separator l.bytes ≡ after_separator l.rest;
}

abbrev pub decreases-loop-rest : goal.decreases-loop-rest
decreases-loop-rest l = length l.rest
