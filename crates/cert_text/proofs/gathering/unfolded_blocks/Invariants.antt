use Rattle.std.proofs.Common.{◌≡◌, true}
use Rattle.script_blocks.specs.Expansion.{parts_expansion}
use Rattle.script_blocks.specs.Nesting.{are_proper}
use Rattle.cert_text.proofs.gathering.unfolded_blocks.Given as goal

-- the parts so far stand for the items so far
abbrev pub invariant-loop-item : goal.invariant-loop-item
invariant-loop-item g l = record {
  expansion : parts_expansion l.parts.items ≡ l.yielded;
  proper : are_proper l.parts.items ≡ true;
}
