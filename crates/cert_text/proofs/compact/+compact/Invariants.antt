use Rattle.std.proofs.Common.{◌≡◌}
use Rattle.cert_text.proofs.compact.+compact.Given as goal

-- the parts so far
abbrev pub invariant-compact_blocks-loop-part : goal.invariant-compact_blocks-loop-part
invariant-compact_blocks-loop-part g l = l.parts.items ≡ l.yielded
