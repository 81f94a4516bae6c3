use Rattle.std.proofs.Common.{◌≡◌, ◌++◌}
use Rattle.cert_text.proofs.folded.joined.Given as goal

abbrev pub invariant-loop-part : goal.invariant-loop-part
invariant-loop-part g l = l.all ≡ l.initial.all ++ l.yielded
