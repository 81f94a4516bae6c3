use Rattle.std.proofs.Common.{◌≡◌, ◌++◌}
use Rattle.cert_text.proofs.folded_cert.entries_of.Given as goal

abbrev pub invariant-loop-entry : goal.invariant-loop-entry
invariant-loop-entry l = l.entries ++ l.entry-iterator ≡ l.schedule
