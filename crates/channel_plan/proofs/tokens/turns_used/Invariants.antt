use Rattle.std.proofs.Common.{◌≡◌, take}
use Rattle.channel_plan.specs.Tokens.{turns_used}
use Rattle.channel_plan.proofs.tokens.turns_used.Given as goal

abbrev pub invariant-loop-source : goal.invariant-loop-source
invariant-loop-source l = l.used.items ≡ turns_used l.writer (take l.source-index l.sources)
