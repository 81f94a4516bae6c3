use Rattle.std.proofs.Common.{◌≡◌, take}
use Rattle.channel_plan.specs.Tokens.{tokens_among}
use Rattle.channel_plan.proofs.tokens.tokens_among.Given as goal

abbrev pub invariant-loop-turn : goal.invariant-loop-turn
invariant-loop-turn l = l.marks.items ≡ tokens_among l.turns (take l.turn-index l.used)
