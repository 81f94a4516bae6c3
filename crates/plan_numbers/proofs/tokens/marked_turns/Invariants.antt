use Rattle.std.proofs.Common.{◌≡◌, take}
use Rattle.channel_class.specs.Classes.{has_repeat, never_falls}
use Rattle.channel_plan.specs.Tokens.{tokens_among}
use Rattle.plan_numbers.proofs.Marks.{last_of}
use Rattle.plan_numbers.proofs.tokens.marked_turns.Given as goal

-- what is told is told of the turns so far
abbrev pub invariant-loop-turn : goal.invariant-loop-turn
invariant-loop-turn l = record {
  marks : l.is_token.items ≡ tokens_among l.turns (take l.turn-index l.used);
  falls : l.never_falls ≡ never_falls (take l.turn-index l.used);
  last : l.last ≡ last_of (take l.turn-index l.used);
  repeats : l.multiplicity ≡ has_repeat (take l.turn-index l.used);
}
