use Rattle.std.proofs.Common.{◌≡◌, count_by, map, take}
use Rattle.channel_plan.proofs.tokens.uses_of.Given as goal

abbrev pub invariant-loop-turn : goal.invariant-loop-turn
invariant-loop-turn l =
    l.uses.items ≡ map (λ turn. count_by (λ mark. mark) (take turn l.is_token)) (take l.turn-index l.turn-items)
