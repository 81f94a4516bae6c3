use Rattle.std.proofs.Common.{◌≡◌, count_by, take}
use Rattle.channel_plan.proofs.tokens.token_count.Given as goal

abbrev pub invariant-loop-mark : goal.invariant-loop-mark
invariant-loop-mark l = l.count ≡ count_by (λ mark. mark) (take l.mark-index l.is_token)
