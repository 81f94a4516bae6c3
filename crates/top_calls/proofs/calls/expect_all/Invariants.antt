use Rattle.std.proofs.Common.{map, take}
use Rattle.std.specs.Prelude.{All}
use Rattle.top_calls.specs.Ends.{Says}
use Rattle.top_calls.proofs.calls.expect_all.Given as goal

-- the calls so far ended so
abbrev pub invariant-loop-call : goal.invariant-loop-call
invariant-loop-call g l =
    All (λ call. Says (map (λ word. word.now) call.0.now) call.1.now call.2 call.3.now) (take l.call-index l.calls)
