use Rattle.std.proofs.Common.{map, take}
use Rattle.std.specs.Prelude.{All}
use Rattle.top_calls.specs.Ends.{BothSay}
use Rattle.top_calls.proofs.calls.expect_answers.Given as goal

-- the programs so far were answered so
abbrev pub invariant-loop-program : goal.invariant-loop-program
invariant-loop-program g l =
    All (λ it. BothSay (map (λ word. word.now) it.0.now) it.1.now 0 it.2.now) (take l.program-index l.programs)
