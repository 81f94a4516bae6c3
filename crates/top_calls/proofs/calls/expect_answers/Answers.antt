use Rattle.std.proofs.Common.{map, subst, arith}
use Rattle.std.specs.Prelude.{All}
use Rattle.std.proofs.lemmas.List.{take_all}
use Rattle.std.proofs.lemmas.List.Elements.{All-more}
use Rattle.top_calls.specs.Ends.{BothSay}
use Rattle.top_calls.proofs.calls.expect_answers.Goals as goal

pub loop-program-preserved : goal.loop-program-preserved
loop-program-preserved g c =
    All-more (λ it. BothSay (map (λ word. word.now) it.0.now) it.1.now 0 it.2.now) c.args.programs.now
    c.loop-program.program-index _ c.loop-program-test.true c.loop-program.invariant c.in_ok-expect_answer.ensures

pub returns : goal.returns
returns g c =
    subst (All (λ it. BothSay (map (λ word. word.now) it.0.now) it.1.now 0 it.2.now))
    (take_all c.loop-program.program-index c.args.programs.now (omega (arith, c.loop-program-test.false)))
    c.loop-program.invariant
