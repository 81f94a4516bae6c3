use Rattle.std.proofs.Common.{map, subst, arith}
use Rattle.std.specs.Prelude.{All}
use Rattle.std.proofs.lemmas.List.{take_all}
use Rattle.std.proofs.lemmas.List.Elements.{All-more}
use Rattle.top_calls.specs.Ends.{Says}
use Rattle.top_calls.proofs.calls.expect_all.Goals as goal

pub loop-call-preserved : goal.loop-call-preserved
loop-call-preserved g c =
    All-more (λ call. Says (map (λ word. word.now) call.0.now) call.1.now call.2 call.3.now) c.args.calls.now
    c.loop-call.call-index _ c.loop-call-test.true c.loop-call.invariant c.in_ok-expect_end.ensures

pub returns : goal.returns
returns g c =
    subst (All (λ call. Says (map (λ word. word.now) call.0.now) call.1.now call.2 call.3.now))
    (take_all c.loop-call.call-index c.args.calls.now (omega (arith, c.loop-call-test.false))) c.loop-call.invariant
