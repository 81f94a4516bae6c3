use Rattle.std.proofs.Common.{◌<◌, subst, arith}
use Rattle.std.specs.Prelude.{All}
use Rattle.std.proofs.lemmas.List.{take_all}
use Rattle.std.proofs.lemmas.List.Elements.{All-more}
use Rattle.channel_class.proofs.are_below.Goals as goal

pub loop-named-preserved : goal.loop-named-preserved
loop-named-preserved c =
    All-more (λ named. named < c.args.limit) c.args.uses.now c.loop-named.named-index 0 c.loop-named-test.true
    c.loop-named.invariant (omega arith)

pub returns : goal.returns
returns c = λ _.
    subst (All (λ named. named < c.args.limit)) (take_all c.loop-named.named-index c.args.uses.now (omega arith))
    c.loop-named.invariant
