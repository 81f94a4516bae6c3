use Rattle.std.proofs.Common.{arith}
use Rattle.std.proofs.lemmas.Result.{on_ok_weaker}
use Rattle.tree_facts.specs.declared.search.Facts.{Facts}
use Rattle.tree_facts.proofs.Adding.{fact_more}
use Rattle.tree_facts.proofs.search.push.Goals as goal

pub returns : goal.returns
returns c =
    let more : Facts = record { cuts = c.push.new.self; rows = c.push-2.new.self } in
    on_ok_weaker c.push-2.result
    (λ rows. fact_more c.args.context.now c.args.facts.now more c.args.cut c.args.row c.requires.facts c.requires.fact
    (omega (arith, c.len.ensures, c.len-2.ensures)) c.in_ok-push.ensures.ok rows) c.push-2.ensures.ok
