use Rattle.std.proofs.Common.{◌∙◌}
use Rattle.net_checker.proofs.Turns.{once, search_found}
use Rattle.net_checker.proofs.sources.turn_of.Goals as goal

pub returns-then-is_at : goal.returns-then-is_at
returns-then-is_at c f sorted here =
    once c.args.vectors.now sorted f c.args.at.now here c.args.guess (c.is_at.ensures c.if-is_at.true)

pub returns : goal.returns
returns c f sorted here =
    c.ok.ensures.value ∙ search_found c.args.vectors.now sorted f c.args.at.now here c.binary_search.result
    c.binary_search.ensures.bound c.binary_search.ensures.position

pub returns-then-is_at-2 : goal.returns-then-is_at-2
returns-then-is_at-2 c f sorted here =
    once c.args.vectors.now sorted f c.args.at.now here c.args.second (c.is_at-2.ensures c.if-is_at-2.true)
