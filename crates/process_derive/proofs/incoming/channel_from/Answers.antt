use Rattle.std.proofs.Common.{◌∙◌, rules, tests}
use Rattle.std.proofs.lemmas.Iterator.{YieldsList-from_slice}
use Rattle.std.proofs.lemmas.Iterator.Search.{find_from_yields_List}
use Rattle.process_derive.specs.Incoming.{comes_from}
use Rattle.process_derive.proofs.incoming.channel_from.Goals as goal

pub returns : goal.returns
returns c =
    let xs = c.args.incoming.now in
    c.copied.ensures
    ∙ find_from_yields_List (comes_from c.args.writer c.args.read) _ _ c.find.result c.find.ensures.ran
    (YieldsList-from_slice xs cc) (λ x b q k. search (rules, tests))
