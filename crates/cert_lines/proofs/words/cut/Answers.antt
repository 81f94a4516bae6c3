use Rattle.cert_lines.proofs.Cuts.{split_cut, split_none}
use Rattle.cert_lines.proofs.words.cut.Goals as goal

pub returns-in-Some : goal.returns-in-Some
returns-in-Some c =
    split_cut c.args.wanted c.args.text.now c.count_before.result c.split_at.result.0.now c.split_at.result.1.now
    c.in-Some.field-0-0.now c.in-Some.behind.now
    c.count_before.ensures.count c.split_at.ensures.front c.split_at.ensures.back c.in-Some.ensures.cases.0

pub returns-in-None : goal.returns-in-None
returns-in-None c =
    split_none c.args.wanted c.args.text.now c.count_before.result c.split_at.result.1.now c.count_before.ensures.count
    c.split_at.ensures.back c.in-None.ensures.cases
