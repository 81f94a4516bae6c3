use Rattle.tree_text.specs.Lines.{terms}
use Rattle.tree_text.proofs.TermWords.{next_terms}
use Rattle.tree_text.proofs.lines.terms.Goals as goal

pub loop-row-preserved : goal.loop-row-preserved
loop-row-preserved c =
    next_terms c.loop-row.terms c.in_ok-terms.terms c.term.result c.loop-row.words c.next.new.self
    c.next-in-Some.new.self c.in-Some.row.now c.in-Some-next.times.now (terms c.args.words)
    c.in-Some.ensures c.in-Some-next.ensures c.term.ensures c.in_ok-terms.ensures c.loop-row.invariant
